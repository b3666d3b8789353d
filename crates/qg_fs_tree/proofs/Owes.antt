-- What a node owes that is full or of another owner.
use Rattle.std.proofs.Common.{◌≡◌, ◌≢◌, ℕ, zero, suc, ◌<◌, ◌≤◌, Bool, true, false, List, [], ◌∷◌, ◌++◌, length, map}
use Rattle.std.proofs.Common.{get_or, Option, Some, None, arith, refl, sym, ap, ◌∙◌, inl, inr}
use Rattle.std.specs.Prelude.{◌⊎◌, ◌==◌, ◌&&◌, if◌then◌else◌}
use Rattle.std.specs.List.{Contains, filter_map, flat_map}
use Rattle.std.proofs.lemmas.Bool.{cases_Bool, cond-true, eq-eqb}
use Rattle.std.proofs.lemmas.Bool.Decides.{eqb_tells}
use Rattle.std.proofs.lemmas.List.{length-map}
use Rattle.std.proofs.lemmas.List.Concat.{flat_map-cons}
use Rattle.qg_num.specs.declared.piece.Piece.{Piece}
use Rattle.qg_items.specs.declared.extent.Reference.{Reference}
use Rattle.qg_items.specs.declared.extent.Reference.TheVariants.{KeyedBlock, SharedBlock, KeyedData, SharedData}
use Rattle.qg_image.specs.declared.part.FilePart.{FilePart}
use Rattle.qg_image.specs.declared.part.FilePart.TheVariants.{Inode, PieceOf}
use Rattle.qg_image.specs.ItemMeaning.{file_part}
use Rattle.qg_node.specs.declared.item.Item.{Item}
use Rattle.qg_node.specs.declared.node.Header.{Header}
use Rattle.qg_node.specs.declared.node.Node.{Node}
use Rattle.qg_node.specs.declared.pointer.Pointer.{Pointer}
use Rattle.qg_node.specs.Nodes.{header_of, own_items, own_pointers}
use Rattle.qg_image.specs.State.{Placed}
use Rattle.qg_image.specs.Owed.{Owing, owed_by_node, owed_by_part, owed_to_child, reference_offset}
use Rattle.qg_cow_refs.specs.Children.{keyed_children, owner_of, shared_children}
use Rattle.qg_cow_refs.proofs.CopyLaws.{owed-keyed, owed-shared}
use Rattle.qg_image.specs.Record.{same_reference}
use Rattle.qg_refs.specs.declared.counted.Counted.{Counted}
use Rattle.qg_refs.specs.Counts.{count_of, counted}
use Rattle.qg_refs.proofs.Counting.{count-cons, count-nil}
use Rattle.qg_refs.proofs.RankOrder.{same_itself}
use Rattle.qg_tree_backrefs.specs.Exchange.{times}
use Rattle.qg_tree_backrefs.proofs.ReferenceTotals.{many, total, total-cons}
use Rattle.qg_tree_backrefs.proofs.Owings.{HaveNot, addresses, children-alike, have-not-more, many-append, many-cons}
use Rattle.qg_tree_backrefs.proofs.Owings.{shared-no_block, shared-no_data}
use Rattle.qg_tree_backrefs.proofs.Times.{one_of, times-append, times-nil}
use Rattle.qg_fs_tree.specs.Standing.{name_of, name_told}
use Rattle.qg_fs_tree.proofs.Keyed.{keyed_ways}
use Rattle.qg_fs_tree.proofs.Owings.{names-no_block, names-no_shared_block, names-no_shared_data, names_of, pointing}
use Rattle.qg_fs_tree.proofs.Owings.{times-keyed}

-- a node with its mark, where one is told that is full or of another owner
abbrev pub owed_in : Option Placed → List Owing
owed_in None = []
owed_in (Some placed) = owed_by_node placed

-- what it would owe as a node of an owner that is not full
abbrev pub keyed_in : ℕ → Option Placed → List Owing
keyed_in owner None = []
keyed_in owner (Some placed) = keyed_children placed.node owner

-- the mark that a book has of it
abbrev pub mark_in : Option Placed → Bool
mark_in None = false
mark_in (Some placed) = placed.full

placed_alike : (owner : ℕ) (placed : Placed) → addresses (keyed_children placed.node owner)
    ≡ addresses (owed_by_node placed)
placed_alike owner placed = elim (cases_Bool placed.full) [
  | inl full ↦ children-alike placed.node owner ∙ sym (ap addresses (owed-shared placed full))
  | inr bare ↦
      children-alike placed.node owner
      ∙ sym (children-alike placed.node (owner_of placed))
      ∙ sym (ap addresses (owed-keyed placed bare))
]

pub in-alike : (owner : ℕ) (placed : Option Placed) → addresses (keyed_in owner placed) ≡ addresses (owed_in placed)
in-alike owner None = refl
in-alike owner (Some placed) = placed_alike owner placed

-- ---- references of an owner

-- a keyed one of it
abbrev pub is_own : ℕ → Reference → Bool
is_own owner (KeyedBlock tree) = tree == owner
is_own owner (SharedBlock parent) = false
is_own owner (KeyedData tree ino offset) = tree == owner
is_own owner (SharedData parent) = false

-- ways have no other
pub ways-other : (owner : ℕ) (w : ℕ → ℕ) (at : ℕ) (reference : Reference) → is_own owner reference ≡ false
    → keyed_ways owner w at reference ≡ 0
ways-other owner w at (KeyedBlock tree) other = ap (λ (b : Bool). if b then w at else 0) other
ways-other owner w at (SharedBlock parent) other = refl
ways-other owner w at (KeyedData tree ino offset) other = refl
ways-other owner w at (SharedData parent) other = refl

-- nor have names
abbrev one_if : Bool → ℕ
one_if b = if b then 1 else 0

one_false : (b c d : Bool) → b ≡ false → one_if ((b && c) && d) ≡ 0
one_false b c d none = ap (λ (e : Bool). one_if ((e && c) && d)) none

unnamed : (owner tree ino offset : ℕ) (names : List (ℕ × Piece)) → (tree == owner) ≡ false
    → HaveNot (KeyedData tree ino offset) (names_of owner names)
unnamed owner tree ino offset [] other at = times-nil at (KeyedData tree ino offset)
unnamed owner tree ino offset (name ∷ names) other at =
    have-not-more (KeyedData tree ino offset) (name_of owner name) (names_of owner names)
    (one_false (tree == owner) (ino == name.0) (offset == reference_offset name.1.position name.1.offset) other)
    (unnamed owner tree ino offset names other) at

pub names-other : (owner : ℕ) (names : List (ℕ × Piece)) (at : ℕ) (reference : Reference)
    → is_own owner reference ≡ false
    → times (names_of owner names) at reference ≡ 0
names-other owner names at (KeyedBlock tree) other = names-no_block owner names tree at
names-other owner names at (SharedBlock parent) other = names-no_shared_block owner names parent at
names-other owner names at (KeyedData tree ino offset) other = unnamed owner tree ino offset names other at
names-other owner names at (SharedData parent) other = names-no_shared_data owner names parent at

-- nor what is owed by keyed references of it
children_other : (node : Node) (owner at : ℕ) (reference : Reference) → is_own owner reference ≡ false
    → times (keyed_children node owner) at reference ≡ 0
children_other node owner at reference other =
    let all = times-keyed node owner at reference in
    let ways = ways-other owner (pointing (own_pointers node)) at reference other in
    let names = names-other owner (filter_map name_told (own_items node)) at reference other in
    omega (arith, all, ways, names)

pub keyed-other : (owner : ℕ) (placed : Option Placed) (at : ℕ) (reference : Reference) → is_own owner reference ≡ false
    → times (keyed_in owner placed) at reference ≡ 0
keyed-other owner None at reference other = times-nil at reference
keyed-other owner (Some placed) at reference other = children_other placed.node owner at reference other

-- ---- what a node doesn't owe

-- it is full, or another made it
abbrev pub IsForeign : ℕ → Placed → Type 0
IsForeign owner placed = (placed.full ≡ true) ⊎ (owner_of placed ≢ owner)

shared_own : (owner : ℕ) (node : Node) (at : ℕ) (reference : Reference) → is_own owner reference ≡ true
    → times (shared_children node) at reference ≡ 0
shared_own owner node at (KeyedBlock tree) own = shared-no_block node tree at
shared_own owner node at (SharedBlock parent) own = absurd cc
shared_own owner node at (KeyedData tree ino offset) own = shared-no_data node tree ino offset at
shared_own owner node at (SharedData parent) own = absurd cc

not_other : (tree owner other : ℕ) → other ≢ owner → (tree == owner) ≡ true → (tree == other) ≡ false
not_other tree owner other differs own = elim (eqb_tells tree other) [
  | inl (equal, same) ↦ elim (eqb_tells tree owner) [
    | inl (as_owner, is) ↦ absurd (differs (sym same ∙ is))
    | inr (unequal, differ) ↦ let wrong : true ≡ false = sym own ∙ unequal in absurd cc
  ]
  | inr (unequal, differ) ↦ unequal
]

pub not-both : (owner other : ℕ) (reference : Reference) → other ≢ owner → is_own owner reference ≡ true
    → is_own other reference ≡ false
not-both owner other (KeyedBlock tree) differs own = not_other tree owner other differs own
not-both owner other (SharedBlock parent) differs own = refl
not-both owner other (KeyedData tree ino offset) differs own = not_other tree owner other differs own
not-both owner other (SharedData parent) differs own = refl

bare_own : (owner : ℕ) (placed : Placed) (at : ℕ) (reference : Reference) → placed.full ≡ false
    → owner_of placed ≢ owner → is_own owner reference ≡ true
    → times (owed_by_node placed) at reference ≡ 0
bare_own owner placed at reference bare differs own =
    ap (λ (owed : List Owing). times owed at reference) (owed-keyed placed bare)
    ∙ children_other placed.node (owner_of placed) at reference (not-both owner (owner_of placed) reference differs own)

full_own : (owner : ℕ) (placed : Placed) (at : ℕ) (reference : Reference) → placed.full ≡ true
    → is_own owner reference ≡ true
    → times (owed_by_node placed) at reference ≡ 0
full_own owner placed at reference full own =
    ap (λ (owed : List Owing). times owed at reference) (owed-shared placed full)
    ∙ shared_own owner placed.node at reference own

-- no reference of the owner
foreign_own : (owner : ℕ) (placed : Placed) (at : ℕ) (reference : Reference) → IsForeign owner placed
    → is_own owner reference ≡ true
    → times (owed_by_node placed) at reference ≡ 0
foreign_own owner placed at reference (inl full) own = full_own owner placed at reference full own
foreign_own owner placed at reference (inr differs) own = elim (cases_Bool placed.full) [
  | inl full ↦ full_own owner placed at reference full own
  | inr bare ↦ bare_own owner placed at reference bare differs own
]

pub owed-own : (owner : ℕ) (placed : Option Placed) (at : ℕ) (reference : Reference)
    → ((some : Placed) → placed ≡ Some some → IsForeign owner some) → is_own owner reference ≡ true
    → times (owed_in placed) at reference ≡ 0
owed-own owner None at reference foreign own = times-nil at reference
owed-own owner (Some placed) at reference foreign own =
    foreign_own owner placed at reference (foreign placed refl) own

-- ---- shared references tell the node that owes them

pub pointers-have-not : (header : Header) (full : Bool) (reference : Reference)
    → ((child : ℕ) → one_of reference (owed_to_child header full child).reference ≡ 0)
    → (pointers : List Pointer)
    → HaveNot reference (map (λ pointer. owed_to_child header full pointer.child) pointers)
pointers-have-not header full reference differs [] at = times-nil at reference
pointers-have-not header full reference differs (pointer ∷ pointers) at =
    have-not-more reference (owed_to_child header full pointer.child)
    (map (λ (p : Pointer). owed_to_child header full p.child) pointers) (differs pointer.child)
    (pointers-have-not header full reference differs pointers) at

part_has_not : (header : Header) (full : Bool) (reference : Reference)
    → one_of reference (SharedData header.address) ≡ 0
    → ((tree ino offset : ℕ) → one_of reference (KeyedData tree ino offset) ≡ 0)
    → (part : Option FilePart) (owed : List Owing) → HaveNot reference owed
    → HaveNot reference (owed_by_part header full part ++ owed)
part_has_not header full reference shared keyed None owed none at = none at
part_has_not header full reference shared keyed (Some (Inode ino inode)) owed none at = none at
part_has_not header true reference shared keyed (Some (PieceOf ino piece)) owed none at =
    have-not-more reference (record { address = piece.extent; reference = SharedData header.address }) owed shared
    none at
part_has_not header false reference shared keyed (Some (PieceOf ino piece)) owed none at =
    have-not-more reference (record {
      address = piece.extent;
      reference = KeyedData header.owner ino (reference_offset piece.position piece.offset);
    }) owed
    (keyed header.owner ino (reference_offset piece.position piece.offset)) none at

pub items-have-not : (header : Header) (full : Bool) (reference : Reference)
    → one_of reference (SharedData header.address) ≡ 0
    → ((tree ino offset : ℕ) → one_of reference (KeyedData tree ino offset) ≡ 0)
    → (items : List Item)
    → HaveNot reference (flat_map (λ item. owed_by_part header full (file_part item)) items)
items-have-not header full reference shared keyed [] at = times-nil at reference
items-have-not header full reference shared keyed (item ∷ items) at =
    ap (λ (owed : List Owing). times owed at reference)
    (flat_map-cons (λ (i : Item). owed_by_part header full (file_part i)) item items)
    ∙ part_has_not header full reference shared keyed (file_part item)
    (flat_map (λ (i : Item). owed_by_part header full (file_part i)) items)
    (items-have-not header full reference shared keyed items) at

pub node-parts : (placed : Placed) → owed_by_node placed
    ≡ map (λ pointer. owed_to_child (header_of placed.node) placed.full pointer.child) (own_pointers placed.node)
    ++ flat_map (λ item. owed_by_part (header_of placed.node) placed.full (file_part item)) (own_items placed.node)
unfolding owed_by_node
node-parts placed = refl

node_has_not : (placed : Placed) (reference : Reference)
    → ((child : ℕ) → one_of reference (owed_to_child (header_of placed.node) placed.full child).reference ≡ 0)
    → one_of reference (SharedData (header_of placed.node).address) ≡ 0
    → ((tree ino offset : ℕ) → one_of reference (KeyedData tree ino offset) ≡ 0)
    → HaveNot reference (owed_by_node placed)
node_has_not placed reference child shared keyed at =
    let pointers = pointers-have-not (header_of placed.node) placed.full reference child
    (own_pointers placed.node) at in
    let items = items-have-not (header_of placed.node) placed.full reference shared keyed (own_items placed.node) at in
    let both = times-append
    (map (λ (p : Pointer). owed_to_child (header_of placed.node) placed.full p.child) (own_pointers placed.node))
    (flat_map (λ (i : Item). owed_by_part (header_of placed.node) placed.full (file_part i)) (own_items placed.node))
    at reference in
    let all = ap (λ (owed : List Owing). times owed at reference) (node-parts placed) in
    omega (arith, pointers, items, both, all)

block_child : (header : Header) (full : Bool) (parent child : ℕ) → (parent == header.address) ≡ false
    → one_of (SharedBlock parent) (owed_to_child header full child).reference ≡ 0
block_child header true parent child other = ap (λ (b : Bool). if b then 1 else 0) other
block_child header false parent child other = refl

data_child : (header : Header) (full : Bool) (parent child : ℕ)
    → one_of (SharedData parent) (owed_to_child header full child).reference ≡ 0
data_child header true parent child = refl
data_child header false parent child = refl

unequal_of : (a b : ℕ) → a ≢ b → (a == b) ≡ false
unequal_of a b differ = elim (eqb_tells a b) [
  | inl (equal, same) ↦ absurd (differ same)
  | inr (unequal, other) ↦ unequal
]

-- by no other parent
pub owed-parent : (placed : Option Placed) (parent at : ℕ)
    → ((some : Placed) → placed ≡ Some some → (header_of some.node).address ≢ parent)
    → (times (owed_in placed) at (SharedBlock parent) ≡ 0) × (times (owed_in placed) at (SharedData parent) ≡ 0)
owed-parent None parent at differs = (times-nil at (SharedBlock parent), times-nil at (SharedData parent))
owed-parent (Some placed) parent at differs =
    let other : (parent == (header_of placed.node).address) ≡ false = unequal_of parent (header_of placed.node).address
    (λ same. differs placed refl (sym same)) in (
      node_has_not placed (SharedBlock parent)
          (λ child. block_child (header_of placed.node) placed.full parent child other) refl
          (λ tree ino offset. refl) at,
      node_has_not placed (SharedData parent)
          (λ child. data_child (header_of placed.node) placed.full parent child)
          (ap (λ (b : Bool). if b then 1 else 0) other) (λ tree ino offset. refl) at,
    )

-- ---- what leads to a child

child_address : (header : Header) (full : Bool) (child : ℕ) → (owed_to_child header full child).address ≡ child
child_address header true child = refl
child_address header false child = refl

child_here : (address at : ℕ) → address ≡ at → one_if (address == at) ≡ 1
child_here address at same = ap one_if (eq-eqb address at same)

pointers_lead : (header : Header) (full : Bool) (pointers : List Pointer) (at i : ℕ) → i < length pointers
    → get_or (map (λ pointer. pointer.child) pointers) i at ≡ at
    → 0 < many (map (λ pointer. owed_to_child header full pointer.child) pointers) at
pointers_lead header full [] at i inside is = absurd (omega (arith, inside))
pointers_lead header full (pointer ∷ pointers) at zero inside is =
    let first = many-cons (owed_to_child header full pointer.child)
    (map (λ (p : Pointer). owed_to_child header full p.child) pointers) at in
    let here = child_here (owed_to_child header full pointer.child).address at
    (child_address header full pointer.child ∙ is) in
    omega (arith, first, here)
pointers_lead header full (pointer ∷ pointers) at (suc i) inside is =
    let first = many-cons (owed_to_child header full pointer.child)
    (map (λ (p : Pointer). owed_to_child header full p.child) pointers) at in
    let rest = pointers_lead header full pointers at i (omega (arith, inside)) is in
    omega (arith, first, rest)

pub many-child : (placed : Placed) (at : ℕ)
    → Contains (map (λ pointer. pointer.child) (own_pointers placed.node)) at
    → 0 < many (owed_by_node placed) at
many-child placed at has =
    let count : length (map (λ (p : Pointer). p.child) (own_pointers placed.node)) ≡ length (own_pointers placed.node) =
    length-map (own_pointers placed.node) (λ (p : Pointer). p.child) in
    let within = has.1 in
    let inside : has.0 < length (own_pointers placed.node) = omega (arith, count, within) in
    let lead = pointers_lead (header_of placed.node) placed.full (own_pointers placed.node) at has.0 inside has.2 in
    let both = many-append
    (map (λ (p : Pointer). owed_to_child (header_of placed.node) placed.full p.child) (own_pointers placed.node))
    (flat_map (λ (i : Item). owed_by_part (header_of placed.node) placed.full (file_part i)) (own_items placed.node))
    at in
    let all = ap (λ (owed : List Owing). many owed at) (node-parts placed) in
    omega (arith, lead, both, all)

-- ---- how many references there are

-- one that is there once is not all where there are two
pub length-more : (references : List Counted) (reference : Reference) → count_of references reference ≡ 1
    → 2 ≤ total references
    → 2 ≤ length references
length-more [] reference one two = absurd (omega (arith, two))
length-more (entry ∷ []) reference one two =
    let count = count-cons entry [] reference in
    let none = count-nil reference in
    let sum = total-cons entry [] in
    absurd (lone (same_reference reference entry.reference) entry.count (omega (arith, sum, two))
    (omega (arith, count, none, one))) where
      lone : (same : Bool) (n : ℕ) → 2 ≤ n → (if same then n else 0) ≡ 1 → ⊥
      lone true n two one = omega (arith, two, one)
      lone false n two one = omega (arith, one)
length-more (entry ∷ other ∷ references) reference one two = omega arith

-- one is there where there are any
pub some-reference : (references : List Counted) → 0 < total references
    → (reference : Reference) × (0 < count_of references reference)
some-reference [] some = absurd (omega (arith, some))
some-reference (entry ∷ references) some = from (λ more. some-reference references more) entry.count refl where
  from : (0 < total references → (reference : Reference) × (0 < count_of references reference)) → (n : ℕ)
      → entry.count ≡ n
      → (reference : Reference) × (0 < count_of (entry ∷ references) reference)
  from later zero none =
      let sum = total-cons entry references in
      let rest = later (omega (arith, sum, some, none)) in
      let count = count-cons entry references rest.0 in
      let more = rest.1 in
      (rest.0, omega (arith, count, more))
  from later (suc n) is =
      let count = count-cons entry references entry.reference in
      let here : counted entry.reference entry ≡ entry.count = cond-true _ _ _ (same_itself entry.reference) in
      (entry.reference, omega (arith, count, here, is))
