-- Nodes that a tree reaches: what they lead to, and what they owe.
use Rattle.std.proofs.Common.{◌≡◌, ◌≢◌, ℕ, zero, suc, ◌+◌, ◌*◌, ◌<◌, ◌≤◌, Bool, true, false, List, [], ◌∷◌, length}
use Rattle.std.proofs.Common.{get_or, map, Option, Some, None, arith, refl, sym, ap, subst, ◌∙◌, inl, inr}
use Rattle.std.specs.Prelude.{◌⊎◌, ◌==◌, if◌then◌else◌, slice_get}
use Rattle.std.specs.List.{Contains, filter_map, flat_map, sum_by}
use Rattle.std.proofs.lemmas.Bool.{eq-eqb}
use Rattle.std.proofs.lemmas.Bool.Decides.{eqb_tells}
use Rattle.std.proofs.lemmas.List.Sums.{count_by-le-length}
use Rattle.std.proofs.lemmas.List.Concat.{flat_map-cons}
use Rattle.std.proofs.lemmas.List.Sums.{sum_by-cons}
use Rattle.qg_num.specs.declared.piece.Piece.{Piece}
use Rattle.qg_node.specs.declared.item.Item.{Item}
use Rattle.qg_node.specs.declared.node.Header.{Header}
use Rattle.qg_node.specs.declared.node.Node.{Node}
use Rattle.qg_node.specs.declared.node.Node.TheVariants.{Leaf, Inner}
use Rattle.qg_node.specs.declared.pointer.Pointer.{Pointer}
use Rattle.qg_node.specs.Nodes.{header_of, item_bytes, items_bytes, own_items, own_pointers, used_bytes}
use Rattle.qg_items.specs.declared.extent.Reference.{Reference}
use Rattle.qg_items.specs.declared.extent.Reference.TheVariants.{KeyedBlock, SharedBlock, KeyedData, SharedData}
use Rattle.qg_image.specs.State.{Placed}
use Rattle.qg_image.specs.Record.{same_reference}
use Rattle.qg_image.specs.Owed.{Owing, owed_by_node, owed_by_part, owed_to_child, reference_offset}
use Rattle.qg_image.proofs.Contained.{contains_cases, contains_here, contains_later, none_contained}
use Rattle.qg_cow_refs.specs.Children.{keyed_children, way_to}
use Rattle.qg_tree_edits.specs.Branch.{IsBranch}
use Rattle.qg_tree_edits.specs.Tree.{Reaches, Root}
use Rattle.qg_tree_edits.proofs.Branches.{branch-below}
use Rattle.qg_refs.specs.Counts.{greatest_count}
use Rattle.qg_super.specs.declared.superblock.Super.{Super}
use Rattle.qg_image.specs.declared.tree.TreeKind.{TreeKind}
use Rattle.qg_image.specs.declared.part.FilePart.{FilePart}
use Rattle.qg_image.specs.declared.part.FilePart.TheVariants.{Inode, PieceOf}
use Rattle.qg_image.specs.ItemMeaning.{file_part}
use Rattle.qg_tree_edits.specs.Counting.{one, ways}
use Rattle.qg_tree_edits.proofs.Ways.{one-here, one-other, sum-some, ways-inner}
use Rattle.qg_tree_backrefs.specs.Exchange.{those_at, times}
use Rattle.qg_tree_backrefs.proofs.ReferenceTotals.{many}
use Rattle.qg_tree_backrefs.proofs.Owings.{many-alike, many-append, many-cons, times-cons}
use Rattle.qg_tree_backrefs.proofs.Times.{one_of, times-append, times-nil}
use Rattle.qg_fs_tree.specs.Standing.{name_of, name_told}
use Rattle.qg_fs_tree.proofs.Keyed.{times-way}
use Rattle.qg_fs_tree.proofs.Owes.{in-alike, is_own, items-have-not, node-parts, not-both, pointers-have-not}
use Rattle.qg_fs_tree.proofs.Owes.{ways-other}
use Rattle.qg_fs_tree.proofs.Owings.{keyed-parts, names_of, pointing}
use Rattle.qg_fs_tree.proofs.Beside.{roots_owed}
use Rattle.qg_fs_tree.proofs.Turned.{children_of}

-- ---- the last step of a way

-- a node that is reached leads to an address
pub record IsLastStep (nodes : ℕ → Option Node) (level from q : ℕ) : Type 0 where
  pub by : ℕ
  pub reached : Reaches nodes level from by
  pub node : Node
  pub there : nodes by ≡ Some node
  pub leads : Contains (children_of node) q

child_among : (pointers : List Pointer) (place : ℕ) (pointer : Pointer) → slice_get pointers place ≡ Some pointer
    → Contains (map (λ p. p.child) pointers) pointer.child
child_among [] place pointer there = absurd cc
child_among (first ∷ pointers) zero pointer there =
    let same : first ≡ pointer = cc in
    subst (λ (p : Pointer). Contains (map (λ (o : Pointer). o.child) (first ∷ pointers)) p.child) same
    (contains_here first.child (map (λ (o : Pointer). o.child) pointers))
child_among (first ∷ pointers) (suc place) pointer there =
    contains_later first.child (map (λ (o : Pointer). o.child) pointers) pointer.child
    (child_among pointers place pointer there)

pub last-step : (nodes : ℕ → Option Node) (level from q : ℕ) → Reaches nodes level from q
    → (q ≡ from) ⊎ IsLastStep nodes level from q
unfolding Reaches
last-step nodes zero from q reaches = inl reaches
last-step nodes (suc level) from q (inl here) = inl here
last-step nodes (suc level) from q (inr (node, is, place, pointer, there, reaches)) =
    elim (last-step nodes level pointer.child q reaches) [
      | inl same ↦ inr (record {
        by = from;
        reached = inl refl;
        node = node;
        there = is;
        leads = subst (λ (c : ℕ). Contains (children_of node) c) (sym same)
            (child_among (own_pointers node) place pointer there);
      })
      | inr step ↦ inr (record {
        by = step.by;
        reached = inr (node, is, place, pointer, there, step.reached);
        node = step.node;
        there = step.there;
        leads = step.leads;
      })
    ]

-- ---- pointers are no more than ways

one_way : (nodes : ℕ → Option Node) (level from q : ℕ) → one from q ≤ ways nodes level from q
unfolding ways
one_way nodes zero from q = omega arith
one_way nodes (suc level) from q = omega arith

pointing_ways : (nodes : ℕ → Option Node) (level : ℕ) (pointers : List Pointer) (q : ℕ)
    → pointing pointers q ≤ sum_by (λ pointer. ways nodes level pointer.child q) pointers
pointing_ways nodes level [] q = omega arith
pointing_ways nodes level (pointer ∷ pointers) q =
    let first = sum_by-cons (λ (p : Pointer). one p.child q) pointer pointers in
    let last = sum_by-cons (λ (p : Pointer). ways nodes level p.child q) pointer pointers in
    let here = one_way nodes level pointer.child q in
    let rest = pointing_ways nodes level pointers q in
    omega (arith, first, last, here, rest)

module _ (tree : TreeKind) (super : Super) (nodes : ℕ → Option Node) where
  top_same : (o : Option Node) (node other : Node) → o ≡ Some node → o ≡ Some other → node ≡ other
  top_same o node other is there = let e : Some node ≡ Some other = sym is ∙ there in cc

  pub pointing-few : (level from : ℕ) (items : List Item) → IsBranch tree super nodes level from items
      → (s : ℕ) → Reaches nodes level from s → (node : Node) → nodes s ≡ Some node → (q : ℕ)
      → pointing (own_pointers node) q ≤ ways nodes level from q
  unfolding IsBranch Reaches
  pointing-few zero from items branch s reaches node is q =
      let same = top_same (nodes from) node (Leaf branch.0 items) (sym (ap nodes reaches) ∙ is) branch.1 in
      let none : pointing (own_pointers node) q ≡ 0 = ap (λ (n : Node). pointing (own_pointers n) q) same in
      omega (arith, none)
  pointing-few (suc level) from items branch s (inl here) node is q =
      let same = top_same (nodes from) node (Inner branch.0 branch.1) (sym (ap nodes here) ∙ is) branch.2 in
      let own : pointing (own_pointers node) q ≡ pointing branch.1 q = ap (λ (n : Node). pointing (own_pointers n) q)
      same in
      let all = ways-inner nodes level from branch.0 branch.1 branch.2 q in
      let few = pointing_ways nodes level branch.1 q in
      omega (arith, own, all, few)
  pointing-few (suc level) from items branch s (inr (top, here, place, pointer, lies, below)) node is q =
      let found = branch-below tree super nodes level from items branch top here place pointer lies in
      let rest = pointing-few level pointer.child found.0 found.3 s below node is q in
      let same = top_same (nodes from) top (Inner branch.0 branch.1) here branch.2 in
      let lies_there = subst (λ (n : Node). slice_get (own_pointers n) place ≡ Some pointer) same lies in
      let part = sum-some (λ (p : Pointer). ways nodes level p.child q) branch.1 place pointer lies_there in
      let all = ways-inner nodes level from branch.0 branch.1 branch.2 q in
      omega (arith, rest, part, all)

-- ---- how much a node owes to an address

one_most : (owing : Owing) (at : ℕ) → many (owing ∷ []) at ≤ 1
one_most owing at =
    let first = many-cons owing [] at in
    let few = if_most (owing.address == at) in
    omega (arith, first, few) where
      if_most : (b : Bool) → (if b then 1 else 0) ≤ 1
      if_most true = omega arith
      if_most false = omega arith

one_swap : (a b : ℕ) → ◌≡◌ {A = ℕ} (if a == b then 1 else 0) (one a b)
one_swap a b = elim (eqb_tells a b) [
  | inl (equal, same) ↦ ap {B = ℕ} (λ (t : Bool). if t then 1 else 0) equal ∙ sym (one-here a b (sym same))
  | inr (unequal, differ) ↦
      ap {B = ℕ} (λ (t : Bool). if t then 1 else 0) unequal
      ∙ sym (one-other a b (λ (same : b ≡ a). differ (sym same)))
]

child_is : (header : Header) (full : Bool) (child : ℕ) → (owed_to_child header full child).address ≡ child
child_is header true child = refl
child_is header false child = refl

pointers_many : (header : Header) (full : Bool) (pointers : List Pointer) (at : ℕ)
    → many (map (λ pointer. owed_to_child header full pointer.child) pointers) at ≡ pointing pointers at
pointers_many header full [] at = refl
pointers_many header full (pointer ∷ pointers) at =
    let first = many-cons (owed_to_child header full pointer.child)
    (map (λ (p : Pointer). owed_to_child header full p.child) pointers) at in
    let there = ap {B = ℕ} (λ (a : ℕ). if a == at then 1 else 0) (child_is header full pointer.child) in
    let swapped = one_swap pointer.child at in
    let rest = pointers_many header full pointers at in
    let last = sum_by-cons (λ (p : Pointer). one p.child at) pointer pointers in
    omega (arith, first, there, swapped, rest, last)

part_many : (header : Header) (full : Bool) (part : Option FilePart) (at : ℕ) → many (owed_by_part header full part) at
    ≤ 1
part_many header full None at = omega arith
part_many header full (Some (Inode ino inode)) at = omega arith
part_many header true (Some (PieceOf ino piece)) at =
    one_most (record { address = piece.extent; reference = SharedData header.address }) at
part_many header false (Some (PieceOf ino piece)) at =
    one_most (record {
      address = piece.extent;
      reference = KeyedData header.owner ino (reference_offset piece.position piece.offset);
    }) at

items_many : (header : Header) (full : Bool) (items : List Item) (at : ℕ)
    → many (flat_map (λ item. owed_by_part header full (file_part item)) items) at ≤ length items
items_many header full [] at = omega arith
items_many header full (item ∷ items) at =
    let parts = ap (λ (xs : List Owing). many xs at)
    (flat_map-cons (λ (i : Item). owed_by_part header full (file_part i)) item items) in
    let both = many-append (owed_by_part header full (file_part item))
    (flat_map (λ (i : Item). owed_by_part header full (file_part i)) items) at in
    let here = part_many header full (file_part item) at in
    let rest = items_many header full items at in
    omega (arith, parts, both, here, rest)

pub times-many : (xs : List Owing) (at : ℕ) (reference : Reference) → times xs at reference ≤ many xs at
unfolding times
times-many xs at reference = omega (arith, count_by-le-length (same_reference reference) (those_at xs at))

-- ---- each reference that a node owes may be counted

items_short : (items : List Item) → 25 * length items ≤ items_bytes items
items_short [] = omega arith
items_short (item ∷ items) =
    let both = sum_by-cons item_bytes item items in
    let rest = items_short items in
    omega (arith, both, rest)

own_short : (node : Node) → 25 * length (own_items node) ≤ used_bytes node
own_short (Leaf header items) = items_short items
own_short (Inner header pointers) = omega arith

module _ (placed : Placed) (at : ℕ) where
  abbrev pointers_part : List Owing
  pointers_part = map (λ pointer. owed_to_child (header_of placed.node) placed.full pointer.child)
      (own_pointers placed.node)

  abbrev items_part : List Owing
  items_part = flat_map (λ item. owed_by_part (header_of placed.node) placed.full (file_part item))
      (own_items placed.node)

  parts_of : (reference : Reference) → times (owed_by_node placed) at reference
      ≡ times pointers_part at reference + times items_part at reference
  parts_of reference =
      ap (λ (xs : List Owing). times xs at reference) (node-parts placed)
      ∙ times-append pointers_part items_part at reference

  many-parts : many (owed_by_node placed) at ≡ pointing (own_pointers placed.node) at + many items_part at
  many-parts =
      let parts = ap (λ (xs : List Owing). many xs at) (node-parts placed) in
      let both = many-append pointers_part items_part at in
      let pointers = pointers_many (header_of placed.node) placed.full (own_pointers placed.node) at in
      omega (arith, parts, both, pointers)

  -- to a node
  block_few : (reference : Reference) → one_of reference (SharedData (header_of placed.node).address) ≡ 0
      → ((tree ino offset : ℕ) → one_of reference (KeyedData tree ino offset) ≡ 0)
      → times (owed_by_node placed) at reference ≤ pointing (own_pointers placed.node) at
  block_few reference shared keyed =
      let parts = parts_of reference in
      let none = items-have-not (header_of placed.node) placed.full reference shared keyed (own_items placed.node) at in
      let few = times-many pointers_part at reference in
      let pointers = pointers_many (header_of placed.node) placed.full (own_pointers placed.node) at in
      omega (arith, parts, none, few, pointers)

  data_child : (header : Header) (full : Bool) (reference : Reference)
      → one_of reference (SharedBlock header.address) ≡ 0 → one_of reference (KeyedBlock header.owner) ≡ 0
      → (child : ℕ) → one_of reference (owed_to_child header full child).reference ≡ 0
  data_child header true reference shared keyed child = shared
  data_child header false reference shared keyed child = keyed

  -- to an extent
  data_few : (reference : Reference) → one_of reference (SharedBlock (header_of placed.node).address) ≡ 0
      → one_of reference (KeyedBlock (header_of placed.node).owner) ≡ 0
      → times (owed_by_node placed) at reference ≤ length (own_items placed.node)
  data_few reference shared keyed =
      let parts = parts_of reference in
      let none = pointers-have-not (header_of placed.node) placed.full reference
      (data_child (header_of placed.node) placed.full reference shared keyed) (own_pointers placed.node) at in
      let few = times-many items_part at reference in
      let items = items_many (header_of placed.node) placed.full (own_items placed.node) at in
      omega (arith, parts, none, few, items)

  pub owed-few : pointing (own_pointers placed.node) at ≤ 1 → used_bytes placed.node ≤ 65536
      → (reference : Reference)
      → times (owed_by_node placed) at reference ≤ greatest_count reference
  owed-few single room (KeyedBlock tree) =
      let few = block_few (KeyedBlock tree) refl (λ t i o. refl) in omega (arith, few, single)
  owed-few single room (SharedBlock parent) =
      let few = block_few (SharedBlock parent) refl (λ t i o. refl) in omega (arith, few, single)
  owed-few single room (KeyedData tree ino offset) =
      let few = data_few (KeyedData tree ino offset) refl refl in
      let short = own_short placed.node in
      omega (arith, few, short, room)
  owed-few single room (SharedData parent) =
      let few = data_few (SharedData parent) refl refl in
      let short = own_short placed.node in
      omega (arith, few, short, room)

-- ---- what a node owes something to is a child of it, or an extent that it names

pointing_some : (pointers : List Pointer) (at : ℕ) → 0 < pointing pointers at
    → Contains (map (λ pointer. pointer.child) pointers) at
pointing_some [] at some = absurd (omega (arith, some))
pointing_some (pointer ∷ pointers) at some = elim (eqb_tells at pointer.child) [
  | inl (equal, same) ↦
      subst (λ (c : ℕ). Contains (map (λ (p : Pointer). p.child) (pointer ∷ pointers)) c) (sym same)
      (contains_here pointer.child (map (λ (p : Pointer). p.child) pointers))
  | inr (unequal, differ) ↦
      let none = one-other pointer.child at differ in
      let both = sum_by-cons (λ (p : Pointer). one p.child at) pointer pointers in
      contains_later pointer.child (map (λ (p : Pointer). p.child) pointers) at
      (pointing_some pointers at (omega (arith, some, none, both)))
]

-- a name of an extent
pub record IsNamed (names : List (ℕ × Piece)) (at : ℕ) : Type 0 where
  pub name : ℕ × Piece
  pub among : Contains names name
  pub is : name.1.extent ≡ at

pub names-some : (owner : ℕ) (names : List (ℕ × Piece)) (at : ℕ) → 0 < many (names_of owner names) at
    → IsNamed names at
names-some owner [] at some = absurd (omega (arith, some))
names-some owner (name ∷ names) at some = elim (eqb_tells name.1.extent at) [
  | inl (equal, same) ↦ record { name = name; among = contains_here name names; is = same }
  | inr (unequal, differ) ↦
      let none = ap {B = ℕ} (λ (t : Bool). if t then 1 else 0) unequal in
      let both = many-cons (name_of owner name) (names_of owner names) at in
      let rest = names-some owner names at (omega (arith, some, none, both)) in
      record { name = rest.name; among = contains_later name names rest.name rest.among; is = rest.is }
]

ways_many : (pointers : List Pointer) (at : ℕ)
    → many (map (λ pointer. way_to pointer.child 0) pointers) at ≡ pointing pointers at
ways_many [] at = refl
ways_many (pointer ∷ pointers) at =
    let first = many-cons (way_to pointer.child 0) (map (λ (p : Pointer). way_to p.child 0) pointers) at in
    let swapped = one_swap pointer.child at in
    let rest = ways_many pointers at in
    let last = sum_by-cons (λ (p : Pointer). one p.child at) pointer pointers in
    omega (arith, first, swapped, rest, last)

-- as often as pointers and names lead there
pub many-owed : (placed : Placed) (at : ℕ) → many (owed_by_node placed) at ≡ pointing (own_pointers placed.node) at
    + many (names_of 0 (filter_map name_told (own_items placed.node))) at
many-owed placed at =
    let alike = many-alike (keyed_children placed.node 0) (owed_by_node placed) (in-alike 0 (Some placed)) at in
    let parts = ap (λ (xs : List Owing). many xs at) (keyed-parts placed.node 0) in
    let both = many-append (map (λ (pointer : Pointer). way_to pointer.child 0) (own_pointers placed.node))
    (names_of 0 (filter_map name_told (own_items placed.node))) at in
    let pointers = ways_many (own_pointers placed.node) at in
    omega (arith, alike, parts, both, pointers)

pub owed-some : (placed : Placed) (at : ℕ) → 0 < many (owed_by_node placed) at
    → Contains (children_of placed.node) at ⊎ IsNamed (filter_map name_told (own_items placed.node)) at
owed-some placed at some = from (pointing (own_pointers placed.node) at) refl where
  from : (n : ℕ) → pointing (own_pointers placed.node) at ≡ n
      → Contains (children_of placed.node) at ⊎ IsNamed (filter_map name_told (own_items placed.node)) at
  from zero none =
      let whole = many-owed placed at in
      inr (names-some 0 (filter_map name_told (own_items placed.node)) at (omega (arith, whole, none, some)))
  from (suc n) is = inl (pointing_some (own_pointers placed.node) at (omega (arith, is)))

-- ---- roots

pub roots-own : (owner : ℕ) (trees : List Root) → ((i : ℕ) (d : Root) → i < length trees
    → (get_or trees i d).owner ≢ owner)
    → (at : ℕ) (reference : Reference) → is_own owner reference ≡ true → times (roots_owed trees) at reference ≡ 0
roots-own owner [] differ at reference own = times-nil at reference
roots-own owner (tree ∷ trees) differ at reference own =
    let first = times-cons (way_to tree.address tree.owner) (roots_owed trees) at reference in
    let way = times-way tree.owner tree.address at reference in
    let none = ways-other tree.owner (one tree.address) at reference
    (not-both owner tree.owner reference (differ 0 tree (omega arith)) own) in
    let rest = roots-own owner trees (λ i d inside. differ (suc i) d (omega (arith, inside))) at reference own in
    omega (arith, first, way, none, rest)

pub roots-shared : (trees : List Root) (parent at : ℕ)
    → (times (roots_owed trees) at (SharedBlock parent) ≡ 0) × (times (roots_owed trees) at (SharedData parent) ≡ 0)
roots-shared [] parent at = (times-nil at (SharedBlock parent), times-nil at (SharedData parent))
roots-shared (tree ∷ trees) parent at =
    let rest = roots-shared trees parent at in (
      times-cons (way_to tree.address tree.owner) (roots_owed trees) at (SharedBlock parent)
          ∙ (let way = times-way tree.owner tree.address at (SharedBlock parent) in
          let none = rest.0 in omega (arith, way, none)),
      times-cons (way_to tree.address tree.owner) (roots_owed trees) at (SharedData parent)
          ∙ (let way = times-way tree.owner tree.address at (SharedData parent) in
          let none = rest.1 in omega (arith, way, none)),
    )

-- a tree whose root lies there
pub record IsRootOf (trees : List Root) (at : ℕ) : Type 0 where
  pub tree : Root
  pub among : Contains trees tree
  pub is : tree.address ≡ at

pub roots-some : (trees : List Root) (at : ℕ) → 0 < many (roots_owed trees) at → IsRootOf trees at
roots-some [] at some = absurd (omega (arith, some))
roots-some (tree ∷ trees) at some = elim (eqb_tells tree.address at) [
  | inl (equal, same) ↦ record { tree = tree; among = contains_here tree trees; is = same }
  | inr (unequal, differ) ↦
      let none = ap {B = ℕ} (λ (t : Bool). if t then 1 else 0) unequal in
      let both = many-cons (way_to tree.address tree.owner) (roots_owed trees) at in
      let rest = roots-some trees at (omega (arith, some, none, both)) in
      record { tree = rest.tree; among = contains_later tree trees rest.tree rest.among; is = rest.is }
]

pub roots-there : (trees : List Root) (tree : Root) → Contains trees tree → 0 < many (roots_owed trees) tree.address
roots-there [] tree has = absurd (none_contained tree has)
roots-there (first ∷ trees) tree has =
    let both = many-cons (way_to first.address first.owner) (roots_owed trees) tree.address in
    elim (contains_cases first trees tree has) [
      | inl same ↦
          let here : (if first.address == tree.address then 1 else 0) ≡ 1 =
          ap {B = ℕ} (λ (t : Bool). if t then 1 else 0)
          (eq-eqb first.address tree.address (ap (λ (r : Root). r.address) same)) in
          omega (arith, both, here)
      | inr later ↦ let rest = roots-there trees tree later in omega (arith, both, rest)
    ]
