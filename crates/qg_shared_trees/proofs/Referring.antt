-- Who owes a reference to what begins at an address: a subvolume to its root, and a node to what it leads to or names.
use Rattle.std.proofs.Common.{◌≡◌, ℕ, ◌<◌, Bool, true, false, List, [], ◌∷◌, length, map, Option, Some, None, arith}
use Rattle.std.proofs.Common.{refl, sym, ap, subst, ◌∙◌, ◌⊎◌, inl, inr}
use Rattle.std.specs.List.{Contains, cons_option, filter_map, flat_map}
use Rattle.std.specs.Option.{option_and_then}
use Rattle.std.proofs.lemmas.Bool.Decides.{eqb_tells}
use Rattle.std.proofs.lemmas.List.Elements.{Contains-append_cases, Contains-append_left, Contains-append_right}
use Rattle.std.proofs.lemmas.Option.{same_Some}
use Rattle.qg_num.specs.declared.piece.Piece.{Piece}
use Rattle.qg_node.specs.declared.item.Item.{Item}
use Rattle.qg_node.specs.declared.pointer.Pointer.{Pointer}
use Rattle.qg_node.specs.declared.node.Header.{Header}
use Rattle.qg_node.specs.declared.node.Node.{Node}
use Rattle.qg_node.specs.Nodes.{header_of, own_items, own_pointers}
use Rattle.qg_items.specs.declared.extent.Reference.{Reference}
use Rattle.qg_items.specs.declared.extent.Reference.TheVariants.{KeyedData, SharedData}
use Rattle.qg_image.specs.declared.part.FilePart.{FilePart}
use Rattle.qg_image.specs.declared.part.FilePart.TheVariants.{Inode, PieceOf}
use Rattle.qg_image.specs.ItemMeaning.{file_part}
use Rattle.qg_image.specs.declared.element.Element.{Element}
use Rattle.qg_image.specs.Owed.{Owing, layout_extents, owed, owed_by_node, owed_by_part, owed_count, owed_to_child}
use Rattle.qg_image.specs.Owed.{reference_offset}
use Rattle.qg_image.specs.Reach.{extent_of, piece_of_part, pieces_of}
use Rattle.qg_image.specs.State.{Layout, Placed}
use Rattle.qg_image.proofs.Contained.{contains_cases, contains_here, contains_later, none_contained}
use Rattle.qg_cow_refs.specs.Children.{way_to}
use Rattle.qg_refs.specs.declared.counted.Counted.{Counted}
use Rattle.qg_refs.specs.Book.{Book, AgreesWithOwed, IsBook, count_at, references_at}
use Rattle.qg_refs.specs.Counts.{IsRefList, count_of}
use Rattle.qg_refs.proofs.Counting.{count-cons, count-nil, counted-own}
use Rattle.qg_reach.proofs.Members.{contains_flat_map, contains_map, one_flat_mapped, one_mapped}
use Rattle.qg_tree_backrefs.specs.Exchange.{times}
use Rattle.qg_tree_backrefs.specs.Following.{references_to}
use Rattle.qg_tree_backrefs.proofs.Owings.{times-cons}
use Rattle.qg_tree_backrefs.proofs.Times.{times-nil, times-own, times_there}

-- the addresses that a node's pointers lead to, and the extents that it names
abbrev pub children_of : Node → List ℕ
children_of node = map (λ (pointer : Pointer). pointer.child) (own_pointers node)

abbrev pub named_by : Node → List Element
named_by node = map extent_of (pieces_of node)

-- ---- lists

-- what a part of a list gives is of one of the list
some_here : {B : Type 0} (here : Option B) (rest : List B) (y : B) → Contains (cons_option here rest) y
    → (here ≡ Some y) ⊎ Contains rest y
some_here {B} None rest y has = inr has
some_here {B} (Some first) rest y has = elim (contains_cases first rest y has) [
  | inl same ↦ inl (ap Some same)
  | inr later ↦ inr later
]

pub one_filtered : {A B : Type 0} (f : A → Option B) (xs : List A) (y : B) → Contains (filter_map f xs) y
    → (x : A) × Contains xs x × (f x ≡ Some y)
one_filtered {A} {B} f [] y has = absurd (none_contained y has)
one_filtered {A} {B} f (x ∷ xs) y has = elim (some_here (f x) (filter_map f xs) y has) [
  | inl here ↦ (x, contains_here x xs, here)
  | inr later ↦ let rest = one_filtered f xs y later in (rest.0, contains_later x xs rest.0 rest.1, rest.2)
]

-- and what one of a list gives is in what all give
pub filtered_one : {A B : Type 0} (f : A → Option B) (xs : List A) (x : A) (y : B) → Contains xs x → f x ≡ Some y
    → Contains (filter_map f xs) y
filtered_one {A} {B} f [] x y has is = absurd (none_contained x has)
filtered_one {A} {B} f (z ∷ zs) x y has is = elim (contains_cases z zs x has) [
  | inl same ↦ here (f z) (ap f same ∙ is)
  | inr later ↦ past (f z) (filtered_one f zs x y later is)
]
  where
    here : (o : Option B) → o ≡ Some y → Contains (cons_option o (filter_map f zs)) y
    here None none = let wrong : ◌≡◌ {A = Option B} None (Some y) = none in absurd cc
    here (Some w) own =
        subst (λ (v : B). Contains (w ∷ filter_map f zs) v) (same_Some w y own) (contains_here w (filter_map f zs))

    past : (o : Option B) → Contains (filter_map f zs) y → Contains (cons_option o (filter_map f zs)) y
    past None rest = rest
    past (Some w) rest = contains_later w (filter_map f zs) y rest

-- ---- what a node owes

child_address : (header : Header) (full : Bool) (child : ℕ) → (owed_to_child header full child).address ≡ child
child_address header true child = refl
child_address header false child = refl

module _ (placed : Placed) where
  abbrev to_child : Pointer → Owing
  to_child pointer = owed_to_child (header_of placed.node) placed.full pointer.child

  abbrev by_item : Item → List Owing
  by_item item = owed_by_part (header_of placed.node) placed.full (file_part item)

  pub pointer_owes : (pointer : Pointer) → Contains (own_pointers placed.node) pointer
      → (owing : Owing) × Contains (owed_by_node placed) owing × (owing.address ≡ pointer.child)
  unfolding owed_by_node
  pointer_owes pointer has = (
    to_child pointer,
    Contains-append_left (map to_child (own_pointers placed.node)) (flat_map by_item (own_items placed.node))
        (to_child pointer) (contains_map to_child (own_pointers placed.node) pointer has),
    child_address (header_of placed.node) placed.full pointer.child,
  )

  part_owes : (header : Header) (full : Bool) (part : Option FilePart) (piece : Piece)
      → option_and_then piece_of_part part ≡ Some piece
      → (owing : Owing) × Contains (owed_by_part header full part) owing × (owing.address ≡ piece.extent)
  part_owes header full None piece is = let wrong : ◌≡◌ {A = Option Piece} None (Some piece) = is in absurd cc
  part_owes header full (Some (Inode ino inode)) piece is =
      let wrong : ◌≡◌ {A = Option Piece} None (Some piece) = is in absurd cc
  part_owes header true (Some (PieceOf ino other)) piece is =
      let owing : Owing = record { address = other.extent; reference = SharedData header.address } in
      (owing, contains_here owing [], ap (λ (p : Piece). p.extent) (same_Some other piece is))
  part_owes header false (Some (PieceOf ino other)) piece is =
      let owing : Owing = record {
        address = other.extent;
        reference = KeyedData header.owner ino (reference_offset other.position other.offset);
      } in
      (owing, contains_here owing [], ap (λ (p : Piece). p.extent) (same_Some other piece is))

  pub element_owes : (element : Element) → Contains (map extent_of (pieces_of placed.node)) element
      → (owing : Owing) × Contains (owed_by_node placed) owing × (owing.address ≡ element.address)
  unfolding owed_by_node pieces_of
  element_owes element has =
      let piece = one_mapped extent_of (pieces_of placed.node) element has in
      let item = one_filtered (λ (i : Item). option_and_then piece_of_part (file_part i)) (own_items placed.node)
      piece.0 piece.1 in
      let owing = part_owes (header_of placed.node) placed.full (file_part item.0) piece.0 item.2 in (
        owing.0,
        Contains-append_right (map to_child (own_pointers placed.node)) (flat_map by_item (own_items placed.node))
            owing.0
            (contains_flat_map by_item (own_items placed.node) item.0 owing.0 item.1 owing.1),
        owing.2 ∙ ap (λ (e : Element). e.address) piece.2,
      )

  -- what a node owes, it owes to what a pointer leads to, or to an extent that it names
  part_named : (header : Header) (full : Bool) (part : Option FilePart) (owing : Owing)
      → Contains (owed_by_part header full part) owing
      → (piece : Piece) × (option_and_then piece_of_part part ≡ Some piece) × (piece.extent ≡ owing.address)
  part_named header full None owing has = absurd (none_contained owing has)
  part_named header full (Some (Inode ino inode)) owing has = absurd (none_contained owing has)
  part_named header true (Some (PieceOf ino piece)) owing has =
      elim (contains_cases (record { address = piece.extent; reference = SharedData header.address }) [] owing has) [
        | inl same ↦ (piece, refl, ap (λ (o : Owing). o.address) same)
        | inr none ↦ absurd (none_contained owing none)
      ]
  part_named header false (Some (PieceOf ino piece)) owing has =
      elim (contains_cases (record {
        address = piece.extent;
        reference = KeyedData header.owner ino (reference_offset piece.position piece.offset);
      }) [] owing has) [
        | inl same ↦ (piece, refl, ap (λ (o : Owing). o.address) same)
        | inr none ↦ absurd (none_contained owing none)
      ]

  pub owed-leads : (owing : Owing) → Contains (owed_by_node placed) owing
      → Contains (children_of placed.node) owing.address
      ⊎ ((run : Element) × Contains (named_by placed.node) run × (run.address ≡ owing.address))
  unfolding owed_by_node pieces_of
  owed-leads owing has =
      elim (Contains-append_cases (map to_child (own_pointers placed.node))
      (flat_map by_item (own_items placed.node)) owing has) [
        | inl pointer ↦
            let one = one_mapped to_child (own_pointers placed.node) owing pointer in
            let leads = sym (child_address (header_of placed.node) placed.full one.0.child)
            ∙ ap (λ (o : Owing). o.address) one.2 in
            inl (subst (λ (a : ℕ). Contains (children_of placed.node) a) leads
            (contains_map (λ (p : Pointer). p.child) (own_pointers placed.node) one.0 one.1))
        | inr item ↦
            let one = one_flat_mapped by_item (own_items placed.node) owing item in
            let piece = part_named (header_of placed.node) placed.full (file_part one.0) owing one.2 in
            inr (
              extent_of piece.0,
              contains_map extent_of (pieces_of placed.node) piece.0
                  (filtered_one (λ (i : Item). option_and_then piece_of_part (file_part i)) (own_items placed.node)
                  one.0 piece.0 one.1 piece.1),
              piece.2,
            )
      ]

-- a list has what it contains
pub times-has : (xs : List Owing) (x : Owing) → Contains xs x → 0 < times xs x.address x.reference
times-has [] x has = absurd (none_contained x has)
times-has (y ∷ ys) x has =
    let split = times-cons y ys x.address x.reference in
    elim (contains_cases y ys x has) [
      | inl same ↦
          let own = subst (λ (o : Owing). times (y ∷ []) o.address o.reference ≡ 1) same (times-own y) in
          omega (arith, split, own)
      | inr later ↦ let rest = times-has ys x later in omega (arith, split, rest)
    ]

pub counted-times : (layout : Layout) (at : ℕ) (reference : Reference)
    → owed_count layout at reference ≡ times (owed layout) at reference
unfolding owed_count times
counted-times layout at reference = refl

-- ---- a layout

-- what a reference is owed by: a root, or an entry of the layout's nodes that leads to it or names it
pub record OwesRoot (layout : Layout) (at : ℕ) : Type 0 where
  pub entry : ℕ × ℕ
  pub has : Contains layout.roots entry
  pub here : entry.1 ≡ at

pub record OwesChild (layout : Layout) (at : ℕ) : Type 0 where
  pub entry : ℕ × Placed
  pub has : Contains layout.nodes entry
  pub leads : Contains (children_of entry.1.node) at

pub record OwesRun (layout : Layout) (at : ℕ) : Type 0 where
  pub entry : ℕ × Placed
  pub has : Contains layout.nodes entry
  pub run : Element
  pub names : Contains (named_by entry.1.node) run
  pub here : run.address ≡ at

times_some : (xs : List Owing) (at : ℕ) (reference : Reference) → 0 < times xs at reference
    → (x : Owing) × Contains xs x × (x.address ≡ at)
times_some [] at reference some = let none = times-nil at reference in absurd (omega (arith, some, none))
times_some (x ∷ xs) at reference some = elim (eqb_tells x.address at) [
  | inl (equal, same) ↦ (x, contains_here x xs, same)
  | inr (unequal, differ) ↦
      let none = times_there x at reference differ in
      let all = times-cons x xs at reference in
      let rest = times_some xs at reference (omega (arith, some, none, all)) in
      (rest.0, contains_later x xs rest.0 rest.1, rest.2)
]

module _ (layout : Layout) (at : ℕ) where
  abbrev way_of : ℕ × ℕ → Owing
  way_of entry = way_to entry.1 entry.0

  abbrev owes : ℕ × Placed → List Owing
  owes entry = owed_by_node entry.1

  counted_owing : (owing : Owing) → Contains (owed layout) owing → owing.address ≡ at
      → (reference : Reference) × (0 < owed_count layout at reference)
  counted_owing owing has leads =
      let some = times-has (owed layout) owing has in
      let count = counted-times layout owing.address owing.reference in
      let here : 0 < owed_count layout owing.address owing.reference = omega (arith, some, count) in
      (owing.reference, subst (λ (q : ℕ). 0 < owed_count layout q owing.reference) leads here)

  pub root-counted : OwesRoot layout at → (reference : Reference) × (0 < owed_count layout at reference)
  unfolding owed
  root-counted root =
      counted_owing (way_of root.entry)
      (Contains-append_left (map way_of layout.roots) (flat_map owes layout.nodes) (way_of root.entry)
      (contains_map way_of layout.roots root.entry root.has)) root.here

  pub child-counted : OwesChild layout at → (reference : Reference) × (0 < owed_count layout at reference)
  unfolding owed
  child-counted child =
      let pointer = one_mapped (λ (p : Pointer). p.child) (own_pointers child.entry.1.node) at child.leads in
      let owing = pointer_owes child.entry.1 pointer.0 pointer.1 in
      counted_owing owing.0
      (Contains-append_right (map way_of layout.roots) (flat_map owes layout.nodes) owing.0
      (contains_flat_map owes layout.nodes child.entry owing.0 child.has owing.1)) (owing.2 ∙ pointer.2)

  pub run-counted : OwesRun layout at → (reference : Reference) × (0 < owed_count layout at reference)
  unfolding owed
  run-counted run =
      let owing = element_owes run.entry.1 run.run run.names in
      counted_owing owing.0
      (Contains-append_right (map way_of layout.roots) (flat_map owes layout.nodes) owing.0
      (contains_flat_map owes layout.nodes run.entry owing.0 run.has owing.1)) (owing.2 ∙ run.here)

  -- who owes what is owed
  pub counted-by : (reference : Reference) → 0 < owed_count layout at reference
      → OwesRoot layout at ⊎ (OwesChild layout at ⊎ OwesRun layout at)
  unfolding owed
  counted-by reference some =
      let count = counted-times layout at reference in
      let one = times_some (owed layout) at reference (omega (arith, some, count)) in
      elim (Contains-append_cases (map way_of layout.roots) (flat_map owes layout.nodes) one.0 one.1) [
        | inl way ↦
            let root = one_mapped way_of layout.roots one.0 way in
            inl (record { entry = root.0; has = root.1; here = ap (λ (o : Owing). o.address) root.2 ∙ one.2 })
        | inr node ↦
            let entry = one_flat_mapped owes layout.nodes one.0 node in
            elim (owed-leads entry.0.1 one.0 entry.2) [
              | inl child ↦ inr (inl (record {
                entry = entry.0;
                has = entry.1;
                leads = subst (λ (a : ℕ). Contains (children_of entry.0.1.node) a) one.2 child;
              }))
              | inr run ↦ inr (inr (record {
                entry = entry.0;
                has = entry.1;
                run = run.0;
                names = run.1;
                here = run.2 ∙ one.2;
              }))
            ]
      ]

-- the extents of a layout are those that its nodes name
pub extents-named : (layout : Layout) (entry : ℕ × Placed) (run : Element) → Contains layout.nodes entry
    → Contains (named_by entry.1.node) run → Contains (layout_extents layout) run
unfolding layout_extents
extents-named layout entry run has names =
    contains_flat_map (λ (e : ℕ × Placed). named_by e.1.node) layout.nodes entry run has names

pub named-extents : (layout : Layout) (run : Element) → Contains (layout_extents layout) run
    → (entry : ℕ × Placed) × Contains layout.nodes entry × Contains (named_by entry.1.node) run
unfolding layout_extents
named-extents layout run has = one_flat_mapped (λ (e : ℕ × Placed). named_by e.1.node) layout.nodes run has

-- ---- a book

some_references : (references : List Counted) (reference : Reference) → 0 < count_of references reference
    → 0 < length references
some_references [] reference some = let none = count-nil reference in absurd (omega (arith, some, none))
some_references (entry ∷ references) reference some = omega arith

first_counted : (xs : List Counted) → IsRefList xs → 0 < length xs
    → (reference : Reference) × (0 < count_of xs reference)
first_counted [] sound some = absurd (omega (arith, some))
first_counted (entry ∷ xs) sound some =
    let own = counted-own entry.reference entry refl in
    let here : 0 < entry.count = sound.some 0 entry (omega arith) in
    let count = count-cons entry xs entry.reference in
    (entry.reference, omega (arith, own, here, count))

-- there are references exactly where one is counted
pub counted-referred : (book : Book) (at : ℕ) (reference : Reference) → 0 < count_at book at reference
    → 0 < references_to book at
counted-referred book at reference some = some_references (references_at book at) reference some

pub referred-counted : (book : Book) → IsBook book → (at : ℕ) → 0 < references_to book at
    → (reference : Reference) × (0 < count_at book at reference)
referred-counted book is at some = first_counted (references_at book at) (is.sound at) some

module _ (layout : Layout) (book : Book) (agrees : AgreesWithOwed layout book) (at : ℕ) where
  pub owed-referred : (reference : Reference) → 0 < owed_count layout at reference → 0 < references_to book at
  owed-referred reference some =
      let count = agrees at reference in
      counted-referred book at reference (omega (arith, some, count))

  pub referred-owed : IsBook book → 0 < references_to book at
      → OwesRoot layout at ⊎ (OwesChild layout at ⊎ OwesRun layout at)
  referred-owed is some =
      let one = referred-counted book is at some in
      let count = agrees at one.0 in
      let more = one.1 in
      counted-by layout at one.0 (omega (arith, more, count))
