-- The shared references that a node's children get where it turns full: none was there, and they may all be there.
use Rattle.std.proofs.Common.{◌≡◌, ℕ, ◌<◌, ◌≤◌, Bool, true, false, List, [], ◌∷◌, map, Option, Some, None, arith, refl}
use Rattle.std.proofs.Common.{sym, ap, ◌∙◌, inl, inr}
use Rattle.std.specs.Prelude.{nat_lt, if◌then◌else◌}
use Rattle.std.specs.List.{Contains, flat_map}
use Rattle.std.proofs.lemmas.Bool.{cases_Bool, cond-false, cond-true, ltb-false, ltb-true}
use Rattle.std.proofs.lemmas.Bool.Decides.{eqb_tells}
use Rattle.std.proofs.lemmas.List.Elements.{Contains-append_cases}
use Rattle.qg_items.specs.declared.extent.Reference.{Reference}
use Rattle.qg_items.specs.declared.extent.Reference.TheVariants.{KeyedBlock, SharedBlock, KeyedData, SharedData}
use Rattle.qg_node.specs.declared.item.Item.{Item}
use Rattle.qg_node.specs.declared.pointer.Pointer.{Pointer}
use Rattle.qg_node.specs.declared.node.Header.{Header}
use Rattle.qg_node.specs.declared.node.Node.{Node}
use Rattle.qg_node.specs.Nodes.{header_of, own_items, own_pointers}
use Rattle.qg_node.specs.NodeText.{IsNode}
use Rattle.qg_image.specs.declared.part.FilePart.{FilePart}
use Rattle.qg_image.specs.declared.part.FilePart.TheVariants.{Inode, PieceOf}
use Rattle.qg_image.specs.ItemMeaning.{file_part}
use Rattle.qg_image.specs.Owed.{Owing, owed_by_node, owed_by_part, owed_to_child}
use Rattle.qg_image.specs.State.{Placed}
use Rattle.qg_image.proofs.Contained.{contains_cases, contains_here, contains_later, none_contained}
use Rattle.qg_cow_refs.specs.Children.{shared_children}
use Rattle.qg_reach.proofs.Members.{one_flat_mapped, one_mapped}
use Rattle.qg_refs.proofs.RankOrder.{same_itself, same_reference_is}
use Rattle.qg_image.specs.Record.{same_reference}
use Rattle.qg_tree_backrefs.specs.Exchange.{times}
use Rattle.qg_tree_backrefs.proofs.Owings.{times-cons, times-few}
use Rattle.qg_tree_backrefs.proofs.Times.{one_of, times-append, times-nil, times_here, times_there}
use Rattle.qg_tree_backrefs.proofs.Owed.{shared-bytes}
use Rattle.qg_shared_trees.proofs.Bytes.{times-bytes}

-- ---- one in a list

-- a reference that a list has is one of its
pub owing-found : (xs : List Owing) (q : ℕ) (reference : Reference) → 0 < times xs q reference
    → (x : Owing) × Contains xs x × (x.reference ≡ reference)
owing-found [] q reference some = let none = times-nil q reference in absurd (omega (arith, some, none))
owing-found (x ∷ xs) q reference some = elim (cases_Bool (same_reference reference x.reference)) [
  | inl same ↦ (x, contains_here x xs, sym (same_reference_is reference x.reference same))
  | inr differ ↦
      let split = times-cons x xs q reference in
      let few = times-few x q reference in
      let none : one_of reference x.reference ≡ 0 = cond-false _ _ _ differ in
      let rest = owing-found xs q reference (omega (arith, some, split, few, none)) in
      (rest.0, contains_later x xs rest.0 rest.1, rest.2)
]

-- the node that a shared reference names as parent
abbrev pub parent_of : Reference → Option ℕ
parent_of (KeyedBlock tree) = None
parent_of (SharedBlock parent) = Some parent
parent_of (KeyedData tree ino offset) = None
parent_of (SharedData parent) = Some parent

abbrev parent_by : Header → Bool → Option ℕ
parent_by header full = if full then Some header.address else None

child_parent : (header : Header) (full : Bool) (child : ℕ) → parent_of (owed_to_child header full child).reference
    ≡ parent_by header full
child_parent header true child = refl
child_parent header false child = refl

part_parent : (header : Header) (full : Bool) (part : Option FilePart) (owing : Owing)
    → Contains (owed_by_part header full part) owing → parent_of owing.reference ≡ parent_by header full
part_parent header full None owing has = absurd (none_contained owing has)
part_parent header full (Some (Inode ino inode)) owing has = absurd (none_contained owing has)
part_parent header true (Some (PieceOf ino piece)) owing has = elim (contains_cases _ [] owing has) [
  | inl same ↦ ap (λ (o : Owing). parent_of o.reference) (sym same)
  | inr none ↦ absurd (none_contained owing none)
]
part_parent header false (Some (PieceOf ino piece)) owing has = elim (contains_cases _ [] owing has) [
  | inl same ↦ ap (λ (o : Owing). parent_of o.reference) (sym same)
  | inr none ↦ absurd (none_contained owing none)
]

module _ (placed : Placed) where
  abbrev to_child : Pointer → Owing
  to_child pointer = owed_to_child (header_of placed.node) placed.full pointer.child

  abbrev by_item : Item → List Owing
  by_item item = owed_by_part (header_of placed.node) placed.full (file_part item)

  -- what a full node owes names it as parent, and what another owes names none
  pub owed-parent : (owing : Owing) → Contains (owed_by_node placed) owing
      → parent_of owing.reference ≡ (if placed.full then Some (header_of placed.node).address else None)
  unfolding owed_by_node
  owed-parent owing has =
      elim (Contains-append_cases (map to_child (own_pointers placed.node))
      (flat_map by_item (own_items placed.node)) owing has) [
        | inl pointer ↦
            let one = one_mapped to_child (own_pointers placed.node) owing pointer in
            ap (λ (o : Owing). parent_of o.reference) (sym one.2)
            ∙ child_parent (header_of placed.node) placed.full one.0.child
        | inr item ↦
            let one = one_flat_mapped by_item (own_items placed.node) owing item in
            part_parent (header_of placed.node) placed.full (file_part one.0) owing one.2
      ]

-- ---- shared references in place of keyed ones

module _ (node : Node) where
  abbrev shared_one : Pointer → Owing
  shared_one pointer = owed_to_child (header_of node) true pointer.child

  abbrev keyed_one : Pointer → Owing
  keyed_one pointer = owed_to_child (header_of node) false pointer.child

  abbrev block : Reference
  block = SharedBlock (header_of node).address

  abbrev keyed : Reference
  keyed = KeyedBlock (header_of node).owner

  own_once : (reference : Reference) → one_of reference reference ≡ 1
  own_once reference = cond-true _ _ _ (same_itself reference)

  one_alike : (child q : ℕ) → times (owed_to_child (header_of node) true child ∷ []) q block
      ≡ times (owed_to_child (header_of node) false child ∷ []) q keyed
  one_alike child q = elim (eqb_tells child q) [
    | inl (equal, same) ↦
        times_here (owed_to_child (header_of node) true child) q block same ∙ own_once block
        ∙ sym (times_here (owed_to_child (header_of node) false child) q keyed same ∙ own_once keyed)
    | inr (unequal, differ) ↦
        times_there (owed_to_child (header_of node) true child) q block differ
        ∙ sym (times_there (owed_to_child (header_of node) false child) q keyed differ)
  ]

  pointers_alike : (pointers : List Pointer) (q : ℕ) → times (map shared_one pointers) q block
      ≡ times (map keyed_one pointers) q keyed
  pointers_alike [] q = let a = times-nil q block in let b = times-nil q keyed in omega (arith, a, b)
  pointers_alike (pointer ∷ pointers) q =
      let a = times-cons (shared_one pointer) (map shared_one pointers) q block in
      let b = times-cons (keyed_one pointer) (map keyed_one pointers) q keyed in
      let first = one_alike pointer.child q in
      let rest = pointers_alike pointers q in
      omega (arith, a, b, first, rest)

  abbrev shared_item : Item → List Owing
  shared_item item = owed_by_part (header_of node) true (file_part item)

  part_is_data : (part : Option FilePart) (owing : Owing) → Contains (owed_by_part (header_of node) true part) owing
      → owing.reference ≡ block → ⊥
  part_is_data None owing has same = none_contained owing has
  part_is_data (Some (Inode ino inode)) owing has same = none_contained owing has
  part_is_data (Some (PieceOf ino piece)) owing has same = elim (contains_cases _ [] owing has) [
    | inl here ↦
        let wrong : ◌≡◌ {A = Reference} (SharedData (header_of node).address) (SharedBlock (header_of node).address) =
        ap (λ (o : Owing). o.reference) here ∙ same in cc
    | inr none ↦ none_contained owing none
  ]

  not_more : (n : ℕ) → (0 < n → ⊥) → n ≤ 0
  not_more n never = elim (cases_Bool (nat_lt 0 n)) [
    | inl less ↦ absurd (never (ltb-true 0 n less))
    | inr is_not ↦ let most = ltb-false 0 n is_not in omega (arith, most)
  ]

  no_block : (q : ℕ) → times (flat_map shared_item (own_items node)) q block ≤ 0
  no_block q = not_more (times (flat_map shared_item (own_items node)) q block) (λ some.
      let one = owing-found (flat_map shared_item (own_items node)) q block some in
      let item = one_flat_mapped shared_item (own_items node) one.0 one.1 in
      part_is_data (file_part item.0) one.0 item.2 one.2)

  -- a node's children get no more shared references to nodes than they had keyed ones
  pub shared-blocks : (q : ℕ) → times (shared_children node) q block
      ≤ times (owed_by_node (record { node = node; full = false })) q keyed
  unfolding owed_by_node
  shared-blocks q =
      let keyed_item = λ (item : Item). owed_by_part (header_of node) false (file_part item) in
      let a = times-append (map shared_one (own_pointers node)) (flat_map shared_item (own_items node)) q block in
      let b = times-append (map keyed_one (own_pointers node)) (flat_map keyed_item (own_items node)) q keyed in
      let alike = pointers_alike (own_pointers node) q in
      let none = no_block q in
      omega (arith, a, b, alike, none)

-- ---- bytes

-- and to extents no more than a node has bytes
pub shared-few : (node : Node) (nodesize q : ℕ) (reference : Reference) → IsNode nodesize node → nodesize ≤ 16384
    → times (shared_children node) q reference ≤ 4294967295
shared-few node nodesize q reference is small =
    let many = times-bytes (shared_children node) q reference in
    let bytes = shared-bytes node in
    let used = is.fits in
    omega (arith, many, bytes, used, small)
