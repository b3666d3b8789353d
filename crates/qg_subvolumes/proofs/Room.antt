-- Each child of a subvolume's root may get a reference that is keyed by a new number: it is known, and has none such.
use Rattle.std.proofs.Common.{◌≡◌, ℕ, ◌-◌, ◌+◌, ◌≤◌, Bool, true, false, List, [], ◌∷◌, map, Option, Some, None, arith}
use Rattle.std.proofs.Common.{refl, sym, ap, subst, ◌∙◌, inl, inr}
use Rattle.std.specs.List.{Contains, flat_map}
use Rattle.std.proofs.lemmas.Bool.{cases_Bool, eq-eqb}
use Rattle.std.proofs.lemmas.Bool.Decides.{eqb_tells}
use Rattle.qg_node.specs.declared.item.Item.{Item}
use Rattle.qg_node.specs.declared.pointer.Pointer.{Pointer}
use Rattle.qg_node.specs.declared.node.Header.{Header}
use Rattle.qg_node.specs.declared.node.Node.{Node}
use Rattle.qg_node.specs.declared.node.Node.TheVariants.{Leaf, Inner}
use Rattle.qg_node.specs.Nodes.{header_of, is_ascending, own_items, own_keys, own_pointers}
use Rattle.qg_node.specs.NodeText.{IsNode}
use Rattle.qg_items.specs.declared.extent.Reference.{Reference}
use Rattle.qg_items.specs.declared.extent.Reference.TheVariants.{KeyedBlock, KeyedData, SharedBlock, SharedData}
use Rattle.qg_image.specs.declared.part.FilePart.{FilePart}
use Rattle.qg_image.specs.declared.part.FilePart.TheVariants.{Inode, PieceOf}
use Rattle.qg_image.specs.ItemMeaning.{file_part}
use Rattle.qg_image.specs.Table.{value_at}
use Rattle.qg_image.specs.Owed.{Owing, homeless, owed_by_node, owed_by_part, owed_to_child, reference_offset}
use Rattle.qg_image.specs.State.{Placed, State, layout_of, node_at}
use Rattle.qg_image.proofs.Contained.{contains_cases, none_contained}
use Rattle.qg_image.specs.declared.tree.TreeKind.TheVariants.{Files}
use Rattle.qg_machine.specs.Layout.{IsWhole, super_to_come}
use Rattle.qg_cow_refs.specs.Children.{keyed_children, shared_children, way_to, with_header}
use Rattle.qg_refs.specs.Book.{AgreesWithOwed, Book, count_at}
use Rattle.qg_refs.specs.Counts.{greatest_count}
use Rattle.qg_owner_rule.proofs.Reaching.{entry_of_value}
use Rattle.qg_tree_backrefs.specs.Exchange.{CanGive, times}
use Rattle.qg_tree_backrefs.proofs.Keyed.{keyed-under}
use Rattle.qg_tree_backrefs.proofs.Owings.{addresses, children-alike, known-alike, times-few}
use Rattle.qg_tree_backrefs.proofs.Times.{times-append, times-nil, times_there}
use Rattle.qg_tree_backrefs.proofs.Owed.{keyed-bytes}
use Rattle.qg_shared_trees.proofs.Bytes.{one_of-most, times-bytes}
use Rattle.qg_shared_trees.proofs.Owing.{node_owes, owed-parts}
use Rattle.qg_shared_trees.proofs.Tables.{times-flat, times-member}
use Rattle.qg_subvolumes.proofs.Distinct.{none-absent, once-led}
use Rattle.qg_subvolumes.proofs.Source.{HasRoot, root-reached, under-root}
use Rattle.qg_subvolumes.proofs.Unowed.{have-not-each, is_keyed_by, none-owed, other-keyed, owed-each}

-- ---- what a copy's children get

child_keyed : (tree : ℕ) (header : Header) (full : Bool) (child : ℕ) → full ≡ false → header.owner ≡ tree
    → is_keyed_by tree (owed_to_child header full child).reference ≡ true
child_keyed tree header true child bare own = absurd cc
child_keyed tree header false child bare own = eq-eqb header.owner tree own

part_keyed : (tree : ℕ) (header : Header) (full : Bool) (part : Option FilePart) → full ≡ false → header.owner ≡ tree
    → (owing : Owing) → Contains (owed_by_part header full part) owing → is_keyed_by tree owing.reference ≡ true
part_keyed tree header full None bare own owing has = absurd (none_contained owing has)
part_keyed tree header full (Some (Inode ino inode)) bare own owing has = absurd (none_contained owing has)
part_keyed tree header true (Some (PieceOf ino piece)) bare own owing has = absurd cc
part_keyed tree header false (Some (PieceOf ino piece)) bare own owing has = elim (contains_cases _ [] owing has) [
  | inl same ↦ subst (λ (o : Owing). is_keyed_by tree o.reference ≡ true) same (eq-eqb header.owner tree own)
  | inr none ↦ absurd (none_contained owing none)
]

owner_of_header : (header : Header) (node : Node) → (header_of (with_header header node)).owner ≡ header.owner
owner_of_header header (Leaf old items) = refl
owner_of_header header (Inner old pointers) = refl

-- each is keyed by the copy's number
children_keyed : (node : Node) (tree : ℕ) (owing : Owing) → Contains (keyed_children node tree) owing
    → is_keyed_by tree owing.reference ≡ true
children_keyed node tree =
    let header : Header = record (header_of node) { owner = tree } in
    let placed : Placed = record { node = with_header header node; full = false } in
    let own = owner_of_header header node in
    owed-each (λ (r : Reference). is_keyed_by tree r ≡ true) placed
    (λ child. child_keyed tree (header_of placed.node) false child refl own)
    (λ part owing has. part_keyed tree (header_of placed.node) false part refl own owing has)

-- none is a node's, of those of items
part_of_data : (header : Header) (tree : ℕ) (part : Option FilePart) (at : ℕ)
    → times (owed_by_part header false part) at (KeyedBlock tree) ≡ 0
part_of_data header tree None at = times-nil at (KeyedBlock tree)
part_of_data header tree (Some (Inode ino inode)) at = times-nil at (KeyedBlock tree)
part_of_data header tree (Some (PieceOf ino piece)) at =
    let few = times-few (record {
      address = piece.extent;
      reference = KeyedData header.owner ino (reference_offset piece.position piece.offset);
    }) at (KeyedBlock tree) in
    omega (arith, few)

items_of_data : (header : Header) (tree : ℕ) (items : List Item) (at : ℕ)
    → times (flat_map (λ (item : Item). owed_by_part header false (file_part item)) items) at (KeyedBlock tree) ≡ 0
items_of_data header tree [] at = times-nil at (KeyedBlock tree)
items_of_data header tree (item ∷ items) at =
    let split = times-flat (λ (i : Item). owed_by_part header false (file_part i)) item items at (KeyedBlock tree) in
    let first = part_of_data header tree (file_part item) at in
    let rest = items_of_data header tree items at in
    omega (arith, split, first, rest)

-- so a node's are those that pointers lead to
blocks_are : (node : Node) (tree copy at : ℕ) → times (keyed_children node copy) at (KeyedBlock tree)
    ≡ times (map (λ (pointer : Pointer). owed_to_child (record (header_of node) { owner = copy }) false pointer.child)
    (own_pointers node)) at (KeyedBlock tree)
blocks_are node tree copy at =
    let header : Header = record (header_of node) { owner = copy } in
    let pointers = map (λ (pointer : Pointer). owed_to_child header false pointer.child) (own_pointers node) in
    let items = flat_map (λ (item : Item). owed_by_part header false (file_part item)) (own_items node) in
    let all = ap (λ (xs : List Owing). times xs at (KeyedBlock tree)) (keyed-under header node copy refl) in
    let both = times-append pointers items at (KeyedBlock tree) in
    let none = items_of_data header tree (own_items node) at in
    omega (arith, all, both, none)

pointer_keys : (node : Node) → is_ascending (own_keys node) ≡ true
    → is_ascending (map (λ (p : Pointer). p.key) (own_pointers node)) ≡ true
unfolding is_ascending
pointer_keys (Leaf header items) up = refl
pointer_keys (Inner header pointers) up = up

-- what a node owes leads to the same children
same_header : (node : Node) → with_header (record (header_of node) { owner = (header_of node).owner }) node ≡ node
same_header (Leaf header items) = refl
same_header (Inner header pointers) = refl

own_alike : (node : Node) (full : Bool)
    → addresses (owed_by_node (record { node = node; full = full })) ≡ addresses (shared_children node)
own_alike node true = refl
own_alike node false =
    ap (λ (n : Node). addresses (owed_by_node (record { node = n; full = false }))) (sym (same_header node))
    ∙ children-alike node (header_of node).owner

-- ---- a state

module _ (state : State) (sub copy now : ℕ) (whole : IsWhole state) (home : homeless (layout_of state) ≡ None)
    (source : HasRoot state sub) (other : value_at copy (layout_of state).roots ≡ None)
    (free : node_at state.layout now ≡ None) (small : state.sizes.nodesize ≤ 16384) (old made : Book)
    (agrees : AgreesWithOwed (layout_of state) old)
    (fitting : (at : ℕ) (reference : Reference) → count_at old at reference ≤ greatest_count reference)
    (counts : (at : ℕ) (reference : Reference) → count_at made at reference
    ≡ count_at old at reference + times (way_to now copy ∷ []) at reference) where
  abbrev root : Node
  root = source.placed.node

  abbrev children : List Owing
  children = keyed_children root copy

  own_none : (at : ℕ) (reference : Reference) → is_keyed_by copy reference ≡ true → count_at old at reference ≡ 0
  own_none at reference keyed =
      agrees at reference ∙ none-owed (layout_of state) copy other home whole.ascending at reference keyed

  -- references that others key, and shared ones
  room_other : (at : ℕ) (reference : Reference) → is_keyed_by copy reference ≡ false
      → count_at made at reference + times children at reference ≤ greatest_count reference
  room_other at reference unkeyed =
      let count = counts at reference in
      let fits = fitting at reference in
      let few = times-few (way_to now copy) at reference in
      let none = other-keyed copy reference (KeyedBlock copy) unkeyed (eq-eqb copy copy refl) in
      let nothing = have-not-each reference children (λ owing has.
      other-keyed copy reference owing.reference unkeyed (children_keyed root copy owing has)) at in
      omega (arith, count, fits, few, none, nothing)

  sound : IsNode state.sizes.nodesize root
  sound = (root-reached state sub source whole).node_of_format

  -- one to a node
  room_block : (at tree : ℕ) → is_keyed_by copy (KeyedBlock tree) ≡ true
      → count_at made at (KeyedBlock tree) + times children at (KeyedBlock tree) ≤ 1
  room_block at tree keyed =
      let header : Header = record (header_of root) { owner = copy } in
      let count = counts at (KeyedBlock tree) in
      let none = own_none at (KeyedBlock tree) keyed in
      let are = blocks_are root tree copy at in
      elim (eqb_tells now at) [
        | inl (equal, same) ↦
            let few = times-few (way_to now copy) at (KeyedBlock tree) in
            let one = one_of-most (KeyedBlock tree) (KeyedBlock copy) in
            let absent = none-absent Files (super_to_come state) (node_at state.layout) 6 header
            ((header_of root).level - 1) None (own_pointers root) (under-root state sub source) at (KeyedBlock tree)
            (ap (λ (q : ℕ). node_at state.layout q) (sym same) ∙ free) in
            omega (arith, count, none, are, few, one, absent)
        | inr (unequal, differ) ↦
            let nothing = times_there (way_to now copy) at (KeyedBlock tree) differ in
            let once = once-led Files (super_to_come state) (node_at state.layout) 6 header
            ((header_of root).level - 1) None (own_pointers root) (under-root state sub source)
            (pointer_keys root sound.ascending) at (KeyedBlock tree) in
            omega (arith, count, none, are, nothing, once)
      ]

  -- and to an extent no more than a node has bytes
  room_data : (at tree ino offset : ℕ) → is_keyed_by copy (KeyedData tree ino offset) ≡ true
      → count_at made at (KeyedData tree ino offset) + times children at (KeyedData tree ino offset) ≤ 4294967295
  room_data at tree ino offset keyed =
      let count = counts at (KeyedData tree ino offset) in
      let none = own_none at (KeyedData tree ino offset) keyed in
      let few = times-few (way_to now copy) at (KeyedData tree ino offset) in
      let one = one_of-most (KeyedData tree ino offset) (KeyedBlock copy) in
      let many = times-bytes children at (KeyedData tree ino offset) in
      let bytes = keyed-bytes root copy in
      let used = sound.fits in
      omega (arith, count, none, few, one, many, bytes, used, small)

  room : (at : ℕ) (reference : Reference)
      → count_at made at reference + times children at reference ≤ greatest_count reference
  room at (KeyedBlock tree) = elim (cases_Bool (is_keyed_by copy (KeyedBlock tree))) [
    | inl keyed ↦ room_block at tree keyed
    | inr unkeyed ↦ room_other at (KeyedBlock tree) unkeyed
  ]
  room at (KeyedData tree ino offset) = elim (cases_Bool (is_keyed_by copy (KeyedData tree ino offset))) [
    | inl keyed ↦ room_data at tree ino offset keyed
    | inr unkeyed ↦ room_other at (KeyedData tree ino offset) unkeyed
  ]
  room at (SharedBlock parent) = room_other at (SharedBlock parent) refl
  room at (SharedData parent) = room_other at (SharedData parent) refl

  -- what the root owes is there
  owed_there : (at : ℕ) (reference : Reference) → times (owed_by_node source.placed) at reference
      ≤ count_at made at reference
  owed_there at reference =
      let member = times-member node_owes state.layout (source.source.root, source.placed)
      (entry_of_value source.source.root source.placed state.layout source.here) at reference in
      let parts = owed-parts (layout_of state) at reference in
      let agree = agrees at reference in
      let count = counts at reference in
      omega (arith, member, parts, agree, count)

  -- the children may get theirs
  pub can-give : CanGive made children
  can-give = record {
    room = room;
    known = known-alike made children (owed_by_node source.placed)
        (children-alike root copy ∙ sym (own_alike root source.placed.full)) owed_there;
  }
