-- In an image whose subvolumes' trees were walked, references are owed exactly to what begins in its layout.
use Rattle.std.proofs.Common.{◌≡◌, ◌⊎◌, ℕ, ◌≤◌, ◌<◌, Bool, true, false, List, [], ◌∷◌, ◌++◌, length, map, refl, sym, ap}
use Rattle.std.proofs.Common.{subst, ◌∙◌, arith, inl, inr}
use Rattle.std.specs.Prelude.{Option, Some, None, ◌==◌, if◌then◌else◌}
use Rattle.std.specs.List.{Contains, filter_map, find, flat_map}
use Rattle.std.specs.Option.{option_and_then}
use Rattle.std.proofs.lemmas.Bool.{cases_Bool, cond-true, cond-false, eq-eqb, eqb-true, ne_eqb, true≢false}
use Rattle.std.proofs.lemmas.List.Elements.{Contains-append_cases, Contains-append_left, Contains-append_right}
use Rattle.std.proofs.lemmas.Option.{same_Some}
use Rattle.qg_num.specs.declared.piece.Piece.{Piece}
use Rattle.qg_node.specs.declared.node.Header.{Header}
use Rattle.qg_node.specs.declared.item.Item.{Item}
use Rattle.qg_node.specs.declared.pointer.Pointer.{Pointer}
use Rattle.qg_node.specs.declared.node.Node.{Node}
use Rattle.qg_node.specs.Nodes.{header_of, own_items, own_pointers}
use Rattle.qg_items.specs.declared.root.RootItem.{RootItem}
use Rattle.qg_items.specs.declared.extent.Reference.{Reference}
use Rattle.qg_items.specs.declared.extent.Reference.TheVariants.{KeyedBlock, KeyedData, SharedData}
use Rattle.qg_super.specs.declared.superblock.Super.{Super}
use Rattle.qg_image.specs.Table.{keys_of, value_at}
use Rattle.qg_image.specs.declared.part.ExtentPart.{ExtentPart}
use Rattle.qg_image.specs.declared.part.FilePart.{FilePart}
use Rattle.qg_image.specs.declared.part.FilePart.TheVariants.{Inode, PieceOf}
use Rattle.qg_image.specs.ItemMeaning.{file_part}
use Rattle.qg_image.specs.declared.element.Element.{Element}
use Rattle.qg_image.specs.Owed.{Owing, layout_extents, owed, owed_by_node, owed_by_part, owed_to, owed_to_child}
use Rattle.qg_image.specs.Owed.{reference_offset, is_nothing, what_at, Nothing, Data, Block}
use Rattle.qg_image.specs.Reach.{extent_of, piece_of_part, pieces_of}
use Rattle.qg_image.specs.State.{Layout, Placed, layout_of}
use Rattle.qg_image.proofs.Contained.{contains_cases, contains_here, none_contained}
use Rattle.qg_image.specs.declared.tree.TreeKind.TheVariants.{Files}
use Rattle.qg_image.specs.ItemsUnder.{is_way, nodes_of}
use Rattle.qg_image.specs.ImageState.{extent_parts, level_in, nodes_of_root, placed, state_in}
use Rattle.qg_image.specs.Walk.{node_found, root_told}
use Rattle.qg_image.specs.Below.{nodes_below}
use Rattle.qg_image.specs.ItemMeaning.{when}
use Rattle.qg_reach.proofs.Members.{contains_flat_map, contains_map, one_flat_mapped, one_mapped}
use Rattle.qg_reach.proofs.Reached.{address_of}
use Rattle.qg_owner_rule.proofs.Reaching.{entry_of_value}
use Rattle.qg_backref_rule.proofs.Layouts.{if_something, some_or_none, something_if}
use Rattle.qg_extents.specs.Laws.{IsOwing}
use Rattle.qg_shared_walk.specs.declared.nodes.NodesRead.{NodesRead}
use Rattle.qg_shared_walk.specs.Gathered.{AreGathered, root_at}
use Rattle.qg_shared_walk.proofs.Apart.{tree_under}
use Rattle.qg_shared_walk.proofs.Found.{found_is}
use Rattle.qg_shared_walk.proofs.Verdicts.{branch, by_address, listed, roots_are}
use Rattle.qg_shared_walk.proofs.Laid.{entry_of}
use Rattle.qg_check.proofs.Found.{LieWhereFound-image}
use Rattle.qg_check.proofs.Parents.{led-below}
use Rattle.qg_check.proofs.Pieces.{contains_given, one_given}

-- ---- one node

-- a piece that a part tells is owed for
owes_part : (header : Header) (full : Bool) (part : Option FilePart) (piece : Piece)
    → option_and_then piece_of_part part ≡ Some piece
    → (owing : Owing) × Contains (owed_by_part header full part) owing × (owing.address ≡ piece.extent)
owes_part header full None piece is = absurd cc
owes_part header full (Some (Inode ino inode)) piece is = absurd cc
owes_part header true (Some (PieceOf ino own)) piece is =
    let owing : Owing = record { address = own.extent; reference = SharedData header.address } in
    (owing, contains_here owing [], ap (λ (p : Piece). p.extent) (same_Some own piece is))
owes_part header false (Some (PieceOf ino own)) piece is =
    let owing : Owing = record {
      address = own.extent;
      reference = KeyedData header.owner ino (reference_offset own.position own.offset);
    } in
    (owing, contains_here owing [], ap (λ (p : Piece). p.extent) (same_Some own piece is))

-- and what a part owes is for the piece that it tells
part_owes : (header : Header) (full : Bool) (part : Option FilePart) (owing : Owing)
    → Contains (owed_by_part header full part) owing
    → (piece : Piece) × (option_and_then piece_of_part part ≡ Some piece) × (piece.extent ≡ owing.address)
part_owes header full None owing has = absurd (none_contained owing has)
part_owes header full (Some (Inode ino inode)) owing has = absurd (none_contained owing has)
part_owes header true (Some (PieceOf ino own)) owing has =
    elim (contains_cases (record { address = own.extent; reference = SharedData header.address }) [] owing has) [
      | inl is ↦ (own, refl, ap (λ (o : Owing). o.address) is)
      | inr none ↦ absurd (none_contained owing none)
    ]
part_owes header false (Some (PieceOf ino own)) owing has =
    elim (contains_cases (record {
      address = own.extent;
      reference = KeyedData header.owner ino (reference_offset own.position own.offset);
    }) [] owing has) [
      | inl is ↦ (own, refl, ap (λ (o : Owing). o.address) is)
      | inr none ↦ absurd (none_contained owing none)
    ]

child_is : (header : Header) (full : Bool) (child : ℕ) → (owed_to_child header full child).address ≡ child
child_is header true child = refl
child_is header false child = refl

-- a node owes something to what begins at an address
abbrev OwesTo : Placed → ℕ → Type 0
OwesTo placed at = (owing : Owing) × Contains (owed_by_node placed) owing × (owing.address ≡ at)

-- what a node owes to its children, and what for its items
abbrev child_owings : Placed → List Owing
child_owings placed = map (λ pointer. owed_to_child (header_of placed.node) placed.full pointer.child)
    (own_pointers placed.node)

abbrev item_owings : Placed → List Owing
item_owings placed = flat_map (λ item. owed_by_part (header_of placed.node) placed.full (file_part item))
    (own_items placed.node)

both_owings : (placed : Placed) → owed_by_node placed ≡ child_owings placed ++ item_owings placed
unfolding owed_by_node
both_owings placed = refl

owes_child : (placed : Placed) (pointer : Pointer) → Contains (own_pointers placed.node) pointer
    → OwesTo placed pointer.child
owes_child placed pointer has =
    let owing = owed_to_child (header_of placed.node) placed.full pointer.child in
    let own = contains_map (λ (pointer : Pointer). owed_to_child (header_of placed.node) placed.full pointer.child)
    (own_pointers placed.node) pointer has in (
      owing,
      subst (λ list. Contains list owing) (sym (both_owings placed))
          (Contains-append_left (child_owings placed) (item_owings placed) owing own),
      child_is (header_of placed.node) placed.full pointer.child,
    )

-- the piece that an item tells
abbrev item_piece : Item → Option Piece
item_piece item = option_and_then piece_of_part (file_part item)

pieces_are : (node : Node) → pieces_of node ≡ filter_map item_piece (own_items node)
unfolding pieces_of
pieces_are node = refl

owes_extent : (placed : Placed) (extent : Element) → Contains (map extent_of (pieces_of placed.node)) extent
    → OwesTo placed extent.address
owes_extent placed extent has =
    let piece = one_mapped extent_of (pieces_of placed.node) extent has in
    let item = one_given item_piece (own_items placed.node) piece.0
    (subst (λ list. Contains list piece.0) (pieces_are placed.node) piece.1) in
    let owes = owes_part (header_of placed.node) placed.full (file_part item.0) piece.0 item.2 in
    let own = contains_flat_map (λ (item : Item). owed_by_part (header_of placed.node) placed.full (file_part item))
    (own_items placed.node) item.0 owes.0 item.1 owes.1 in (
      owes.0,
      subst (λ list. Contains list owes.0) (sym (both_owings placed))
          (Contains-append_right (child_owings placed) (item_owings placed) owes.0 own),
      owes.2 ∙ ap (λ (e : Element). e.address) piece.2,
    )

-- what a node owes leads to a child, or to an extent that it names
record LeadsToChild (node : Node) (at : ℕ) : Type 0 where
  pointer : Pointer
  own : Contains (own_pointers node) pointer
  there : pointer.child ≡ at

record LeadsToExtent (node : Node) (at : ℕ) : Type 0 where
  extent : Element
  named : Contains (map extent_of (pieces_of node)) extent
  there : extent.address ≡ at

node_owes : (placed : Placed) (owing : Owing) → Contains (owed_by_node placed) owing
    → LeadsToChild placed.node owing.address ⊎ LeadsToExtent placed.node owing.address
node_owes placed owing has =
    elim (Contains-append_cases (child_owings placed) (item_owings placed) owing
    (subst (λ list. Contains list owing) (both_owings placed) has)) [
      | inl child ↦
          let one = one_mapped (λ (pointer : Pointer). owed_to_child (header_of placed.node) placed.full pointer.child)
          (own_pointers placed.node) owing child in
          inl (record {
            pointer = one.0;
            own = one.1;
            there = sym (child_is (header_of placed.node) placed.full one.0.child)
                ∙ ap (λ (o : Owing). o.address) one.2;
          })
      | inr by_item ↦
          let item = one_flat_mapped (λ (item : Item). owed_by_part (header_of placed.node) placed.full
          (file_part item))
          (own_items placed.node) owing by_item in
          let piece = part_owes (header_of placed.node) placed.full (file_part item.0) owing item.2 in
          let own = subst (λ list. Contains list piece.0) (sym (pieces_are placed.node))
          (contains_given item_piece (own_items placed.node) item.0 piece.0 item.1 piece.1) in
          inr (record {
            extent = extent_of piece.0;
            named = contains_map extent_of (pieces_of placed.node) piece.0 own;
            there = piece.2;
          })
    ]

-- ---- the layout of some trees

-- a node lies at an address
abbrev HasAt : List Node → ℕ → Type 0
HasAt nodes at = (node : Node) × Contains nodes node × (address_of node ≡ at)

-- a pointer of a node leads there
record IsChild (nodes : List Node) (at : ℕ) : Type 0 where
  parent : Node
  has : Contains nodes parent
  pointer : Pointer
  own : Contains (own_pointers parent) pointer
  there : pointer.child ≡ at

-- one of some roots lies there
abbrev HasRootAt : List (ℕ × ℕ) → ℕ → Type 0
HasRootAt roots at = (root : ℕ × ℕ) × Contains roots root × (root.1 ≡ at)

-- a layout is that of the nodes of the trees with these roots
record IsTreeLayout (layout : Layout) (those : List (ℕ × ℕ)) (nodes : List Node) : Type 0 where
  roots : layout.roots ≡ those
  entries : (entry : ℕ × Placed) → Contains layout.nodes entry → Contains nodes entry.1.node
      × (address_of entry.1.node ≡ entry.0)
  placed : (node : Node) → Contains nodes node
      → (full : Bool) × Contains layout.nodes (address_of node, record { node = node; full = full })
  low : (node : Node) → Contains nodes node → (header_of node).level ≤ 7
  start : (root : ℕ × ℕ) → Contains those root → HasAt nodes root.1
  linked : (parent : Node) (pointer : Pointer) → Contains nodes parent → Contains (own_pointers parent) pointer
      → HasAt nodes pointer.child
  led : (node : Node) → Contains nodes node → HasRootAt those (address_of node) ⊎ IsChild nodes (address_of node)

abbrev root_owing : ℕ × ℕ → Owing
root_owing entry = record { address = entry.1; reference = KeyedBlock entry.0 }

abbrev root_owings : Layout → List Owing
root_owings layout = map root_owing layout.roots

abbrev node_owings : Layout → List Owing
node_owings layout = flat_map (λ entry. owed_by_node entry.1) layout.nodes

all_owings : (layout : Layout) → owed layout ≡ root_owings layout ++ node_owings layout
unfolding owed
all_owings layout = refl

named_extents : (layout : Layout)
    → layout_extents layout ≡ flat_map (λ entry. map extent_of (pieces_of entry.1.node)) layout.nodes
unfolding layout_extents
named_extents layout = refl

-- something is owed to an address
abbrev OwesAt : Layout → ℕ → Type 0
OwesAt layout at = (owing : Owing) × Contains (owed layout) owing × (owing.address ≡ at)

abbrev Begins : Layout → ℕ → Type 0
Begins layout at = Contains (keys_of layout.nodes) at
    ⊎ Contains (map (λ extent. extent.address) (layout_extents layout)) at

-- ---- how much is owed to an address

not_empty : {A : Type 0} (xs : List A) (x : A) → Contains xs x → (length xs == 0) ≡ false
not_empty [] x has = absurd (none_contained x has)
not_empty (y ∷ ys) x has = ne_eqb (length (y ∷ ys)) 0 (λ none. omega (arith, none))

the_first : {A : Type 0} (xs : List A) → (length xs == 0) ≡ false → (x : A) × Contains xs x
the_first [] some = absurd (true≢false some)
the_first (x ∷ xs) some = (x, contains_here x xs)

-- the reference that is owed there
abbrev owed_there : ℕ → Owing → Option Reference
owed_there at owing = if owing.address == at then Some owing.reference else None

there_is : (at : ℕ) (owing : Owing) (reference : Reference) → owed_there at owing ≡ Some reference → owing.address ≡ at
there_is at owing reference is = elim (cases_Bool (owing.address == at)) [
  | inl same ↦ eqb-true owing.address at same
  | inr other ↦
      let none : None ≡ Some reference = sym (cond-false (owing.address == at) (Some owing.reference) None other)
      ∙ is in
      absurd cc
]

owes_some : (layout : Layout) (at : ℕ) → OwesAt layout at → (length (owed_to layout at) == 0) ≡ false
owes_some layout at owes =
    not_empty (owed_to layout at) owes.0.reference
    (contains_given (owed_there at) (owed layout) owes.0 owes.0.reference owes.1
    (cond-true (owes.0.address == at) (Some owes.0.reference) None (eq-eqb owes.0.address at owes.2)))

some_owes : (layout : Layout) (at : ℕ) → (length (owed_to layout at) == 0) ≡ false → OwesAt layout at
some_owes layout at some =
    let reference = the_first (owed_to layout at) some in
    let owing = one_given (owed_there at) (owed layout) reference.0 reference.1 in
    (owing.0, owing.1, there_is at owing.0 reference.0 owing.2)

-- ---- what begins is owed, and what is owed begins

module _ (layout : Layout) (roots : List (ℕ × ℕ)) (nodes : List Node) (tree : IsTreeLayout layout roots nodes) where
  owed_by : (entry : ℕ × Placed) (at : ℕ) → Contains layout.nodes entry → OwesTo entry.1 at → OwesAt layout at
  owed_by entry at has owes = (
    owes.0,
    subst (λ list. Contains list owes.0) (sym (all_owings layout))
        (Contains-append_right (root_owings layout) (node_owings layout) owes.0
        (contains_flat_map (λ (entry : ℕ × Placed). owed_by_node entry.1) layout.nodes entry owes.0 has owes.1)),
    owes.2,
  )

  root_owed : (root : ℕ × ℕ) → Contains roots root → OwesAt layout root.1
  root_owed root has =
      let owing = root_owing root in
      let own = subst (λ (roots : List (ℕ × ℕ)). Contains (map root_owing roots) owing) (sym tree.roots)
      (contains_map root_owing roots root has) in (
        owing,
        subst (λ list. Contains list owing) (sym (all_owings layout))
            (Contains-append_left (root_owings layout) (node_owings layout) owing own),
        refl,
      )

  node_owed : (node : Node) → Contains nodes node → OwesAt layout (address_of node)
  node_owed node has = elim (tree.led node has) [
    | inl root ↦ subst (OwesAt layout) root.2 (root_owed root.0 root.1)
    | inr child ↦
        let above = tree.placed child.parent child.has in
        let parent : Placed = record { node = child.parent; full = above.0 } in
        subst (OwesAt layout) child.there (owed_by (address_of child.parent, parent) child.pointer.child above.1
        (owes_child parent child.pointer child.own))
  ]

  extent_owed : (extent : Element) → Contains (layout_extents layout) extent → OwesAt layout extent.address
  extent_owed extent has =
      let entry = one_flat_mapped (λ (entry : ℕ × Placed). map extent_of (pieces_of entry.1.node)) layout.nodes extent
      (subst (λ list. Contains list extent) (named_extents layout) has) in
      owed_by entry.0 extent.address entry.1 (owes_extent entry.0.1 extent entry.2)

  begins_owed : (at : ℕ) → Begins layout at → OwesAt layout at
  begins_owed at (inl key) =
      let entry = one_mapped (λ (entry : ℕ × Placed). entry.0) layout.nodes at key in
      let its = tree.entries entry.0 entry.1 in
      subst (OwesAt layout) (its.1 ∙ entry.2) (node_owed entry.0.1.node its.0)
  begins_owed at (inr named) =
      let extent = one_mapped (λ (extent : Element). extent.address) (layout_extents layout) at named in
      subst (OwesAt layout) extent.2 (extent_owed extent.0 extent.1)

  node_begins : (at : ℕ) → HasAt nodes at → Begins layout at
  node_begins at here =
      let entry = tree.placed here.0 here.1 in
      inl (subst (Contains (keys_of layout.nodes)) here.2 (contains_map (λ (entry : ℕ × Placed). entry.0) layout.nodes
      (address_of here.0, record { node = here.0; full = entry.0 }) entry.1))

  owed_begins : (at : ℕ) → OwesAt layout at → Begins layout at
  owed_begins at owes = elim (Contains-append_cases (root_owings layout) (node_owings layout) owes.0
      (subst (λ list. Contains list owes.0) (all_owings layout) owes.1)) [
        | inl by_root ↦
            let entry = one_mapped root_owing layout.roots owes.0 by_root in
            let own = subst (λ (roots : List (ℕ × ℕ)). Contains roots entry.0) tree.roots entry.1 in
            let same : entry.0.1 ≡ at = ap (λ (o : Owing). o.address) entry.2 ∙ owes.2 in
            subst (Begins layout) same (node_begins entry.0.1 (tree.start entry.0 own))
        | inr by_node ↦
            let entry = one_flat_mapped (λ (entry : ℕ × Placed). owed_by_node entry.1) layout.nodes owes.0 by_node in
            subst (Begins layout) owes.2 (lead entry.0 entry.1 owes.0.address (node_owes entry.0.1 owes.0 entry.2))
      ]
    where
      lead : (entry : ℕ × Placed) → Contains layout.nodes entry → (there : ℕ) → LeadsToChild entry.1.node there
          ⊎ LeadsToExtent entry.1.node there → Begins layout there
      lead entry has there (inl child) =
          subst (Begins layout) child.there
          (node_begins child.pointer.child
          (tree.linked entry.1.node child.pointer (tree.entries entry has).0 child.own))
      lead entry has there (inr run) =
          let own = contains_flat_map (λ (entry : ℕ × Placed). map extent_of (pieces_of entry.1.node)) layout.nodes
          entry run.extent has run.named in
          inr (subst (Contains (map (λ extent. extent.address) (layout_extents layout))) run.there
          (contains_map (λ (extent : Element). extent.address) (layout_extents layout) run.extent
          (subst (λ list. Contains list run.extent) (sym (named_extents layout)) own)))

  is_owed : (at : ℕ) → is_nothing (what_at layout at) ≡ (length (owed_to layout at) == 0)
  is_owed at = elim (cases_Bool (is_nothing (what_at layout at))) [
    | inl none ↦ none ∙ sym (elim (cases_Bool (length (owed_to layout at) == 0)) [
      | inl empty ↦ empty
      | inr some ↦ absurd (true≢false (sym none ∙ something_if layout at (owed_begins at (some_owes layout at some))))
    ])
    | inr some ↦ some ∙ sym (owes_some layout at (begins_owed at (if_something layout at some)))
  ]

  is_low : (at : ℕ) (header : Header) (full : Bool) → what_at layout at ≡ Block header full → header.level < 256
  is_low at header full is = elim (some_or_none (value_at at layout.nodes)) [
    | inl none ↦ elim (some_or_none (find (λ extent. extent.address == at) (layout_extents layout))) [
      | inl none' ↦
          let nothing : Nothing ≡ Block header full = sym (nothing_is none none') ∙ is in
          absurd cc
      | inr found ↦
          let run : Data found.0.bytes ≡ Block header full = sym (data_is none found.0 found.1) ∙ is in
          absurd cc
    ]
    | inr found ↦
        let block : Block (header_of found.0.node) found.0.full ≡ Block header full = sym (block_is found.0 found.1)
        ∙ is in
        let same : header_of found.0.node ≡ header = cc in
        let entry = tree.entries (at, found.0) (entry_of_value at found.0 layout.nodes found.1) in
        omega (arith, tree.low found.0.node entry.0, ap (λ (h : Header). h.level) same)
  ]
    where
      nothing_is : value_at at layout.nodes ≡ None → find (λ extent. extent.address == at) (layout_extents layout)
          ≡ None → what_at layout at ≡ Nothing
      nothing_is none none' = rw none (rw none' refl)

      data_is : value_at at layout.nodes ≡ None → (extent : Element)
          → find (λ extent. extent.address == at) (layout_extents layout) ≡ Some extent
          → what_at layout at ≡ Data extent.bytes
      data_is none extent is = rw none (rw is refl)

      block_is : (placed : Placed) → value_at at layout.nodes ≡ Some placed
          → what_at layout at ≡ Block (header_of placed.node) placed.full
      block_is placed is = rw is refl

  owing_tree : IsOwing layout
  owing_tree = record { owed = is_owed; low = is_low }

-- ---- the layout of an image

when_some : {A : Type 0} (test : Bool) (given : Option A) (x : A) → when test given ≡ Some x → given ≡ Some x
when_some true given x is = is
when_some false given x is = absurd cc

module _ (super : Super) (image : List ℕ) (roots : List (ℕ × RootItem)) (read : NodesRead) (extents : List Element)
    (parts : List ExtentPart)
    (are : AreGathered super image roots read extents parts) where
  -- each of its nodes is one of those that were read
  pub entry-there : (entry : ℕ × Placed) → Contains (layout_of (state_in super image)).nodes entry
      → Contains are.gathered.nodes entry.1.node × (address_of entry.1.node ≡ entry.0)
  entry-there entry has =
      let laid = by_address super image roots read extents parts are in
      let told = subst (λ table. Contains table entry) (listed super image roots read extents parts are) has in
      let one = one_mapped (entry_of (extent_parts super image)) laid.sorted entry told in
      let same : one.0 ≡ entry.1.node = ap (λ (e : ℕ × Placed). e.1.node) one.2 in (
        subst (Contains are.gathered.nodes) same (laid.same.into one.0 one.1),
        ap address_of (sym same)
            ∙ ap (λ (e : ℕ × Placed). e.0) one.2,
      )

  back : (node : Node) → Contains are.gathered.nodes node
      → Contains (layout_of (state_in super image)).nodes (address_of node, placed (extent_parts super image) node)
  back node has =
      let laid = by_address super image roots read extents parts are in
      subst (λ table. Contains table (address_of node, placed (extent_parts super image) node))
      (sym (listed super image roots read extents parts are))
      (contains_map (entry_of (extent_parts super image)) laid.sorted node (laid.same.back node has))

  led_there : (node : Node) → Contains are.gathered.nodes node
      → HasRootAt (map root_at roots) (address_of node) ⊎ IsChild are.gathered.nodes (address_of node)
  led_there node has =
      let entry = are.gathered.only node has in
      let root = entry.0.1 in
      let found = nodes_of (node_found super image) in
      let level = level_in super image root.bytenr in
      let lie = LieWhereFound-image super image in
      let below = when_some (is_way Files super (node_found super image) (root_told root) root.bytenr)
      (nodes_below found level root.bytenr)
      (nodes_of_root Files super image root) (tree_under Files super image (root_told root) root.bytenr
      (are.sound entry.0 entry.1)) in
      elim (led-below found level root.bytenr (nodes_of_root Files super image root) node below entry.2) [
        | inl is ↦ inl (
          root_at entry.0,
          contains_map root_at roots entry.0 entry.1,
          sym
              (lie.found root.bytenr node is),
        )
        | inr child ↦ inr (record {
          parent = child.parent;
          has = are.gathered.all entry.0 child.parent entry.1 child.has;
          pointer = child.pointer;
          own = child.own;
          there = sym (lie.found child.pointer.child node child.leads);
        })
      ]

  start_there : (root : ℕ × ℕ) → Contains (map root_at roots) root → HasAt are.gathered.nodes root.1
  start_there root has =
      let entry = one_mapped root_at roots root has in
      let start = (branch super image roots read extents parts are entry.0 entry.1).start in
      (start.node, are.gathered.all entry.0 start.node entry.1 start.has, start.lies ∙ ap (λ (r : ℕ × ℕ). r.1) entry.2)

  linked_there : (parent : Node) (pointer : Pointer) → Contains are.gathered.nodes parent
      → Contains (own_pointers parent) pointer → HasAt are.gathered.nodes pointer.child
  linked_there parent pointer has own =
      let entry = are.gathered.only parent has in
      let link = (branch super image roots read extents parts are entry.0 entry.1).reached.linked parent pointer entry.2
      own in
      (link.2.node, are.gathered.all entry.0 link.2.node entry.1 link.2.has, link.2.lies)

  tree_layout : IsTreeLayout (layout_of (state_in super image)) (map root_at roots) are.gathered.nodes
  tree_layout = record {
    roots = roots_are super image roots read extents parts are;
    entries = entry-there;
    placed = λ node has. ((placed (extent_parts super image) node).full, back node has);
    low = λ node has. (found_is super image (address_of node) node (are.gathered.found node has)).low;
    start = start_there;
    linked = linked_there;
    led = led_there;
  }

  -- references are owed exactly to what begins in it
  pub owing-image : IsOwing (layout_of (state_in super image))
  owing-image = owing_tree (layout_of (state_in super image)) (map root_at roots) are.gathered.nodes tree_layout
