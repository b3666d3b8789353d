-- What the layout of a whole state owes is owed to a node or a data extent that begins in it.
use Rattle.std.proofs.Common.{◌≡◌, ℕ, zero, suc, ◌<◌, Bool, true, false, List, [], ◌∷◌, map, refl, sym, ap, subst, ◌∙◌}
use Rattle.std.proofs.Common.{inl, inr}
use Rattle.std.specs.Prelude.{◌==◌, Option, Some, None, Contains}
use Rattle.std.specs.List.{AllByRecursion, cons_option, filter_map, find, flat_map}
use Rattle.std.specs.Option.{option_and_then, option_map}
use Rattle.std.proofs.lemmas.Bool.{cases_Bool, cond-false, eq-eqb, true≢false}
use Rattle.std.proofs.lemmas.List.Elements.{Contains-append_cases}
use Rattle.std.proofs.lemmas.Option.{same_Some}
use Rattle.qg_num.specs.declared.piece.Piece.{Piece}
use Rattle.qg_node.specs.declared.node.Header.{Header}
use Rattle.qg_node.specs.declared.item.Item.{Item}
use Rattle.qg_node.specs.declared.pointer.Pointer.{Pointer}
use Rattle.qg_node.specs.declared.node.Node.{Node}
use Rattle.qg_node.specs.declared.node.Node.TheVariants.{Leaf, Inner}
use Rattle.qg_node.specs.Nodes.{header_of, own_items, own_pointers}
use Rattle.qg_items.specs.declared.extent.Reference.{Reference}
use Rattle.qg_items.specs.declared.extent.Reference.TheVariants.{KeyedBlock}
use Rattle.qg_super.specs.Places.{is_served, is_slot}
use Rattle.qg_image.specs.Below.{inner_pointers, joined, leaf_items, nodes_below}
use Rattle.qg_image.specs.ItemMeaning.{file_part}
use Rattle.qg_image.specs.Table.{value_at}
use Rattle.qg_image.specs.declared.part.FilePart.{FilePart}
use Rattle.qg_image.specs.declared.part.FilePart.TheVariants.{Inode, PieceOf}
use Rattle.qg_image.specs.declared.element.Element.{Element}
use Rattle.qg_image.specs.Owed.{Owing, is_nothing, layout_extents, owed, owed_by_node, owed_by_part, owed_count}
use Rattle.qg_image.specs.Owed.{owed_to, owed_to_child, what_at}
use Rattle.qg_image.specs.Reach.{extent_of, piece_of_part, pieces_of}
use Rattle.qg_image.specs.State.{Layout, Placed, State, Subvolume, layout_of, node_at}
use Rattle.qg_image.proofs.Contained.{contains_cases, contains_here, contains_later, none_contained}
use Rattle.qg_machine.specs.Layout.{IsTreeOf, IsWhole}
use Rattle.qg_reach.proofs.Members.{contains_flat_map, contains_map, each_contained, one_flat_mapped, one_mapped}
use Rattle.qg_check.proofs.Found.{first_below}
use Rattle.qg_tree_layout.proofs.Frame.{both}
use Rattle.qg_other_trees.specs.Holds.{AreRuns}
use Rattle.qg_other_trees.proofs.Bound.{owing_of, some_counted}
use Rattle.qg_other_trees.proofs.MetNodes.{has_nodes, met_under}
use Rattle.qg_other_trees.proofs.Slots.{value_contained}
use Rattle.qg_reach.proofs.Ascending.{contained_value}
use Rattle.qg_other_trees.proofs.SubvolumeTree.{level, nodes, root_node, root_there}

-- ---- what begins

block_begins : (layout : Layout) (at : ℕ) (node : Node) → node_at layout.nodes at ≡ Some node
    → is_nothing (what_at layout at) ≡ false
block_begins layout at node is = cases (value_at at layout.nodes) refl is where
  cases : (here : Option Placed) → value_at at layout.nodes ≡ here
      → option_map (λ (placed : Placed). placed.node) here ≡ Some node → is_nothing (what_at layout at) ≡ false
  cases None none given = absurd cc
  cases (Some placed) there given = rw there refl

find_none : (test : Element → Bool) (xs : List Element) (x : Element) → Contains xs x → test x ≡ true
    → find test xs ≡ None → ⊥
find_none test [] x has passes none = none_contained x has
find_none test (y ∷ xs) x has passes none = elim (cases_Bool (test y)) [
  | inl first ↦ let some = rw first at none in absurd cc
  | inr fails ↦
      let rest : find test xs ≡ None = sym (cond-false (test y) (Some y) (find test xs) fails) ∙ none in
      elim (contains_cases y xs x has) [
        | inl is ↦ absurd (true≢false (sym passes ∙ ap test (sym is) ∙ fails))
        | inr later ↦ find_none test xs x later passes rest
      ]
]

named_begins : (layout : Layout) (run : Element) → Contains (layout_extents layout) run
    → is_nothing (what_at layout run.address) ≡ false
named_begins layout run has = node (value_at run.address layout.nodes) refl where
  extent : (found : Option Element)
      → find (λ (extent : Element). extent.address == run.address) (layout_extents layout) ≡ found
      → value_at run.address layout.nodes ≡ None → is_nothing (what_at layout run.address) ≡ false
  extent None found none =
      absurd (find_none (λ (extent : Element). extent.address == run.address) (layout_extents layout) run has
      (eq-eqb run.address run.address refl) found)
  extent (Some other) found none = rw (none, found) refl

  node : (here : Option Placed) → value_at run.address layout.nodes ≡ here
      → is_nothing (what_at layout run.address) ≡ false
  node None none = extent (find (λ (extent : Element). extent.address == run.address) (layout_extents layout)) refl none
  node (Some placed) there = rw there refl

-- ---- the children of nodes that are found

-- the list under one of several pointers, one that has an element
pub record IsUnder {A : Type 0} (under : Pointer → Option (List A)) (pointers : List Pointer) (x : A) : Type 0 where
  pub pointer : Pointer
  pub list : List A
  pub is : under pointer ≡ Some list
  pub has : Contains list x

joined_each : {A : Type 0} (under : Pointer → Option (List A)) (pointers : List Pointer) (all : List A)
    (pointer : Pointer) → joined under pointers ≡ Some all → Contains pointers pointer
    → (list : List A) × (under pointer ≡ Some list)
joined_each under [] all pointer are has = absurd (none_contained pointer has)
joined_each {A} under (first ∷ pointers) all pointer are has =
    let parts = both (under first) (joined under pointers) all are in
    elim (contains_cases first pointers pointer has) [
      | inl is ↦ (parts.0, subst (λ (p : Pointer). under p ≡ Some parts.0) is parts.2)
      | inr later ↦ joined_each under pointers parts.1 pointer parts.3 later
    ]

joined_one : {A : Type 0} (under : Pointer → Option (List A)) (pointers : List Pointer) (all : List A) (x : A)
    → joined under pointers ≡ Some all → Contains all x → IsUnder under pointers x
joined_one under [] all x are has =
    absurd (none_contained x (subst (λ (list : List _). Contains list x) (sym (same_Some [] all are)) has))
joined_one {A} under (first ∷ pointers) all x are has =
    let parts = both (under first) (joined under pointers) all are in
    elim (Contains-append_cases parts.0 parts.1 x (subst (λ (list : List A). Contains list x) (sym parts.4) has)) [
      | inl here ↦ record { pointer = first; list = parts.0; is = parts.2; has = here }
      | inr later ↦
          let found = joined_one under pointers parts.1 x parts.3 later in
          record { pointer = found.pointer; list = found.list; is = found.is; has = found.has }
    ]

-- a node is found
abbrev IsSomeNode : Option Node → Type 0
IsSomeNode here = (node : Node) × (here ≡ Some node)

leaf_child : (found : ℕ → Option Node) (here : Option Node) (nodes : List Node) (node : Node) (pointer : Pointer)
    → option_and_then (λ node. option_and_then (λ items. Some (node ∷ [])) (leaf_items node)) here ≡ Some nodes
    → Contains nodes node → Contains (own_pointers node) pointer → IsSomeNode (found pointer.child)
leaf_child found None nodes node pointer are has leads = absurd cc
leaf_child found (Some (Inner header pointers)) nodes node pointer are has leads = absurd cc
leaf_child found (Some (Leaf header items)) nodes node pointer are has leads =
    let list = subst (λ (l : List Node). Contains l node) (sym (same_Some (Leaf header items ∷ []) nodes are)) has in
    elim (contains_cases (Leaf header items) [] node list) [
      | inl is ↦
          absurd (none_contained pointer (subst (λ (n : Node). Contains (own_pointers n) pointer) (sym is) leads))
      | inr none ↦ absurd (none_contained node none)
    ]

inner_child : (found : ℕ → Option Node) (level : ℕ)
    → ((address : ℕ) (nodes : List Node) (node : Node) (pointer : Pointer)
    → nodes_below found level address ≡ Some nodes
    → Contains nodes node → Contains (own_pointers node) pointer → IsSomeNode (found pointer.child))
    → (here : Option Node) (nodes : List Node) (node : Node) (pointer : Pointer)
    → option_and_then
    (λ node. option_and_then (λ below. Some (node ∷ below))
    (option_and_then (joined (λ pointer. nodes_below found level pointer.child)) (inner_pointers node)))
    here ≡ Some nodes
    → Contains nodes node → Contains (own_pointers node) pointer → IsSomeNode (found pointer.child)
inner_child found level lower None nodes node pointer are has leads = absurd cc
inner_child found level lower (Some (Leaf header items)) nodes node pointer are has leads = absurd cc
inner_child found level lower (Some (Inner header pointers)) nodes node pointer are has leads =
    some_below (joined (λ (p : Pointer). nodes_below found level p.child) pointers) refl are where
      some_below : (below : Option (List Node)) → joined (λ (p : Pointer). nodes_below found level p.child) pointers
          ≡ below
          → option_and_then (λ below. Some (Inner header pointers ∷ below)) below ≡ Some nodes
          → IsSomeNode (found pointer.child)
      some_below None is given = absurd cc
      some_below (Some below) is given =
          let list = subst (λ (l : List Node). Contains l node)
          (sym (same_Some (Inner header pointers ∷ below) nodes given)) has in
          elim (contains_cases (Inner header pointers) below node list) [
            | inl same ↦
                let mine = subst (λ (n : Node). Contains (own_pointers n) pointer) (sym same) leads in
                let under = joined_each (λ (p : Pointer). nodes_below found level p.child) pointers below pointer is
                mine in
                let first = first_below found level pointer.child under.0 under.1 in
                (first.node, first.is)
            | inr later ↦
                let under = joined_one (λ (p : Pointer). nodes_below found level p.child) pointers below node is
                later in
                lower under.pointer.child under.list node pointer under.is under.has leads
          ]

-- where nodes are found from one down, so is each child of them
child_found : (found : ℕ → Option Node) (level address : ℕ) (nodes : List Node) (node : Node) (pointer : Pointer)
    → nodes_below found level address ≡ Some nodes → Contains nodes node → Contains (own_pointers node) pointer
    → IsSomeNode (found pointer.child)
child_found found zero address nodes node pointer are has leads =
    leaf_child found (found address) nodes node pointer are has leads
child_found found (suc level) address nodes node pointer are has leads =
    inner_child found level
    (λ address nodes node pointer are has leads. child_found found level address nodes node pointer are has leads)
    (found address) nodes node pointer are has leads

-- ---- what a node owes

child_address : (header : Header) (full : Bool) (child : ℕ) → (owed_to_child header full child).address ≡ child
child_address header true child = refl
child_address header false child = refl

given_contained : {A B : Type 0} (f : A → Option B) (xs : List A) (x : A) (y : B) → Contains xs x → f x ≡ Some y
    → Contains (filter_map f xs) y
given_contained f [] x y has is = absurd (none_contained x has)
given_contained {A} {B} f (z ∷ xs) x y has is = elim (contains_cases z xs x has) [
  | inl same ↦
      let here : f z ≡ Some y = ap f same ∙ is in
      subst (λ (o : Option B). Contains (cons_option o (filter_map f xs)) y) (sym here)
      (contains_here y (filter_map f xs))
  | inr later ↦ behind (f z) (given_contained f xs x y later is)
]
  where
    behind : (o : Option B) → Contains (filter_map f xs) y → Contains (cons_option o (filter_map f xs)) y
    behind None given = given
    behind (Some w) given = contains_later w (filter_map f xs) y given

-- what a part owes is owed to the extent of its piece
piece_owed : (header : Header) (full : Bool) (given : Option FilePart) (owing : Owing)
    → Contains (owed_by_part header full given) owing
    → (piece : Piece) × (option_and_then piece_of_part given ≡ Some piece) × (owing.address ≡ piece.extent)
piece_owed header full None owing has = absurd (none_contained owing has)
piece_owed header full (Some (Inode ino inode)) owing has = absurd (none_contained owing has)
piece_owed header true (Some (PieceOf ino piece)) owing has = elim (contains_cases _ [] owing has) [
  | inl is ↦ (piece, refl, ap (λ (o : Owing). o.address) (sym is))
  | inr none ↦ absurd (none_contained owing none)
]
piece_owed header false (Some (PieceOf ino piece)) owing has = elim (contains_cases _ [] owing has) [
  | inl is ↦ (piece, refl, ap (λ (o : Owing). o.address) (sym is))
  | inr none ↦ absurd (none_contained owing none)
]

-- what a subvolume owes to its root
abbrev root_owing : ℕ × ℕ → Owing
root_owing entry = record { address = entry.1; reference = KeyedBlock entry.0 }

module _ (state : State) (whole : IsWhole state) (served : is_served state.sizes ≡ true) (runs : AreRuns state)
    (slots : (q : ℕ) (placed : Placed) → value_at q state.layout ≡ Some placed → is_slot state.sizes q ≡ true) where
  abbrev layout : Layout
  layout = layout_of state

  root_begins : (entry : ℕ × ℕ) → Contains layout.roots entry → is_nothing (what_at layout entry.1) ≡ false
  root_begins entry has =
      let from = one_mapped (λ (entry : ℕ × Subvolume). (entry.0, entry.1.root)) state.subvolumes entry has in
      let subvolume = from.0.1 in
      let tree = each_contained (λ (entry : ℕ × Subvolume). IsTreeOf state entry.1) state.subvolumes from.0 whole.trees
      from.1 in
      subst (λ (e : ℕ × ℕ). is_nothing (what_at layout e.1) ≡ false) from.2
      (block_begins layout subvolume.root (root_node state whole subvolume tree)
      (root_there state whole subvolume tree))

  node_begins : (entry : ℕ × Placed) (owing : Owing) → Contains state.layout entry
      → Contains (owed_by_node entry.1) owing
      → is_nothing (what_at layout owing.address) ≡ false
  unfolding owed_by_node layout_extents pieces_of
  node_begins entry owing has owes =
      let placed = entry.1 in
      let node = placed.node in
      let child = λ (pointer : Pointer). owed_to_child (header_of node) placed.full pointer.child in
      let part = λ (item : Item). owed_by_part (header_of node) placed.full (file_part item) in
      let one = met_under state whole served runs slots entry.0 placed
      (contained_value state.layout entry.0 placed whole.ascending has) in
      elim (Contains-append_cases (map child (own_pointers node)) (flat_map part (own_items node)) owing owes) [
        | inl to_child ↦
            let pointer = one_mapped child (own_pointers node) owing to_child in
            let at : pointer.0.child ≡ owing.address =
            sym (child_address (header_of node) placed.full pointer.0.child)
            ∙ ap (λ (o : Owing). o.address) pointer.2 in
            let under = one.entry.1 in
            let below = child_found (node_at state.layout) (level state whole under one.tree) under.root
            (nodes state whole under one.tree) node pointer.0 (has_nodes state whole under one.tree).below one.one
            pointer.1 in
            subst (λ (q : ℕ). is_nothing (what_at layout q) ≡ false) at
            (block_begins layout pointer.0.child below.0 below.1)
        | inr to_extent ↦
            let item = one_flat_mapped part (own_items node) owing to_extent in
            let piece = piece_owed (header_of node) placed.full (file_part item.0) owing item.2 in
            let named = contains_flat_map (λ (e : ℕ × Placed). map extent_of (pieces_of e.1.node)) state.layout entry
            (extent_of piece.0) has
            (contains_map extent_of (pieces_of node) piece.0
            (given_contained (λ (i : Item). option_and_then piece_of_part (file_part i)) (own_items node) item.0 piece.0
            item.1 piece.1)) in
            subst (λ (q : ℕ). is_nothing (what_at layout q) ≡ false) (sym piece.2)
            (named_begins layout (extent_of piece.0) named)
      ]

  owing_begins : (owing : Owing) → Contains (owed layout) owing → is_nothing (what_at layout owing.address) ≡ false
  unfolding owed
  owing_begins owing has =
      elim (Contains-append_cases (map root_owing layout.roots)
      (flat_map (λ (e : ℕ × Placed). owed_by_node e.1) state.layout) owing has) [
        | inl to_root ↦
            let entry = one_mapped root_owing layout.roots owing to_root in
            subst (λ (o : Owing). is_nothing (what_at layout o.address) ≡ false) entry.2 (root_begins entry.0 entry.1)
        | inr by_node ↦
            let entry = one_flat_mapped (λ (e : ℕ × Placed). owed_by_node e.1) state.layout owing by_node in
            node_begins entry.0 owing entry.1 entry.2
      ]

  pub owed_begins : (at : ℕ) (reference : Reference) → 0 < owed_count layout at reference
      → is_nothing (what_at layout at) ≡ false
  unfolding owed_count
  owed_begins at reference some =
      let from = owing_of (owed layout) at reference (some_counted (owed_to layout at) reference some) in
      subst (λ (q : ℕ). is_nothing (what_at layout q) ≡ false) from.there (owing_begins from.owing from.has)

-- where nodes lie in slots
pub owes_begins : (state : State) → IsWhole state → is_served state.sizes ≡ true → AreRuns state
    → AllByRecursion (λ entry. is_slot state.sizes entry.0 ≡ true) state.layout
    → (at : ℕ) (reference : Reference) → 0 < owed_count (layout_of state) at reference
    → is_nothing (what_at (layout_of state) at) ≡ false
owes_begins state whole served runs slots at reference some =
    owed_begins state whole served runs
    (λ q placed there.
    each_contained (λ (entry : ℕ × Placed). is_slot state.sizes entry.0 ≡ true) state.layout (q, placed) slots
    (value_contained q state.layout placed there)) at reference some
