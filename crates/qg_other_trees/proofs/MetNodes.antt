-- Each node of a whole layout is found from some subvolume's root down, and the layout is that of the image.
use Rattle.std.proofs.Common.{◌≡◌, ℕ, Bool, true, false, List, [], ◌∷◌, ◌++◌, map, refl, sym, ap, subst, ◌∙◌, arith}
use Rattle.std.proofs.Common.{inl, inr}
use Rattle.std.specs.Prelude.{◌||◌, ◌==◌, Option, Some, Contains}
use Rattle.std.specs.List.{AllByRecursion, flat_map, list_any}
use Rattle.std.specs.Option.{option_map}
use Rattle.std.proofs.lemmas.Bool.{cases_Bool, eq-eqb, eqb-true, true≢false}
use Rattle.std.proofs.lemmas.List.Elements.{Contains-append_cases, Contains-append_left, Contains-append_right}
use Rattle.std.proofs.lemmas.Option.{same_Some}
use Rattle.qg_node.specs.declared.node.Node.{Node}
use Rattle.qg_super.specs.Places.{is_served, is_slot}
use Rattle.qg_super.proofs.Runs.{WholeRun, WholeRun-is_run}
use Rattle.qg_image.specs.Below.{nodes_below}
use Rattle.qg_image.specs.Table.{keys_of, value_at}
use Rattle.qg_image.specs.declared.element.Element.{Element}
use Rattle.qg_image.specs.State.{Placed, State, Subvolume, layout_of, node_at}
use Rattle.qg_image.specs.Owed.{layout_extents}
use Rattle.qg_image.specs.Reach.{extent_of, is_among, level_of, pieces_of, reach, reach_of, reaches}
use Rattle.qg_image.proofs.Contained.{contains_cases, contains_here, contains_later, none_contained}
use Rattle.qg_machine.specs.Layout.{IsReached, IsTreeOf, IsWhole}
use Rattle.qg_reach.proofs.Counting.{HasNodes, reach_of_root_nodes}
use Rattle.qg_reach.proofs.Members.{contains_flat_map, each_contained, one_flat_mapped, one_mapped}
use Rattle.qg_reach.proofs.Reached.{FindsEach, elements_of, extents_named}
use Rattle.qg_reach.proofs.SlotRule.{slot_below}
use Rattle.qg_check.proofs.Found.{FindsEach-below}
use Rattle.qg_tree_layout.specs.Row.{address_of}
use Rattle.qg_other_trees.specs.Holds.{AreRuns}
use Rattle.qg_other_trees.proofs.Slots.{value_contained}
use Rattle.qg_other_trees.proofs.SubvolumeTree.{level, lie, node_placed, nodes, nodes_there}

-- ---- what is among elements

-- one of them is at the address
pub record IsThere (q : ℕ) (elements : List Element) : Type 0 where
  pub element : Element
  pub has : Contains elements element
  pub at : element.address ≡ q

there_more : (q : ℕ) (first : Element) (elements : List Element) → (is_among q elements ≡ true → IsThere q elements)
    → (here : Bool) → (first.address == q) ≡ here → (here || is_among q elements) ≡ true → IsThere q (first ∷ elements)
there_more q first elements later true is among =
    record { element = first; has = contains_here first elements; at = eqb-true first.address q is }
there_more q first elements later false is among =
    let found = later among in
    record { element = found.element; has = contains_later first elements found.element found.has; at = found.at }

among_there : (q : ℕ) (elements : List Element) → is_among q elements ≡ true → IsThere q elements
among_there q [] among = absurd cc
among_there q (first ∷ elements) among =
    there_more q first elements (among_there q elements) (first.address == q) refl among

-- one of a list passes a test
one_passes : {A : Type 0} (test : A → Bool) (xs : List A) → list_any test xs ≡ true
    → (x : A) × Contains xs x × (test x ≡ true)
one_passes test [] any = absurd cc
one_passes test (x ∷ xs) any = elim (cases_Bool (test x)) [
  | inl is ↦ (x, contains_here x xs, is)
  | inr other ↦
      let rest : list_any test xs ≡ true = sym (ap (λ (here : Bool). here || list_any test xs) other) ∙ any in
      let later = one_passes test xs rest in
      (later.0, contains_later x xs later.0 later.1, later.2)
]

-- a number that a table has tells a value
key_tells : {A : Type 0} (q : ℕ) (table : List (ℕ × A)) → Contains (keys_of table) q
    → (value : A) × (value_at q table ≡ Some value)
key_tells q [] has = absurd (none_contained q has)
key_tells q (entry ∷ table) has = elim (cases_Bool (entry.0 == q)) [
  | inl same ↦ (entry.1, rw same refl)
  | inr other ↦ elim (contains_cases entry.0 (keys_of table) q has) [
    | inl is ↦ absurd (true≢false (sym (eq-eqb entry.0 q is) ∙ other))
    | inr later ↦
        let rest = key_tells q table later in
        (rest.0, rw other rest.1)
  ]
]

-- ---- the nodes of the layout

-- a node is found from some subvolume's root down
pub record IsMet (state : State) (whole : IsWhole state) (node : Node) : Type 0 where
  pub entry : ℕ × Subvolume
  pub has : Contains state.subvolumes entry
  pub tree : IsTreeOf state entry.1
  pub one : Contains (nodes state whole entry.1 tree) node

-- the nodes that are found from the roots of subvolumes down
abbrev pub all_nodes : (state : State) (whole : IsWhole state) (subvolumes : List (ℕ × Subvolume))
    → AllByRecursion (λ entry. IsTreeOf state entry.1) subvolumes → List Node
all_nodes state whole [] trees = []
all_nodes state whole (entry ∷ subvolumes) trees =
    nodes state whole entry.1 trees.0 ++ all_nodes state whole subvolumes trees.1

module _ (state : State) (whole : IsWhole state) where
  -- they don't depend on how it is known that there is a tree
  same_nodes : (a b : Subvolume) (first : IsTreeOf state a) (second : IsTreeOf state b) → a ≡ b
      → nodes state whole a first ≡ nodes state whole b second
  same_nodes a b first second is =
      same_Some (nodes state whole a first) (nodes state whole b second)
      (sym (nodes_there state whole a first)
      ∙ ap (λ (s : Subvolume). nodes_below (node_at state.layout) (level_of (node_at state.layout s.root)) s.root) is
      ∙ nodes_there state whole b second)

  pub in_all : (subvolumes : List (ℕ × Subvolume)) (trees : AllByRecursion (λ entry. IsTreeOf state entry.1) subvolumes)
      (entry : ℕ × Subvolume) (tree : IsTreeOf state entry.1) (node : Node) → Contains subvolumes entry
      → Contains (nodes state whole entry.1 tree) node → Contains (all_nodes state whole subvolumes trees) node
  in_all [] trees entry tree node has one = absurd (none_contained entry has)
  in_all (first ∷ subvolumes) trees entry tree node has one =
      let front = nodes state whole first.1 trees.0 in
      let back = all_nodes state whole subvolumes trees.1 in
      elim (contains_cases first subvolumes entry has) [
        | inl is ↦
            let same = same_nodes entry.1 first.1 tree trees.0 (ap (λ (e : ℕ × Subvolume). e.1) (sym is)) in
            Contains-append_left front back node (subst (λ (list : List Node). Contains list node) same one)
        | inr later ↦ Contains-append_right front back node (in_all subvolumes trees.1 entry tree node later one)
      ]

  pub has_nodes : (subvolume : Subvolume) (tree : IsTreeOf state subvolume)
      → HasNodes (layout_of state) subvolume.root (nodes state whole subvolume tree)
  has_nodes subvolume tree = record { lie = lie state whole; below = nodes_there state whole subvolume tree }

  pub finds_one : (subvolume : Subvolume) (tree : IsTreeOf state subvolume)
      → FindsEach (node_at state.layout) (nodes state whole subvolume tree)
  finds_one subvolume tree =
      FindsEach-below (node_at state.layout) (level state whole subvolume tree) subvolume.root
      (nodes state whole subvolume tree) (lie state whole) (nodes_there state whole subvolume tree)

  found_each : (subvolumes : List (ℕ × Subvolume)) (trees : AllByRecursion (λ entry. IsTreeOf state entry.1) subvolumes)
      (node : Node) → Contains (all_nodes state whole subvolumes trees) node
      → node_at state.layout (address_of node) ≡ Some node
  found_each [] trees node has = absurd (none_contained node has)
  found_each (entry ∷ subvolumes) trees node has =
      elim (Contains-append_cases (nodes state whole entry.1 trees.0) (all_nodes state whole subvolumes trees.1) node
      has) [
        | inl here ↦ (finds_one entry.1 trees.0).each node here
        | inr later ↦ found_each subvolumes trees.1 node later
      ]

  abbrev pub those : List Node
  those = all_nodes state whole state.subvolumes whole.trees

  pub finds : FindsEach (node_at state.layout) those
  finds = record { each = found_each state.subvolumes whole.trees }

module _ (state : State) (whole : IsWhole state) (served : is_served state.sizes ≡ true) (runs : AreRuns state)
    (slots : (q : ℕ) (placed : Placed) → value_at q state.layout ≡ Some placed → is_slot state.sizes q ≡ true) where
  -- an extent that a node of the layout names is named in the layout
  named : (node : Node) (element : Element) → node_at state.layout (address_of node) ≡ Some node
      → Contains (extents_named node) element → Contains (layout_extents (layout_of state)) element
  unfolding layout_extents
  named node element found has =
      let placed = node_placed state.layout (address_of node) node found in
      let there = value_contained (address_of node) state.layout placed.placed placed.there in
      contains_flat_map (λ (entry : ℕ × Placed). map extent_of (pieces_of entry.1.node)) state.layout
      (address_of node, placed.placed) element there
      (subst (λ (n : Node). Contains (map extent_of (pieces_of n)) element) (sym placed.is) has)

  -- a data extent lies in no slot
  apart : (node : Node) (element : Element) (q : ℕ) → node_at state.layout (address_of node) ≡ Some node
      → Contains (extents_named node) element → element.address ≡ q → is_slot state.sizes q ≡ true → ⊥
  apart node element q found has at slot =
      let run : WholeRun state.sizes element.address element.bytes =
      WholeRun-is_run state.sizes element.address element.bytes (runs element (named node element found has)) in
      let low = slot_below state.sizes q served slot in
      omega (arith, run.begin, at, low)

  reach_is : (sub : ℕ) (subvolume : Subvolume) (tree : IsTreeOf state subvolume)
      → value_at sub (layout_of state).roots ≡ Some subvolume.root
      → reach (layout_of state) sub ≡ flat_map (elements_of state.sizes.nodesize) (nodes state whole subvolume tree)
  unfolding reach
  reach_is sub subvolume tree there =
      ap (reach_of (layout_of state)) there
      ∙ reach_of_root_nodes (layout_of state) subvolume.root (nodes state whole subvolume tree)
      (has_nodes state whole subvolume tree)

  -- what a subvolume reaches at a node's slot is that node
  met_by : (q : ℕ) (placed : Placed) (entry : ℕ × Subvolume) (tree : IsTreeOf state entry.1)
      → value_at q state.layout ≡ Some placed → Contains state.subvolumes entry
      → IsThere q (flat_map (elements_of state.sizes.nodesize) (nodes state whole entry.1 tree))
      → IsMet state whole placed.node
  met_by q placed entry tree there has element =
      let own = nodes state whole entry.1 tree in
      let of_node = one_flat_mapped (elements_of state.sizes.nodesize) own element.element element.has in
      let found_at = (finds_one state whole entry.1 tree).each of_node.0 of_node.1 in
      elim (contains_cases (record { address = address_of of_node.0; bytes = state.sizes.nodesize })
      (extents_named of_node.0)
      element.element of_node.2) [
        | inl is ↦
            let lies : address_of of_node.0 ≡ q = ap (λ (e : Element). e.address) is ∙ element.at in
            let found = subst (λ (a : ℕ). node_at state.layout a ≡ Some of_node.0) lies found_at in
            let same : placed.node ≡ of_node.0 = same_Some placed.node of_node.0
            (sym (ap (λ (p : Option Placed). option_map (λ (placed : Placed). placed.node) p) there) ∙ found) in
            record {
              entry = entry;
              has = has;
              tree = tree;
              one = subst (λ (n : Node). Contains own n) (sym same) of_node.1;
            }
        | inr later ↦ absurd (apart of_node.0 element.element q found_at later element.at (slots q placed there))
      ]

  -- each node of the layout is found from some subvolume's root down
  pub met_under : (q : ℕ) (placed : Placed) → value_at q state.layout ≡ Some placed → IsMet state whole placed.node
  met_under q placed there =
      let layout = layout_of state in
      let has = value_contained q state.layout placed there in
      let reached = (each_contained (IsReached state) state.layout (q, placed) whole.reached has).reached in
      let sub = one_passes (λ (sub : ℕ). reaches layout sub q) (keys_of layout.roots) reached in
      let root = key_tells sub.0 layout.roots sub.1 in
      let entry = one_mapped (λ (entry : ℕ × Subvolume). (entry.0, entry.1.root)) state.subvolumes (sub.0, root.0)
      (value_contained sub.0 layout.roots root.0 root.1) in
      let tree = each_contained (λ (entry : ℕ × Subvolume). IsTreeOf state entry.1) state.subvolumes entry.0 whole.trees
      entry.1 in
      let own : root.0 ≡ entry.0.1.root = ap (λ (pair : ℕ × ℕ). pair.1) (sym entry.2) in
      let told : value_at sub.0 layout.roots ≡ Some entry.0.1.root = root.1 ∙ ap (λ (r : ℕ). Some r) own in
      let among = sym (ap (is_among q) (reach_is sub.0 entry.0.1 tree told)) ∙ sub.2 in
      met_by q placed entry.0 tree there entry.1
      (among_there q (flat_map (elements_of state.sizes.nodesize) (nodes state whole entry.0.1 tree)) among)

  pub met : (q : ℕ) (placed : Placed) → value_at q state.layout ≡ Some placed → Contains (those state whole) placed.node
  met q placed there =
      let by = met_under q placed there in
      in_all state whole state.subvolumes whole.trees by.entry by.tree placed.node by.has by.one
