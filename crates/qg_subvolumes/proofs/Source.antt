-- The root of a subvolume that a state holds: it is told, and breaks no rule of the form of nodes.
use Rattle.std.proofs.Common.{◌≡◌, ℕ, ◌-◌, true, List, [], ◌∷◌, Option, Some, None, refl, sym, ap, subst, ◌∙◌}
use Rattle.std.specs.Prelude.{is_some}
use Rattle.std.specs.Option.{option_map}
use Rattle.std.proofs.lemmas.Bool.{eq-eqb, true≢false}
use Rattle.qg_device.specs.History.{History}
use Rattle.qg_node.specs.declared.node.Node.{Node}
use Rattle.qg_node.specs.Nodes.{header_of, own_pointers}
use Rattle.qg_super.specs.declared.superblock.Super.{Super}
use Rattle.qg_super.specs.declared.sizes.Sizes.{Sizes}
use Rattle.qg_image.specs.IsShaped.{is_shaped}
use Rattle.qg_image.specs.Table.{value_at}
use Rattle.qg_image.specs.Reach.{level_of}
use Rattle.qg_image.specs.State.{Placed, State, Subvolume, has_subvolume, node_at}
use Rattle.qg_image.specs.declared.failure.Failure.{Failure}
use Rattle.qg_image.specs.declared.tree.TreeKind.TheVariants.{Files}
use Rattle.qg_image.specs.Failure.{first_failure}
use Rattle.qg_image.specs.Among.{found_there}
use Rattle.qg_image.specs.Walk.{deepest, found_failure, is_generation, node_failure, pointers_failure, root_expected}
use Rattle.qg_image.specs.Walk.{shape_failure, walk_failure, way_failure}
use Rattle.qg_machine.specs.Layout.{IsReached, IsTreeOf, IsWhole, found_in, super_to_come}
use Rattle.qg_machine.specs.Refusals.{root_level}
use Rattle.qg_walk.specs.Standing.{form_failure}
use Rattle.qg_walk.proofs.Failures.{neither}
use Rattle.qg_blocks.specs.NodesFound.{told}
use Rattle.qg_node_alloc.specs.declared.ground.Ground.{Ground}
use Rattle.qg_node_alloc.specs.Land.{IsGround}
use Rattle.qg_tree_read.specs.Tree.{Root, super_of}
use Rattle.qg_tree_read.proofs.BranchForms.{expected-form, form-expected}
use Rattle.qg_tree_read.proofs.BranchFrames.{reach-top}
use Rattle.qg_tree_backrefs.specs.declared.tree_refs.TreeRefs.{TreeRefs}
use Rattle.qg_shared_trees.specs.ForestStanding.{HoldsState, root_of, tree_of}
use Rattle.qg_shared_trees.proofs.Meeting.{each-there}
use Rattle.qg_shared_trees.proofs.ForestRoots.{root_level-value, root_of-value}
use Rattle.qg_subvolumes.proofs.Homed.{tree_at, tree-reached}

-- ---- a subvolume's root

-- a subvolume with its root node
pub record HasRoot (state : State) (sub : ℕ) : Type 0 where
  pub source : Subvolume
  pub there : value_at sub state.subvolumes ≡ Some source
  pub placed : Placed
  pub here : value_at source.root state.layout ≡ Some placed
  pub tree : IsTreeOf state source

some_value : (state : State) (sub : ℕ) (o : Option Subvolume) → value_at sub state.subvolumes ≡ o → is_some o ≡ true
    → (source : Subvolume) × (value_at sub state.subvolumes ≡ Some source)
some_value state sub None is some = absurd (true≢false (sym some))
some_value state sub (Some source) is some = (source, is)

some_placed : (layout : List (ℕ × Placed)) (q : ℕ) (o : Option Placed) → value_at q layout ≡ o → (node : Node)
    → node_at layout q ≡ Some node → (placed : Placed) × (value_at q layout ≡ Some placed)
some_placed layout q None is node there =
    let wrong : ◌≡◌ {A = Option Node} None (Some node) =
    sym (ap (λ (o : Option Placed). option_map (λ (placed : Placed). placed.node) o) is) ∙ there in absurd cc
some_placed layout q (Some placed) is node there = (placed, is)

pub has-root : (state : State) (sub : ℕ) → IsWhole state → has_subvolume state sub ≡ true → HasRoot state sub
has-root state sub whole has =
    let value = some_value state sub (value_at sub state.subvolumes) refl has in
    let tree = tree_at state whole sub value.0 value.1 in
    let found = tree-reached state whole value.0 tree value.0.root
    (reach-top (node_at state.layout) deepest value.0.root) in
    let placed = some_placed state.layout value.0.root (value_at value.0.root state.layout) refl found.0 found.1 in
    record { source = value.0; there = value.1; placed = placed.0; here = placed.1; tree = tree }

-- ---- rules

two_of_three : (a b c : Option Failure) → first_failure (a ∷ b ∷ c ∷ []) ≡ None → first_failure (a ∷ b ∷ []) ≡ None
two_of_three None None c none = refl
two_of_three None (Some failure) c none = absurd cc
two_of_three (Some failure) b c none = absurd cc

pub node-formed : (super : Super) (level : Option ℕ) (address : ℕ) (node : Node)
    → node_failure Files super (root_expected level None) address node ≡ None
    → form_failure Files super (root_expected level None) address node ≡ None
unfolding node_failure
node-formed super level address node none =
    two_of_three (way_failure Files super (root_expected level None) address node)
    (shape_failure super.nodesize (root_expected level None) address node) _ none

-- a root that breaks none is of its level, over another superblock of its generation and nodesize too
root_still : (super other : Super) (address level : ℕ) (node : Node) → other.generation ≡ super.generation
    → other.nodesize ≡ super.nodesize → level ≡ (header_of node).level
    → form_failure Files super (root_expected None None) address node ≡ None
    → form_failure Files other (root_expected (Some level) None) address node ≡ None
root_still super other address level node generation nodesize same none =
    let is = form-expected Files super (root_expected None None) address node none in
    expected-form Files other (root_expected (Some level) None) address node (record {
      level = eq-eqb level (header_of node).level same;
      owner = is.owner;
      generation = ap (λ (g : ℕ). is_generation g None (header_of node).generation) generation ∙ is.generation;
      begins = is.begins;
      ends = is.ends;
      shaped = ap (λ (n : ℕ). is_shaped n None node) nodesize ∙ is.shaped;
    })

-- ---- what a state's tree tells of its root

module _ (state : State) (sub : ℕ) (root : HasRoot state sub) where
  pub node-there : node_at state.layout root.source.root ≡ Some root.placed.node
  node-there = ap (λ (o : Option Placed). option_map (λ (placed : Placed). placed.node) o) root.here

  pub root-is : root_of state sub ≡ root.source.root
  root-is = root_of-value state sub root.source root.there

  pub level-is : root_level state sub ≡ (header_of root.placed.node).level
  level-is = root_level-value state sub root.source root.there ∙ ap level_of node-there

  parts : (node_failure Files (super_to_come state) (root_expected None None) root.source.root root.placed.node ≡ None)
      × (pointers_failure (walk_failure (node_failure Files (super_to_come state)) (found_in state.layout) 6)
      ((header_of root.placed.node).level - 1) None (own_pointers root.placed.node) ≡ None)
  unfolding walk_failure
  parts =
      let judge = node_failure Files (super_to_come state) in
      let walk = walk_failure judge (found_in state.layout) 6 in
      neither (judge (root_expected None None) root.source.root root.placed.node)
      (pointers_failure walk ((header_of root.placed.node).level - 1) None (own_pointers root.placed.node))
      (sym (ap (λ (o : Option Node). found_failure judge walk (root_expected None None) root.source.root
      (found_there o root.source.root)) node-there) ∙ root.tree.walked)

  -- the walk meets no failure under its pointers
  pub under-root : pointers_failure (walk_failure (node_failure Files (super_to_come state)) (found_in state.layout) 6)
      ((header_of root.placed.node).level - 1) None (own_pointers root.placed.node) ≡ None
  under-root = parts.1

  pub root-reached : IsWhole state → IsReached state (root.source.root, root.placed)
  root-reached whole = each-there (IsReached state) root.source.root root.placed state.layout whole.reached root.here

  module _ (land : Ground) (history : History) (book : TreeRefs)
      (holds : HoldsState land history book state)
      (tree : Root) (is : tree ≡ tree_of state sub) where
    pub address-is : tree.address ≡ root.source.root
    address-is = ap (λ (r : Root). r.address) is ∙ root-is

    height_is : tree.height ≡ (header_of root.placed.node).level
    height_is = ap (λ (r : Root). r.height) is ∙ level-is

    -- it is told
    pub root-told : told land.blocks.draft history tree.address ≡ Some root.placed.node
    root-told =
        ap (λ (q : ℕ). told land.blocks.draft history q) address-is
        ∙ (holds.nodes root.source.root root.placed root.here).told

    -- and breaks no rule of the form of a node
    pub root-formed : IsGround land
        → form_failure Files (super_of tree land.blocks.draft) (root_expected (Some tree.height) None) tree.address
        root.placed.node ≡ None
    root-formed ground =
        root_still (super_to_come state) (super_of tree land.blocks.draft) tree.address tree.height root.placed.node
        (ap (λ (r : Root). r.next) is)
        (ground.nodesize ∙ sym (ap (λ (sizes : Sizes). sizes.nodesize) holds.sizes)) height_is
        (subst (λ (q : ℕ). form_failure Files (super_to_come state) (root_expected None None) q root.placed.node ≡ None)
        (sym address-is) (node-formed (super_to_come state) None root.source.root root.placed.node parts.0))
