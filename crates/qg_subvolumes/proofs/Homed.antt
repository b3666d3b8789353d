-- With one subvolume more, each node that is not full is reached by its owner still.
use Rattle.std.proofs.Common.{◌≡◌, ◌≢◌, ℕ, ◌≤◌, true, false, List, map, Option, Some, None, arith, refl, sym, ap, subst}
use Rattle.std.proofs.Common.{◌∙◌, inl, inr}
use Rattle.std.specs.List.Sorted.{IsStrictlyIncreasing}
use Rattle.std.specs.Option.{option_map}
use Rattle.std.proofs.lemmas.Bool.{true≢false}
use Rattle.std.proofs.lemmas.Bool.Decides.{eqb_tells}
use Rattle.std.proofs.lemmas.Option.{same_Some}
use Rattle.qg_node.specs.declared.node.Node.{Node}
use Rattle.qg_node.specs.Nodes.{header_of}
use Rattle.qg_super.specs.declared.sizes.Sizes.{Sizes}
use Rattle.qg_image.specs.Table.{keys_of, value_at, with_value}
use Rattle.qg_image.specs.declared.element.Element.{Element}
use Rattle.qg_image.specs.Owed.{homeless}
use Rattle.qg_image.specs.Reach.{is_among, level_of, reach, reach_of, reach_of_root, reach_under, reaches}
use Rattle.qg_image.specs.State.{Placed, State, Subvolume, layout_of, node_at}
use Rattle.qg_image.specs.declared.tree.TreeKind.TheVariants.{Files}
use Rattle.qg_image.specs.Walk.{deepest, node_failure, root_expected}
use Rattle.qg_machine.specs.Layout.{IsTreeOf, IsWhole, super_to_come}
use Rattle.qg_files.proofs.Ascending.{Ascends-increasing, ascends-with_value, increasing-Ascends}
use Rattle.qg_tree_read.specs.Tree.{Reaches}
use Rattle.qg_tree_read.proofs.BranchFrames.{reach-top}
use Rattle.qg_reach.proofs.Layouts.{value_at-with_other, value_at-with_same}
use Rattle.qg_shared_trees.proofs.Homes.{all-home, met-own, owner-reaches}
use Rattle.qg_shared_trees.proofs.ReachAgain.{met-same}
use Rattle.qg_shared_trees.proofs.Snapshotted.{root_entry}
use Rattle.qg_shared_trees.proofs.Walked.{reaches-deeper, walked-found}
use Rattle.qg_shared_trees.proofs.Meeting.{each-there, root-low, root-valued}
use Rattle.qg_subvolumes.proofs.More.{OneMore, no-root}

-- ---- trees of a whole state

module _ (before : State) (whole : IsWhole before) where
  pub tree_at : (owner : ℕ) (subvolume : Subvolume) → value_at owner before.subvolumes ≡ Some subvolume
      → IsTreeOf before subvolume
  tree_at owner subvolume there =
      each-there (λ (entry : ℕ × Subvolume). IsTreeOf before entry.1) owner subvolume before.subvolumes whole.trees
      there

  -- what a subvolume's tree reaches is a node of the layout
  pub tree-reached : (subvolume : Subvolume) → IsTreeOf before subvolume → (q : ℕ)
      → Reaches (node_at before.layout) deepest subvolume.root q
      → (node : Node) × (node_at before.layout q ≡ Some node)
  tree-reached subvolume tree q reaches =
      walked-found (node_failure Files (super_to_come before)) (node_at before.layout) deepest (root_expected None None)
      subvolume.root tree.walked q reaches

  pub reached-there : (owner : ℕ) (subvolume : Subvolume) → value_at owner before.subvolumes ≡ Some subvolume
      → (q : ℕ) → Reaches (node_at before.layout) deepest subvolume.root q
      → (node : Node) × (node_at before.layout q ≡ Some node)
  reached-there owner subvolume there q reaches = tree-reached subvolume (tree_at owner subvolume there) q reaches

  pub tree-low : (subvolume : Subvolume) → IsTreeOf before subvolume
      → level_of (node_at before.layout subvolume.root) ≤ 7
  tree-low subvolume tree = root-low before whole before.subvolumes whole.trees subvolume tree

-- ---- one subvolume more

module _ (before after : State) (sub : ℕ) (more : OneMore before after sub) (whole : IsWhole before)
    (home : homeless (layout_of before) ≡ None) where
  abbrev now : ℕ
  now = more.made.root

  nodesize_is : after.sizes.nodesize ≡ before.sizes.nodesize
  nodesize_is = ap (λ (sizes : Sizes). sizes.nodesize) more.sizes

  -- nodes elsewhere are as they were
  pub node_same : (q : ℕ) → now ≢ q → node_at after.layout q ≡ node_at before.layout q
  node_same q differ =
      ap (λ (o : Option Placed). option_map (λ (placed : Placed). placed.node) o)
      (ap (λ (table : List (ℕ × Placed)). value_at q table) more.layout
      ∙ value_at-with_other now q more.placed before.layout differ)

  pub not_new : (q : ℕ) (node : Node) → node_at before.layout q ≡ Some node → now ≢ q
  not_new q node there same =
      let wrong : ◌≡◌ {A = Option Node} None (Some node) =
      sym (ap (λ (o : Option Placed). option_map (λ (placed : Placed). placed.node) o) more.free)
      ∙ ap (λ (at : ℕ). node_at before.layout at) same ∙ there in absurd cc

  -- the new node lies where it was put
  pub placed_now : value_at now after.layout ≡ Some more.placed
  placed_now =
      ap (λ (table : List (ℕ × Placed)). value_at now table) more.layout
      ∙ value_at-with_same now more.placed before.layout

  pub node_now : node_at after.layout now ≡ Some more.placed.node
  node_now = ap (λ (o : Option Placed). option_map (λ (placed : Placed). placed.node) o) placed_now

  -- roots are as they were
  pub root_same : (owner root : ℕ) → owner ≢ sub → value_at owner (layout_of before).roots ≡ Some root
      → value_at owner (layout_of after).roots ≡ Some root
  root_same owner root differ there =
      ap (λ (table : List (ℕ × Subvolume)). value_at owner (map root_entry table)) more.subvolumes
      ∙ root-valued owner (with_value sub more.made more.others)
      ∙ ap (λ (o : Option Subvolume). option_map (λ (subvolume : Subvolume). subvolume.root) o)
      (value_at-with_other sub owner more.made more.others (λ same. differ (sym same)))
      ∙ sym (root-valued owner more.others)
      ∙ ap (λ (roots : List (ℕ × ℕ)). value_at owner roots) more.roots ∙ there

  pub made_root : value_at sub (layout_of after).roots ≡ Some now
  made_root =
      ap (λ (table : List (ℕ × Subvolume)). value_at sub (map root_entry table)) more.subvolumes
      ∙ root-valued sub (with_value sub more.made more.others)
      ∙ ap (λ (o : Option Subvolume). option_map (λ (subvolume : Subvolume). subvolume.root) o)
      (value_at-with_same sub more.made more.others)

  -- what is met from the root of a subvolume that was there is met as before
  met_root : (owner : ℕ) (subvolume : Subvolume) → value_at owner before.subvolumes ≡ Some subvolume
      → reach_of_root (layout_of after) subvolume.root ≡ reach_of_root (layout_of before) subvolume.root
  unfolding reach_of_root
  met_root owner subvolume there =
      let nodes = node_at before.layout in
      let low = tree-low before whole subvolume (tree_at before whole owner subvolume there) in
      let level = level_of (node_at before.layout subvolume.root) in
      let same : (q : ℕ) → Reaches nodes level subvolume.root q → node_at after.layout q ≡ node_at before.layout q =
      λ q reaches.
      let found = reached-there before whole owner subvolume there q
      (reaches-deeper nodes level deepest subvolume.root q low reaches) in
      node_same q (not_new q found.0 found.1) in
      let top = reached-there before whole owner subvolume there subvolume.root
      (reach-top nodes deepest subvolume.root) in
      let high = ap level_of (node_same subvolume.root (not_new subvolume.root top.0 top.1)) in
      ap (λ (n : ℕ). reach_under (node_at after.layout) n (level_of (node_at after.layout subvolume.root))
      subvolume.root)
      nodesize_is
      ∙ ap (λ (n : ℕ). reach_under (node_at after.layout) before.sizes.nodesize n subvolume.root) high
      ∙ met-same nodes (node_at after.layout) before.sizes.nodesize level subvolume.root same

  subvolume_of : (owner root : ℕ) (o : Option Subvolume) → value_at owner before.subvolumes ≡ o
      → value_at owner (layout_of before).roots ≡ Some root
      → (subvolume : Subvolume) × (value_at owner before.subvolumes ≡ Some subvolume) × (subvolume.root ≡ root)
  subvolume_of owner root None is there =
      let wrong : ◌≡◌ {A = Option ℕ} None (Some root) =
      sym (ap (λ (o : Option Subvolume). option_map (λ (subvolume : Subvolume). subvolume.root) o) is)
      ∙ sym (root-valued owner before.subvolumes) ∙ there in absurd cc
  subvolume_of owner root (Some subvolume) is there = (
    subvolume,
    is,
    same_Some subvolume.root root
        (sym (ap (λ (o : Option Subvolume). option_map (λ (s : Subvolume). s.root) o) is)
        ∙ sym (root-valued owner before.subvolumes) ∙ there),
  )

  -- who reached something reaches it still
  pub reaches-still : (owner at : ℕ) → reaches (layout_of before) owner at ≡ true
      → reaches (layout_of after) owner at ≡ true
  unfolding reach
  reaches-still owner at is = by (value_at owner (layout_of before).roots) refl where
    by : (o : Option ℕ) → value_at owner (layout_of before).roots ≡ o → reaches (layout_of after) owner at ≡ true
    by None none =
        let nothing : reaches (layout_of before) owner at ≡ false =
        ap (λ (o : Option ℕ). is_among at (reach_of (layout_of before) o)) none in
        absurd (true≢false (sym is ∙ nothing))
    by (Some root) there =
        let its = subvolume_of owner root (value_at owner before.subvolumes) refl there in
        let differ : owner ≢ sub = λ same.
        let wrong : ◌≡◌ {A = Option ℕ} None (Some root) =
        sym (no-root before after sub more)
        ∙ ap (λ (n : ℕ). value_at n (layout_of before).roots) (sym same) ∙ there in absurd cc in
        let then = ap (λ (o : Option ℕ). is_among at (reach_of (layout_of after) o))
        (root_same owner root differ there) in
        let was = ap (λ (o : Option ℕ). is_among at (reach_of (layout_of before) o)) there in
        let met = ap (λ (r : ℕ). is_among at (reach_of_root (layout_of after) r)) (sym its.2)
        ∙ ap (λ (elements : List Element). is_among at elements) (met_root owner its.0 its.1)
        ∙ ap (λ (r : ℕ). is_among at (reach_of_root (layout_of before) r)) its.2 in
        then ∙ met ∙ sym was ∙ is

  -- the new node is reached by the new subvolume
  pub made-reached : reaches (layout_of after) sub now ≡ true
  unfolding reach reach_of_root
  made-reached =
      ap (λ (o : Option ℕ). is_among now (reach_of (layout_of after) o)) made_root
      ∙ met-own (node_at after.layout) after.sizes.nodesize (level_of (node_at after.layout now)) now more.placed.node
      node_now

  home_at : (at : ℕ) (placed : Placed) → value_at at after.layout ≡ Some placed → placed.full ≡ false
      → reaches (layout_of after) (header_of placed.node).owner at ≡ true
  home_at at placed there bare = elim (eqb_tells now at) [
    | inl (equal, same) ↦
        let value = same_Some more.placed placed
        (sym placed_now ∙ ap (λ (q : ℕ). value_at q after.layout) same ∙ there) in
        let owner = ap (λ (p : Placed). (header_of p.node).owner) (sym value) ∙ more.owner in
        ap (λ (n : ℕ). reaches (layout_of after) n at) owner
        ∙ ap (λ (q : ℕ). reaches (layout_of after) sub q) (sym same) ∙ made-reached
    | inr (unequal, differ) ↦
        let value = sym (value_at-with_other now at more.placed before.layout differ)
        ∙ ap (λ (table : List (ℕ × Placed)). value_at at table) (sym more.layout) ∙ there in
        reaches-still (header_of placed.node).owner at (owner-reaches (layout_of before) home at placed value bare)
  ]

  pub ascending-then : IsStrictlyIncreasing (keys_of after.layout)
  ascending-then =
      subst (λ (table : List (ℕ × Placed)). IsStrictlyIncreasing (keys_of table)) (sym more.layout)
      (increasing-Ascends 0 (with_value now more.placed before.layout)
      (ascends-with_value 0 now more.placed before.layout (omega arith)
      (Ascends-increasing before.layout whole.ascending)))

  pub home-then : homeless (layout_of after) ≡ None
  home-then = all-home (layout_of after) ascending-then home_at
