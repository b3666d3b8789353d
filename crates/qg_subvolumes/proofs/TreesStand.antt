-- Once a subvolume has a snapshot, the trees that were there stand still.
use Rattle.std.proofs.Common.{◌≡◌, ℕ, ◌≤◌, Bool, List, Option, Some, None, refl, sym, ap, ◌∙◌}
use Rattle.std.specs.Prelude.{is_none}
use Rattle.std.specs.Result.{result_ok}
use Rattle.qg_node.specs.declared.item.Item.{Item}
use Rattle.qg_node.specs.declared.node.Node.{Node}
use Rattle.qg_super.specs.declared.superblock.Super.{Super}
use Rattle.qg_image.specs.Below.{items_below}
use Rattle.qg_image.specs.FilesOf.{files_of}
use Rattle.qg_image.specs.ItemMeaning.{when}
use Rattle.qg_image.specs.Reach.{level_of}
use Rattle.qg_image.specs.State.{State, Subvolume, next_generation, node_at}
use Rattle.qg_image.specs.declared.failure.Failure.{Failure}
use Rattle.qg_image.specs.declared.tree.TreeKind.TheVariants.{Files}
use Rattle.qg_image.specs.Among.{found_there}
use Rattle.qg_image.specs.ItemsUnder.{is_way, items_under, nodes_of}
use Rattle.qg_image.specs.Walk.{deepest, node_failure, root_expected, walk_failure, way_failure}
use Rattle.qg_machine.specs.Layout.{IsTreeOf, found_in, super_to_come}
use Rattle.qg_tree_read.specs.Tree.{Reaches}
use Rattle.qg_tree_read.proofs.BranchFrames.{reach-top}
use Rattle.qg_tree_read.proofs.Frames.{items-same, walk-same}
use Rattle.qg_shared_trees.proofs.Walked.{reaches-deeper, walked-found}

-- what is found is what is told
found_is : (o : Option Node) (at : ℕ) → result_ok (found_there o at) ≡ o
found_is None at = refl
found_is (Some node) at = refl

pub nodes-are : (state : State) → nodes_of (found_in state.layout) ≡ node_at state.layout
nodes-are state = λ i. λ (at : ℕ). found_is (node_at state.layout at) at i

-- two states of one generation and of the same sizes, where all nodes of one are nodes of the other
module _ (before after : State) (super_is : super_to_come after ≡ super_to_come before)
    (next_is : next_generation after ≡ next_generation before)
    (stays : (q : ℕ) (node : Node) → node_at before.layout q ≡ Some node → node_at after.layout q
    ≡ node_at before.layout q)
    (subvolume : Subvolume) (tree : IsTreeOf before subvolume) where
  abbrev super : Super
  super = super_to_come before

  same_deep : (q : ℕ) → Reaches (node_at before.layout) deepest subvolume.root q
      → node_at after.layout q ≡ node_at before.layout q
  same_deep q reaches =
      let found = walked-found (node_failure Files super) (node_at before.layout) deepest (root_expected None None)
      subvolume.root tree.walked q reaches in
      stays q found.0 found.1

  root_same : node_at after.layout subvolume.root ≡ node_at before.layout subvolume.root
  root_same = same_deep subvolume.root (reach-top (node_at before.layout) deepest subvolume.root)

  walked_still : walk_failure (node_failure Files (super_to_come after)) (found_in after.layout) deepest
      (root_expected None None) subvolume.root ≡ None
  walked_still =
      ap (λ (s : Super). walk_failure (node_failure Files s) (found_in after.layout) deepest (root_expected None None)
      subvolume.root) super_is
      ∙ walk-same (node_failure Files super) (node_at before.layout) (node_at after.layout) deepest
      (root_expected None None) subvolume.root same_deep
      ∙ tree.walked

  way_same : is_way Files super (found_in after.layout) (root_expected None None) subvolume.root
      ≡ is_way Files super (found_in before.layout) (root_expected None None) subvolume.root
  unfolding is_way
  way_same =
      ap (λ (o : Option Failure). is_none o)
      (walk-same (way_failure Files super) (node_at before.layout) (node_at after.layout) deepest
      (root_expected None None) subvolume.root same_deep)

  level : ℕ
  level = level_of (node_at before.layout subvolume.root)

  items_still : ((q : ℕ) → Reaches (node_at before.layout) level subvolume.root q
      → node_at after.layout q ≡ node_at before.layout q)
      → items_below (nodes_of (found_in after.layout)) level subvolume.root
      ≡ items_below (nodes_of (found_in before.layout)) level subvolume.root
  items_still same =
      ap (λ (nodes : ℕ → Option Node). items_below nodes level subvolume.root) (nodes-are after)
      ∙ items-same (node_at before.layout) (node_at after.layout) level subvolume.root same
      ∙ sym (ap (λ (nodes : ℕ → Option Node). items_below nodes level subvolume.root) (nodes-are before))

  under_still : level_of (node_at before.layout subvolume.root) ≤ 7
      → items_under Files (super_to_come after) (found_in after.layout)
      (level_of (node_at after.layout subvolume.root)) (root_expected None None) subvolume.root ≡ Some tree.items
  unfolding level
  under_still low =
      let e = root_expected None None in
      let n = level_of (node_at before.layout subvolume.root) in
      let items = items_still (λ q reaches. same_deep q
      (reaches-deeper (node_at before.layout) n deepest subvolume.root q low reaches)) in
      ap (λ (s : Super). items_under Files s (found_in after.layout) (level_of (node_at after.layout subvolume.root)) e
      subvolume.root) super_is
      ∙ ap (λ (o : Option Node). items_under Files super (found_in after.layout) (level_of o) e subvolume.root)
      root_same
      ∙ ap (λ (way : Bool). when way (items_below (nodes_of (found_in after.layout)) n subvolume.root)) way_same
      ∙ ap (λ (list : Option (List Item)). when (is_way Files super (found_in before.layout) e subvolume.root) list)
      items
      ∙ tree.under

  -- the subvolume has its tree still
  pub tree-still : level_of (node_at before.layout subvolume.root) ≤ 7 → IsTreeOf after subvolume
  tree-still low = record {
    items = tree.items;
    walked = walked_still;
    under = under_still low;
    files = ap (λ (generation : ℕ). files_of generation tree.items) next_is ∙ tree.files;
  }
