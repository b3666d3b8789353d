-- A tree that was built, where its nodes are told in the order of the walk and no image is read.
use Rattle.std.proofs.Common.{◌≡◌, ℕ, List, map, sym, ap, subst}
use Rattle.std.specs.Prelude.{◌==◌, Option, Some, None, Ok}
use Rattle.std.specs.List.{AllByRecursion, Contains, IsDistinct}
use Rattle.std.proofs.lemmas.List.Sorted.{Contains-permutation, IsPermutation-map, IsPermutation-sym}
use Rattle.std.proofs.lemmas.Map.Keys.{IsDistinct-IsPermutation}
use Rattle.qg_node.specs.declared.item.Item.{Item}
use Rattle.qg_node.specs.declared.node.Node.{Node}
use Rattle.qg_super.specs.declared.superblock.Super.{Super}
use Rattle.qg_image.specs.Reach.{level_of}
use Rattle.qg_image.specs.declared.expected.Expected.{Expected}
use Rattle.qg_image.specs.declared.tree.TreeKind.{TreeKind}
use Rattle.qg_image.specs.Among.{found_among, found_there, node_among}
use Rattle.qg_image.specs.ItemsUnder.{items_under, nodes_under}
use Rattle.qg_image.specs.OtherTrees.{IsOfFormat, IsTreeOfNodes}
use Rattle.qg_image.specs.Walk.{root_expected}
use Rattle.qg_tree_layout.specs.Build.{IsMadeFor}
use Rattle.qg_tree_layout.specs.Row.{address_of}
use Rattle.qg_tree_layout.proofs.Frame.{all_found}
use Rattle.qg_reach.proofs.Members.{each_contained}
use Rattle.qg_other_trees.proofs.Slots.{all_contained, flips}
use Rattle.qg_other_trees.proofs.TreesIn.{among, root_stands, stands_open, stands_told, AreThere, IsBuiltFor, Stands}

module _ (tree : TreeKind) (super : Super) (nodesize owner generation : ℕ) (items : List Item) (slots : List ℕ)
    (nodes : List Node) (root level : ℕ)
    (is : IsBuiltFor tree super nodesize owner generation items slots nodes root level)
    (apart : IsDistinct (λ a b. a == b) (map address_of nodes)) where
  abbrev pub those : List Node
  those = is.built.reached.those

  those_apart : IsDistinct (λ a b. a == b) (map address_of those)
  those_apart =
      IsDistinct-IsPermutation (λ a b. a == b) flips (map address_of nodes) (map address_of those)
      (IsPermutation-map address_of nodes those (IsPermutation-sym those nodes is.built.reached.same)) apart

  there : AreThere (found_among those) nodes
  there = all_contained (λ node. found_among those (address_of node) ≡ Ok node) nodes found where
    found : (node : Node) → Contains nodes node → found_among those (address_of node) ≡ Ok node
    found node has =
        let back = Contains-permutation nodes those node (IsPermutation-sym those nodes is.built.reached.same) has in
        let at =
        each_contained (λ (node : Node). node_among those (address_of node) ≡ Some node) those node
        (all_found those those_apart) back in
        ap (λ (here : Option Node). found_there here (address_of node)) at

  stood : level_of (node_among those root) ≡ level
  stood =
      let at =
      root_stands tree super nodesize owner generation items slots nodes root level is (found_among those) there in
      rw (among (node_among those root) root at.node at.is) at.stands

  tree_by : (expected : Expected) → Stands tree super (found_among those) expected level root items those
      → IsTreeOfNodes tree super expected root those items
  tree_by expected stands = record {
    walked = stands.walked;
    nodes_are =
        subst (λ (n : ℕ). nodes_under tree super (found_among those) n expected root ≡ Some those) (sym stood)
        stands.nodes_are;
    items_are =
        subst (λ (n : ℕ). items_under tree super (found_among those) n expected root ≡ Some items) (sym stood)
        stands.items_are;
  }

  pub tree_open : IsTreeOfNodes tree super (root_expected None None) root those items
  tree_open =
      tree_by (root_expected None None)
      (stands_open tree super nodesize owner generation items slots nodes root level is (found_among those) there)

  pub tree_told : IsTreeOfNodes tree super (root_expected (Some level) (Some generation)) root those items
  tree_told =
      tree_by (root_expected (Some level) (Some generation))
      (stands_told tree super nodesize owner generation items slots nodes root level is (found_among those) there)

  pub format : AllByRecursion (IsOfFormat nodesize) those
  format = all_contained (IsOfFormat nodesize) those each where
    each : (node : Node) → Contains those node → IsOfFormat nodesize node
    each node has =
        let made =
        each_contained (IsMadeFor nodesize owner generation) nodes node is.built.made
        (Contains-permutation those nodes node is.built.reached.same has) in
        record { node_of_format = made.node_of_format; fits = made.fits }
