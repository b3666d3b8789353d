-- A tree of one image in another one that has each of its nodes where it lies.
use Rattle.std.proofs.Common.{◌≡◌, ◌∙◌, ℕ, Bool, List, [], ◌∷◌, refl, ap}
use Rattle.std.specs.Prelude.{Option, Some, None, Result, Ok, is_none, unwrap_or}
use Rattle.std.specs.List.{Contains}
use Rattle.qg_node.specs.declared.item.Item.{Item}
use Rattle.qg_node.specs.declared.node.Node.{Node}
use Rattle.qg_node.specs.Nodes.{header_of}
use Rattle.qg_items.specs.declared.root.RootItem.{RootItem}
use Rattle.qg_super.specs.declared.superblock.Super.{Super}
use Rattle.qg_image.specs.Below.{items_below, nodes_below}
use Rattle.qg_image.specs.ItemMeaning.{when}
use Rattle.qg_image.specs.declared.expected.Expected.{Expected}
use Rattle.qg_image.specs.declared.failure.Failure.{Failure}
use Rattle.qg_image.specs.declared.tree.TreeKind.{TreeKind}
use Rattle.qg_image.specs.ItemsUnder.{is_way, nodes_of}
use Rattle.qg_image.specs.ImageState.{items_of_root, level_in, nodes_of_root, of_tree, tree_items, tree_nodes}
use Rattle.qg_image.specs.Verdict.{root_failure}
use Rattle.qg_image.specs.Walk.{deepest, node_failure, node_found, root_told, tree_failure, walk_failure, way_failure}
use Rattle.qg_crashes.proofs.Placed.{found_there}
use Rattle.qg_crashes.proofs.Walks.{Judge, root_same, walk_same, items_same, nodes_same}
use Rattle.qg_crashes.proofs.Below.{whole_nodes}

module _ (super : Super) (old new : List ℕ) where
  abbrev in_old : ℕ → Result Node Failure
  in_old = node_found super old

  abbrev in_new : ℕ → Result Node Failure
  in_new = node_found super new

  -- both images have these nodes where they lie
  abbrev pub HaveSame : List Node → Type 0
  HaveSame nodes = (node : Node) → Contains nodes node
      → node_found super new (header_of node).address ≡ node_found super old (header_of node).address

  placed : (address : ℕ) (node : Node) → node_found super old address ≡ Ok node → (header_of node).address ≡ address
  placed address node is = (found_there super old address node is).placed

  module _ (tree : TreeKind) (expected : Expected) (root : ℕ) (none : tree_failure tree super old expected root ≡ None)
      (same : HaveSame (tree_nodes tree super old expected root)) where
    abbrev level : ℕ
    level = level_in super old root

    abbrev nodes : List Node
    nodes = tree_nodes tree super old expected root

    are : nodes_below (nodes_of (node_found super old)) (level_in super old root) root
        ≡ Some (tree_nodes tree super old expected root)
    are = whole_nodes tree super old expected root none

    walks : (judge : Judge) → walk_failure judge (node_found super new) deepest expected root ≡ walk_failure judge
        (node_found super old) deepest expected root
    walks judge = walk_same in_old in_new placed judge level deepest expected root nodes are same

    pub same_failure : tree_failure tree super new expected root ≡ tree_failure tree super old expected root
    unfolding tree_failure
    same_failure = walks (node_failure tree super)

    same_way : is_way tree super (node_found super new) expected root ≡ is_way tree super
        (node_found super old) expected root
    unfolding is_way
    same_way = ap is_none (walks (way_failure tree super))

    same_root : node_found super new root ≡ node_found super old root
    same_root = root_same in_old in_new placed level root nodes are same

    same_level : level_in super new root ≡ level_in super old root
    same_level = rw same_root refl

    pub same_items : tree_items tree super new expected root ≡ tree_items tree super old expected root
    unfolding tree_items
    same_items =
        ap (λ (way : Bool). unwrap_or (when way (items_below (nodes_of in_new) (level_in super new root) root)) [])
        same_way
        ∙ ap (λ (n : ℕ). unwrap_or
        (when (is_way tree super in_old expected root) (items_below (nodes_of in_new) n root)) []) same_level
        ∙ ap (λ (found : Option (List Item)). unwrap_or (when (is_way tree super in_old expected root) found) [])
        (items_same in_old in_new placed level root nodes are same)

    pub same_nodes : tree_nodes tree super new expected root ≡ tree_nodes tree super old expected root
    unfolding tree_nodes
    same_nodes =
        ap (λ (way : Bool). unwrap_or (when way (nodes_below (nodes_of in_new) (level_in super new root) root)) [])
        same_way
        ∙ ap (λ (n : ℕ). unwrap_or
        (when (is_way tree super in_old expected root) (nodes_below (nodes_of in_new) n root)) []) same_level
        ∙ ap (λ (found : Option (List Node)). unwrap_or (when (is_way tree super in_old expected root) found) [])
        (nodes_same in_old in_new placed level root nodes are same)

  -- ---- a tree that may not be there

  pub option_failure : (tree : TreeKind) (root : Option RootItem) → root_failure tree super old root ≡ None
      → HaveSame (of_tree (nodes_of_root tree super old) root)
      → root_failure tree super new root ≡ root_failure tree super old root
  option_failure tree None none same = refl
  option_failure tree (Some root) none same = same_failure tree (root_told root) root.bytenr none same

  pub option_items : (tree : TreeKind) (root : Option RootItem) → root_failure tree super old root ≡ None
      → HaveSame (of_tree (nodes_of_root tree super old) root)
      → of_tree (items_of_root tree super new) root ≡ of_tree (items_of_root tree super old) root
  option_items tree None none same = refl
  option_items tree (Some root) none same = same_items tree (root_told root) root.bytenr none same

  pub option_nodes : (tree : TreeKind) (root : Option RootItem) → root_failure tree super old root ≡ None
      → HaveSame (of_tree (nodes_of_root tree super old) root)
      → of_tree (nodes_of_root tree super new) root ≡ of_tree (nodes_of_root tree super old) root
  option_nodes tree None none same = refl
  option_nodes tree (Some root) none same = same_nodes tree (root_told root) root.bytenr none same
