-- What a walk finds of a tree (this project's own).
use Rattle.std.specs.Prelude.{◌≡◌, All, ℕ, List, map, Option, Some, None, IsTrue}
use Rattle.std.specs.List.{list_all}
use Rattle.qg_num.specs.Fields.{IsBytes}
use Rattle.qg_node.specs.declared.item.Item.{Item}
use Rattle.qg_node.specs.declared.node.Node.{Node}
use Rattle.qg_super.specs.declared.superblock.Super.{Super}
use Rattle.qg_image.specs.declared.tree.TreeKind.{TreeKind}
use Rattle.qg_image.specs.declared.expected.Expected.{Expected}
use Rattle.qg_image.specs.Walk.{is_item_of, node_found, tree_failure}
use Rattle.qg_image.specs.ItemsUnder.{items_under, nodes_under}
use Rattle.qg_image.specs.ImageState.{level_in, tree_items, tree_nodes}

-- In an image the walk of a tree meets no failure. What was found is what the tree's items say, from left to right, and
-- what is kept of its nodes, each before those below it
pub record IsWalk {P N : Type 0} (tree : TreeKind) (meaning : Item → Option P) (keeps : N → List Node
    → Type 0) (super : Super) (image : List ℕ) (expected : Expected) (root : ℕ) (parts : List P)
    (nodes : N) : Type 0 where
  pub sound : tree_failure tree super image expected root ≡ None
  pub items : items_under tree super (node_found super image) (level_in super image root) expected root
      ≡ Some (tree_items tree super image expected root)
  pub reached : nodes_under tree super (node_found super image) (level_in super image root) expected root
      ≡ Some (tree_nodes tree super image expected root)
  pub held : IsTrue (list_all (is_item_of tree super.generation) (tree_items tree super image expected root))
  pub bytes : All (λ item. IsBytes item.body) (tree_items tree super image expected root)
  pub said : map meaning (tree_items tree super image expected root) ≡ map (λ part. Some part) parts
  pub kept : keeps nodes (tree_nodes tree super image expected root)
