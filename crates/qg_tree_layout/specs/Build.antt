-- What a tree is that is built of items in order (on-disk format, "B-tree"; how full its nodes are is this project's
-- own).
use Rattle.std.specs.Prelude.{◌≡◌, ℕ, ◌+◌, ◌*◌, ◌≤◌, List, [], ◌∷◌, map, length, take, Option, Some, None, Result, Ok}
use Rattle.std.specs.Prelude.{Err, ◌==◌, if◌then◌else◌, IsTrue}
use Rattle.std.specs.List.{list_all, AllByRecursion}
use Rattle.std.specs.List.Sorted.{IsPermutation}
use Rattle.qg_num.specs.declared.rule.Rule.TheVariants as rule
use Rattle.qg_node.specs.declared.item.Item.{Item}
use Rattle.qg_node.specs.declared.node.Node.{Node}
use Rattle.qg_node.specs.declared.node.Node.TheVariants.{Leaf}
use Rattle.qg_node.specs.Nodes.{header_of, items_bytes}
use Rattle.qg_node.specs.NodeText.{IsNode}
use Rattle.qg_node.specs.Fits.{NodeFits}
use Rattle.qg_super.specs.declared.superblock.Super.{Super}
use Rattle.qg_super.specs.Places.{capacity}
use Rattle.qg_image.specs.Below.{items_below, nodes_below}
use Rattle.qg_image.specs.Need.{nodes_filled}
use Rattle.qg_image.specs.declared.failure.Failure.{Failure}
use Rattle.qg_image.specs.declared.failure.Failure.TheVariants.{Broken}
use Rattle.qg_image.specs.declared.tree.TreeKind.{TreeKind}
use Rattle.qg_image.specs.Walk.{is_owner, is_generation, is_item_of, node_failure, shape_failure, walk_failure, deepest}
use Rattle.qg_image.specs.Walk.{root_expected}
use Rattle.qg_image.specs.ItemsUnder.{items_under}
use Rattle.qg_image.specs.Among.{node_among, found_among}

-- the node is one of the format, whose numbers fit their fields, with this owner and generation
pub record IsMadeFor (nodesize owner generation : ℕ) (node : Node) : Type 0 where
  pub node_of_format : IsNode nodesize node
  pub fits : NodeFits node
  pub owned : (header_of node).owner ≡ owner
  pub made : (header_of node).generation ≡ generation

-- a superblock and a tree allow nodes of this size, owner and generation
pub record Allows (tree : TreeKind) (super : Super) (nodesize owner generation : ℕ) : Type 0 where
  pub same : super.nodesize ≡ nodesize
  pub owned : IsTrue (is_owner tree owner)
  pub made : IsTrue (is_generation super.generation None generation)

-- the tree's walk meets no failure in any image that allows such nodes, where the tree may hold the items
abbrev pub IsWalkedWell : ℕ → ℕ → ℕ → List Item → List Node → ℕ → ℕ → Type 0
IsWalkedWell nodesize owner generation items nodes root level = (tree : TreeKind) (super : Super)
    → Allows tree super nodesize owner generation
    → IsTrue (list_all (is_item_of tree super.generation) items)
    → walk_failure (node_failure tree super) (found_among nodes) deepest (root_expected (Some level) (Some generation))
    root ≡ None

-- the nodes under the one at an address are all of these, each once
pub record Reaches (nodes : List Node) (level root : ℕ) : Type 0 where
  pub those : List Node
  pub under : nodes_below (node_among nodes) level root ≡ Some those
  pub same : IsPermutation those nodes

-- the tree is one leaf, which has all the items
pub record IsOneLeaf (owner generation : ℕ) (items : List Item) (nodes : List Node) (root level : ℕ) : Type 0 where
  pub alone : nodes ≡ Leaf (record { address = root; generation = generation; owner = owner; level = 0 }) items ∷ []
  pub flat : level ≡ 0

-- the nodes are a tree of these items: they lie in the first of the slots, in their order, and there are no more than
-- the items' weight asks for
pub record IsBuilt (nodesize owner generation : ℕ) (items : List Item) (slots : List ℕ) (nodes : List Node)
    (root level : ℕ) : Type 0 where
  -- in any image that allows such nodes, the items under the root are those given
  pub under : (tree : TreeKind) (super : Super) → Allows tree super nodesize owner generation
      → items_under tree super (found_among nodes) level (root_expected (Some level) (Some generation)) root
      ≡ Some items
  -- and so they are where no image allows them
  pub held : items_below (node_among nodes) level root ≡ Some items
  pub reached : Reaches nodes level root
  -- each node on the walk is shaped
  pub shaped : walk_failure (shape_failure nodesize) (found_among nodes) deepest
      (root_expected (Some level) (Some generation)) root ≡ None
  pub walked : IsWalkedWell nodesize owner generation items nodes root level
  pub made : AllByRecursion (IsMadeFor nodesize owner generation) nodes
  pub placed : map (λ node. (header_of node).address) nodes ≡ take (length nodes) slots
  pub few : length nodes ≤ 5 * nodes_filled nodesize (items_bytes items) + 1
  pub low : level ≤ deepest
  -- items that fit in one leaf are one, in the first of the slots
  pub single : items_bytes items ≤ capacity nodesize → IsOneLeaf owner generation items nodes root level
