-- The nodes of a tree that is to be built in nodes and space (this project's own).
use Rattle.std.specs.Prelude.{ℕ, List, ◌==◌, IsTrue, map}
use Rattle.std.specs.List.{AllByRecursion, IsDistinct}
use Rattle.qg_node.specs.declared.item.Item.{Item}
use Rattle.qg_node.specs.declared.node.Node.{Node}
use Rattle.qg_node.specs.Nodes.{header_of}
use Rattle.qg_space.specs.Holding.{is_free_slot}
use Rattle.qg_node_alloc.specs.declared.ground.Ground.{Ground}
use Rattle.qg_tree_layout.specs.Build.{IsBuilt}

-- nodes are a tree of these items, and each names a free slot, no two the same
pub record IsPlanned (land : Ground) (owner next : ℕ) (items : List Item) (nodes : List Node) (root level : ℕ)
    : Type 0 where
  pub slots : List ℕ
  pub built : IsBuilt land.space.sizes.nodesize owner next items slots nodes root level
  pub free : AllByRecursion (λ node. IsTrue (is_free_slot land.space (header_of node).address)) nodes
  pub apart : IsDistinct (λ a b. a == b) (map (λ node. (header_of node).address) nodes)
