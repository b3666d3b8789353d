-- What is reached from a root, by the nodes below it.
use Rattle.std.proofs.Common.{◌≡◌, ℕ, List}
use Rattle.std.proofs.Common.{Some}
use Rattle.std.specs.List.{flat_map}
use Rattle.qg_node.specs.declared.node.Node.{Node}
use Rattle.qg_image.specs.Below.{nodes_below}
use Rattle.qg_image.specs.State.{Layout, node_at}
use Rattle.qg_image.specs.Reach.{reach_of_root, level_of}
use Rattle.qg_reach.proofs.Reached.{elements_of, LieWhereFound, reach_under_nodes}

-- the nodes below a root, each found where it says that it lies
pub record HasNodes (layout : Layout) (root : ℕ) (nodes : List Node) : Type 0 where
  pub lie : LieWhereFound (node_at layout.nodes)
  pub below : nodes_below (node_at layout.nodes) (level_of (node_at layout.nodes root)) root ≡ Some nodes

pub reach_of_root_nodes : (layout : Layout) (root : ℕ) (nodes : List Node) → HasNodes layout root nodes
    → reach_of_root layout root ≡ flat_map (elements_of layout.nodesize) nodes
unfolding reach_of_root
reach_of_root_nodes layout root nodes has =
    reach_under_nodes (node_at layout.nodes) layout.nodesize (level_of (node_at layout.nodes root)) root nodes has.lie
    has.below
