-- Which nodes a commit writes (this project's own).
use Rattle.std.specs.Prelude.{Bool, not, List, ◌++◌, map, ◌==◌}
use Rattle.std.specs.List.{filter, list_any}
use Rattle.qg_node.specs.declared.node.Node.{Node}
use Rattle.qg_node.specs.Nodes.{header_of}
use Rattle.qg_image.specs.State.{State, Committed}

-- the nodes of a committed state: those of its root, extent and quota trees, and those of its subvolumes
abbrev pub committed_nodes : State → List Node
committed_nodes state = state.held.others ++ map (λ entry. entry.1.node) state.layout

-- a commit holds what lies where the node does
abbrev pub is_held_by : Committed → Node → Bool
is_held_by held node = list_any (λ address. address == (header_of node).address) held.nodes

-- those of them that the commit before did not hold
unfoldable pub new_nodes : Committed → State → List Node
new_nodes before state = filter (λ node. not (is_held_by before node)) (committed_nodes state)
