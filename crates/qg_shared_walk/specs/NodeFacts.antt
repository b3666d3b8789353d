-- What is gathered of the nodes of a tree (this project's own). Addresses are in bytes.
use Rattle.std.specs.Prelude.{◌≡◌, ℕ, false, List, map}
use Rattle.qg_node.specs.declared.node.Node.{Node}
use Rattle.qg_node.specs.Nodes.{header_of}
use Rattle.qg_image.specs.declared.element.Element.{Element}
use Rattle.qg_image.specs.State.{Placed}
use Rattle.qg_image.specs.Reach.{extent_of, pieces_of}
use Rattle.qg_image.specs.Owed.{Owing as OwedReference, owed_by_node}
use Rattle.qg_owner_rule.specs.Linked.{linked_of}
use Rattle.qg_owner_rule.specs.declared.linked.Linked.{Linked}
use Rattle.qg_backref_rule.specs.OwedLists.{owings_told}
use Rattle.qg_shared_walk.specs.declared.nodes.NodeRead.{NodeRead}
use Rattle.qg_shared_walk.specs.declared.nodes.NodesRead.{NodesRead}

-- what the rules on all nodes need of one: where it lies and what it points to, its generation, what it owes, and the
-- extents that its pieces name
pub record NodeTold : Type 0 where
  pub linked : Linked
  pub generation : ℕ
  pub owings : List OwedReference
  pub extents : List Element

-- the node as if it weren't full
abbrev pub unmarked : Node → Placed
unmarked node = record { node = node; full = false }

-- what is to be gathered of a node
abbrev pub told_of : Node → NodeTold
told_of node = record {
  linked = linked_of (header_of node).address (unmarked node);
  generation = (header_of node).generation;
  owings = owed_by_node (unmarked node);
  extents = map extent_of (pieces_of node);
}

-- what was gathered of one
abbrev pub told_by : NodeRead → NodeTold
told_by read = record {
  linked = read.linked;
  generation = read.generation;
  owings = owings_told read.owings.items;
  extents = read.extents;
}

-- this was gathered of some nodes, in their order
abbrev pub AreOfNodes : NodesRead → List Node → Type 0
AreOfNodes read nodes = map told_by read.nodes.items ≡ map told_of nodes
