-- How full a node is (this project's own). What is used of a node is told in bytes, its header left out.
use Rattle.std.specs.Prelude.{ℕ, ◌+◌, ◌*◌, ◌≤◌, ◌<◌, length}
use Rattle.std.specs.List.{All}
use Rattle.qg_node.specs.declared.node.Node.{Node}
use Rattle.qg_node.specs.Nodes.{own_items, used_bytes}
use Rattle.qg_super.specs.Places.{capacity}

-- no body of the node has more than 1024 bytes
abbrev pub HasShortBodies : Node → Type 0
HasShortBodies node = All (λ item. length item.body ≤ 1024) (own_items node)

-- the node fits in so many bytes
abbrev pub Fits : ℕ → Node → Type 0
Fits nodesize node = 101 + used_bytes node ≤ nodesize

-- the node has more than fits in so many bytes
abbrev pub IsOverfull : ℕ → Node → Type 0
IsOverfull nodesize node = nodesize < 101 + used_bytes node

-- the node is not a quarter full
abbrev pub IsThin : ℕ → Node → Type 0
IsThin nodesize node = 4 * used_bytes node < capacity nodesize

-- the node fits and is a quarter full at least, as one below a pointer must be
pub record IsFilled (nodesize : ℕ) (node : Node) : Type 0 where
  pub fits : Fits nodesize node
  pub full : capacity nodesize ≤ 4 * used_bytes node
