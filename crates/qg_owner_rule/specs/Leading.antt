-- Which nodes a subvolume reaches, by the pointers between nodes (this project's own). Addresses are in bytes.
use Rattle.std.specs.Prelude.{◌≡◌, ℕ, ◌+◌, true, List, ◌⊎◌}
use Rattle.std.specs.List.{Contains}
use Rattle.qg_owner_rule.specs.declared.linked.Linked.{Linked}

-- a node points to another one, which is a level lower
pub record PointsTo (parent child : Linked) : Type 0 where
  pub named : Contains parent.children child.address
  pub lower : parent.level ≡ child.level + 1

-- from the node at an address pointers lead to a node
pub data Leads (nodes : List Linked) (start : ℕ) : Linked → Type 0 where
  Here : (node : Linked) → Contains nodes node → node.address ≡ start → Leads nodes start node
  Down : (parent child : Linked)
      → Leads nodes start parent → Contains nodes child → PointsTo parent child → Leads nodes start child

-- a node is reached by its owner, which is one of these subvolumes
abbrev pub IsReached : List Linked → List (ℕ × ℕ) → Linked → Type 0
IsReached nodes subvolumes node =
    (root : ℕ × ℕ) × Contains subvolumes root × (root.0 ≡ node.owner) × Leads nodes root.1 node

-- a node is full, or is reached by its owner
abbrev pub IsAtHome : List Linked → List (ℕ × ℕ) → Linked → Type 0
IsAtHome nodes subvolumes node = (node.full ≡ true) ⊎ IsReached nodes subvolumes node
