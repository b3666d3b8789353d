-- Marks on nodes: for each node a row of 64 bits, one for each of at most 64 subvolumes (this project's own).
use Rattle.std.specs.Prelude.{◌≡◌, ℕ, ◌↔◌, ◌⊎◌, List, [], Some, length, slice_get, slice_index, slice_index_or}
use Rattle.std.specs.Int.{bit_at}
use Rattle.std.specs.List.{Contains}
use Rattle.qg_owner_rule.specs.declared.linked.Linked.{Linked}
use Rattle.qg_owner_rule.specs.Leading.{PointsTo, Leads}
use Rattle.qg_owner_rule.specs.Places.{ArePlacesBelow}

-- the row at an index has a mark
abbrev pub HasMark : List ℕ → ℕ → ℕ → Type 0
HasMark rows place bit = bit_at (slice_index rows place) bit ≡ 1

-- for each node the indices of those that it points to
pub record AreBelow (nodes : List Linked) (below : List (List ℕ)) : Type 0 where
  pub same : length below ≡ length nodes
  pub each : (i : ℕ) (parent : Linked)
      → slice_get nodes i ≡ Some parent → ArePlacesBelow nodes parent (slice_index_or below i [])

-- the rows at some indices have these marks too, and no other mark is new
abbrev pub HaveAlso : List ℕ → ℕ → List ℕ → List ℕ → Type 0
HaveAlso places marks old new =
    (place bit : ℕ) → HasMark new place bit ↔ (HasMark old place bit ⊎ (Contains places place × (bit_at marks bit ≡ 1)))

-- among some nodes one of a level points to this one, and has a mark
abbrev pub IsMarkedAbove : List Linked → ℕ → List ℕ → Linked → ℕ → Type 0
IsMarkedAbove above level rows child bit =
    (i : ℕ) × (parent : Linked) × (slice_get above i ≡ Some parent) × (parent.level ≡ level)
    × PointsTo parent child × HasMark rows i bit

-- marks went from some nodes, those of a level, to all that they point to, and nowhere else
abbrev pub AreSpread : List Linked → List Linked → ℕ → List ℕ → List ℕ → Type 0
AreSpread above nodes level old new =
    (place bit : ℕ) (node : Linked) → slice_get nodes place ≡ Some node
    → HasMark new place bit ↔ (HasMark old place bit ⊎ IsMarkedAbove above level old node bit)

-- pointers lead to a node from one that has a mark
abbrev pub IsLedTo : List Linked → List ℕ → Linked → ℕ → Type 0
IsLedTo nodes rows node bit =
    (i : ℕ) × (start : Linked) × (slice_get nodes i ≡ Some start) × HasMark rows i bit
    × Leads nodes start.address node

-- marks went to all that pointers lead to, and nowhere else
abbrev pub HaveGone : List Linked → List ℕ → List ℕ → Type 0
HaveGone nodes old new =
    (place bit : ℕ) (node : Linked) → slice_get nodes place ≡ Some node
    → HasMark new place bit ↔ IsLedTo nodes old node bit

-- each node has the marks of those subvolumes whose root it is
abbrev pub AreOfRoots : List Linked → List (ℕ × ℕ) → List ℕ → Type 0
AreOfRoots nodes group rows =
    (place bit : ℕ) (node : Linked) → slice_get nodes place ≡ Some node
    → HasMark rows place bit ↔ ((root : ℕ × ℕ) × (slice_get group bit ≡ Some root) × (root.1 ≡ node.address))

-- each node has the marks of those subvolumes that reach it
abbrev pub AreOfReach : List Linked → List (ℕ × ℕ) → List ℕ → Type 0
AreOfReach nodes group rows =
    (place bit : ℕ) (node : Linked) → slice_get nodes place ≡ Some node
    → HasMark rows place bit ↔ ((root : ℕ × ℕ) × (slice_get group bit ≡ Some root) × Leads nodes root.1 node)

-- among marks is that of a node's owner
abbrev pub HasOwnersMark : List (ℕ × ℕ) → ℕ → Linked → Type 0
HasOwnersMark group marks node =
    (bit : ℕ) × (root : ℕ × ℕ) × (slice_get group bit ≡ Some root) × (root.0 ≡ node.owner) × (bit_at marks bit ≡ 1)
