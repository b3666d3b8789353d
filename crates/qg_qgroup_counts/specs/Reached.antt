-- Which subvolumes reach each node (this project's own).
use Rattle.std.specs.Prelude.{◌≡◌, ◌<◌, ◌≤◌, ◌+◌, ◌↔◌, ℕ, List, Some, length, slice_get, slice_index}
use Rattle.std.specs.List.{All}
use Rattle.qg_owner_rule.specs.declared.linked.Linked.{Linked}
use Rattle.qg_qgroup_counts.specs.declared.level.Ways.{Ways}
use Rattle.qg_qgroup_counts.specs.declared.reached.Reached.{Reached}
use Rattle.qg_qgroup_counts.specs.Sets.{HasMember, row_of}
use Rattle.qg_qgroup_counts.specs.Above.{AreAbove}
use Rattle.qg_qgroup_counts.specs.Roots.{IsReachedFrom, AreRoots}

-- the set of the node at an index has a member
abbrev pub HasInSet : Reached → ℕ → ℕ → Type 0
HasInSet reached place subvolume =
    HasMember (row_of reached.sets.rows.items (slice_index reached.numbers.items place)) subvolume

-- of each node at an index the set has exactly the subvolumes that reach it
pub record TellsReach (nodes : List Linked) (roots : List (ℕ × ℕ)) (reached : Reached) : Type 0 where
  pub same : length reached.numbers.items ≡ length nodes
  pub inside : All (λ set. set < length reached.sets.rows.items) reached.numbers.items
  pub tells : (place subvolume : ℕ) (node : Linked) → slice_get nodes place ≡ Some node
      → HasInSet reached place subvolume ↔ IsReachedFrom nodes roots subvolume node

-- ---- on the way there

-- these are the ways to some nodes
pub record AreWays (nodes : List Linked) (roots : List (ℕ × ℕ)) (ways : Ways) : Type 0 where
  pub above : AreAbove nodes ways.above.items
  pub same : length ways.own.items ≡ length nodes
  pub own : AreRoots nodes roots ways.own.items

-- there is a set's number for each node, and each number is a set's
pub record IsSized (nodes : List Linked) (ways : Ways) (reached : Reached) : Type 0 where
  pub above : AreAbove nodes ways.above.items
  pub own : length ways.own.items ≡ length nodes
  pub same : length reached.numbers.items ≡ length nodes
  pub inside : All (λ set. set < length reached.sets.rows.items) reached.numbers.items

-- the sets of nodes from a level on have exactly the subvolumes that reach them
abbrev pub AreSettledFrom : List Linked → List (ℕ × ℕ) → ℕ → Reached → Type 0
AreSettledFrom nodes roots level reached =
    (place subvolume : ℕ) (node : Linked) → slice_get nodes place ≡ Some node → level ≤ node.level
    → HasInSet reached place subvolume ↔ IsReachedFrom nodes roots subvolume node

-- so it is from a level on if it was from the next one on
abbrev pub SettlesLevel : List Linked → Ways → ℕ → Reached → Reached → Type 0
SettlesLevel nodes ways level old new =
    (roots : List (ℕ × ℕ)) → AreWays nodes roots ways
    → AreSettledFrom nodes roots (level + 1) old → AreSettledFrom nodes roots level new
