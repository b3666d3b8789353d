-- Which nodes the roots of subvolumes lead to (this project's own). Addresses are in bytes.
use Rattle.std.specs.Prelude.{◌≡◌, ◌↔◌, ℕ, List, Some, slice_get}
use Rattle.qg_owner_rule.specs.declared.linked.Linked.{Linked}
use Rattle.qg_owner_rule.specs.Leading.{Leads}
use Rattle.qg_qgroup_counts.specs.Sets.{HasMember}
use Rattle.qg_qgroup_counts.specs.Above.{list_at}

-- pointers lead to a node from the root at an index
abbrev pub IsReachedFrom : List Linked → List (ℕ × ℕ) → ℕ → Linked → Type 0
IsReachedFrom nodes roots subvolume node =
    (root : ℕ × ℕ) × (slice_get roots subvolume ≡ Some root) × Leads nodes root.1 node

-- a node is the root at an index
abbrev pub IsRootAt : List (ℕ × ℕ) → ℕ → Linked → Type 0
IsRootAt roots subvolume node = (root : ℕ × ℕ) × (slice_get roots subvolume ≡ Some root) × (root.1 ≡ node.address)

-- for each node the words of those subvolumes whose root it is
abbrev pub AreRoots : List Linked → List (ℕ × ℕ) → List (List ℕ) → Type 0
AreRoots nodes roots rows =
    (place subvolume : ℕ) (node : Linked) → slice_get nodes place ≡ Some node
    → HasMember (list_at rows place) subvolume ↔ IsRootAt roots subvolume node
