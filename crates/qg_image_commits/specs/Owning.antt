-- The subvolumes that reach what begins at an address, by what was surveyed (this project's own). Addresses are in
-- bytes.
use Rattle.std.specs.Prelude.{◌≡◌, ◌↔◌, ◌||◌, ◌==◌, ℕ, Bool, List, IsTrue, Some, slice_get, slice_index}
use Rattle.std.specs.List.{Contains, list_any}
use Rattle.std.specs.List.Sorted.{IsStrictlyIncreasing}
use Rattle.qg_image.specs.Table.{keys_of}
use Rattle.qg_qgroup_counts.specs.declared.reached.Reached.{Reached}
use Rattle.qg_owner_rule.specs.Leading.{Leads}
use Rattle.qg_qgroup_counts.specs.declared.surveyed.Surveyed.{Surveyed}
use Rattle.qg_qgroup_counts.specs.Surveyed.{links_in}

-- a node lies at an address, or names an extent that begins there
abbrev pub has_at : ℕ → Surveyed → Bool
has_at address node =
    (node.linked.address == address) || list_any (λ extent. extent == address) node.extents

-- the sets are those of the nodes that lie at an address or name an extent that begins there
abbrev pub AreSetsAt : Reached → List Surveyed → ℕ → List ℕ → Type 0
AreSetsAt reached nodes address sets = (set : ℕ) → Contains sets set
    ↔ ((place : ℕ) × (node : Surveyed) × (slice_get nodes place ≡ Some node) × IsTrue (has_at address node)
    × (slice_index reached.numbers.items place ≡ set))

-- the number of the root at a place
abbrev pub number_at : List (ℕ × ℕ) → ℕ → ℕ
number_at roots place = slice_index (keys_of roots) place

-- pointers lead from a root to a node that lies at an address or names an extent that begins there
pub record LeadsTo (nodes : List Surveyed) (root : ℕ × ℕ) (address : ℕ) : Type 0 where
  pub node : Surveyed
  pub among : Contains nodes node
  pub has : IsTrue (has_at address node)
  pub leads : Leads (links_in nodes) root.1 node.linked

-- the numbers ascend, and are those of the roots that lead to what begins at an address
pub record AreOwners (roots : List (ℕ × ℕ)) (nodes : List Surveyed) (address : ℕ) (owners : List ℕ) : Type 0 where
  pub ascending : IsStrictlyIncreasing (keys_of roots) → IsStrictlyIncreasing owners
  pub told : (number : ℕ) → Contains owners number
      ↔ ((root : ℕ × ℕ) × Contains roots root × (root.0 ≡ number) × LeadsTo nodes root address)
