-- Where one of some that ascend by number stands, by its index (this project's own).
use Rattle.std.specs.Prelude.{◌≡◌, ℕ, ◌+◌, ◌≢◌, List, Some, slice_get}
use Rattle.std.specs.List.{All, Contains}
use Rattle.qg_owner_rule.specs.declared.linked.Linked.{Linked}
use Rattle.qg_owner_rule.specs.Leading.{PointsTo}

-- the one at an index has this number
abbrev pub StandsAt : {X : Type 0} → (X → ℕ) → List X → ℕ → ℕ → Type 0
StandsAt {X} number xs n place = (x : X) × (slice_get xs place ≡ Some x) × (number x ≡ n)

-- none has this number
abbrev pub AreOthers : {X : Type 0} → (X → ℕ) → List X → ℕ → Type 0
AreOthers number xs n = All (λ x. number x ≢ n) xs

-- a node that lies at an address is one level below another
abbrev pub IsUnder : Linked → ℕ → Linked → Type 0
IsUnder parent address node = (node.address ≡ address) × (parent.level ≡ node.level + 1)

-- the indices of those nodes that a node points to
pub record ArePlacesBelow (nodes : List Linked) (parent : Linked) (places : List ℕ) : Type 0 where
  pub into : (place : ℕ) → Contains places place
      → (child : Linked) × (slice_get nodes place ≡ Some child) × PointsTo parent child
  pub all : (place : ℕ) (child : Linked)
      → slice_get nodes place ≡ Some child → PointsTo parent child → Contains places place
