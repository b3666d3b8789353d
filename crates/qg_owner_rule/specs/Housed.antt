-- Which nodes are known to be at home: for each node true or false (this project's own).
use Rattle.std.specs.Prelude.{◌≡◌, ℕ, ◌<◌, ◌↔◌, ◌⊎◌, ◌≢◌, true, false, Bool, List, Some, slice_get, slice_index_or}
use Rattle.std.specs.List.{All, Contains}
use Rattle.qg_owner_rule.specs.declared.linked.Linked.{Linked}
use Rattle.qg_owner_rule.specs.Leading.{IsReached, IsAtHome}

-- the node at an index is known to be at home
abbrev pub IsHoused : List Bool → ℕ → Type 0
IsHoused housed place = slice_index_or housed place false ≡ true

-- those are known to be at home that were so before, or that their owner reaches, which is one of these subvolumes
abbrev pub AreHousedToo : List Linked → List (ℕ × ℕ) → List Bool → List Bool → Type 0
AreHousedToo nodes group old new =
    (place : ℕ) (node : Linked) → slice_get nodes place ≡ Some node
    → IsHoused new place ↔ (IsHoused old place ⊎ IsReached nodes group node)

-- exactly those are known to be at home that are, where these are the subvolumes
abbrev pub AreHoused : List Linked → List (ℕ × ℕ) → List Bool → Type 0
AreHoused nodes subvolumes housed =
    (place : ℕ) (node : Linked) → slice_get nodes place ≡ Some node
    → IsHoused housed place ↔ IsAtHome nodes subvolumes node

-- each node that isn't known to be at home has another owner than these subvolumes
abbrev pub OwnNone : List Linked → List (ℕ × ℕ) → List Bool → Type 0
OwnNone nodes group housed =
    (place : ℕ) (node : Linked) → slice_get nodes place ≡ Some node
    → IsHoused housed place ⊎ All (λ root. root.0 ≢ node.owner) group

-- all are known to be at home
abbrev pub AreAllHoused : List Linked → List Bool → Type 0
AreAllHoused nodes housed = (place : ℕ) (node : Linked) → slice_get nodes place ≡ Some node → IsHoused housed place

-- at this address lies the first that isn't known to be at home
abbrev pub IsFirstHomeless : List Linked → List Bool → ℕ → Type 0
IsFirstHomeless nodes housed address =
    (place : ℕ) × (node : Linked) × (slice_get nodes place ≡ Some node) × (node.address ≡ address)
    × (IsHoused housed place → ⊥)
    × ((before : ℕ) → before < place → IsHoused housed before)

-- ---- known at once, for all subvolumes

-- a node is the root of its owner, which is one of these subvolumes
abbrev pub IsOwnRoot : List (ℕ × ℕ) → Linked → Type 0
IsOwnRoot subvolumes node = (root : ℕ × ℕ) × Contains subvolumes root × (root.0 ≡ node.owner) × (root.1 ≡ node.address)

-- each node that is marked is reached by its owner, which is one of these subvolumes
abbrev pub AreOwn : List Linked → List (ℕ × ℕ) → List Bool → Type 0
AreOwn nodes subvolumes own =
    (place : ℕ) (node : Linked) → slice_get nodes place ≡ Some node → IsHoused own place
    → IsReached nodes subvolumes node

-- so it is after a step if it was before, whichever these are
abbrev pub StayOwn : List Linked → List Bool → List Bool → Type 0
StayOwn nodes old new = (subvolumes : List (ℕ × ℕ)) → AreOwn nodes subvolumes old → AreOwn nodes subvolumes new

-- what is marked was so before, or is at one of these indices and has this owner
abbrev pub WereGiven : List Linked → List ℕ → ℕ → List Bool → List Bool → Type 0
WereGiven nodes places owner old new =
    (place : ℕ) (node : Linked) → slice_get nodes place ≡ Some node → IsHoused new place
    → IsHoused old place ⊎ (Contains places place × (node.owner ≡ owner))

-- those are known to be at home that were so before, and those that are marked
abbrev pub HaveThose : List Bool → List Bool → List Bool → Type 0
HaveThose own old new = (place : ℕ) → IsHoused new place ↔ (IsHoused old place ⊎ IsHoused own place)

-- those that were known to be at home are so still, and others that their owner reaches, one of these subvolumes
abbrev pub AreHousedSoundly : List Linked → List (ℕ × ℕ) → List Bool → List Bool → Type 0
AreHousedSoundly nodes subvolumes old new =
    (place : ℕ) (node : Linked) → slice_get nodes place ≡ Some node
    → (IsHoused old place → IsHoused new place)
    × (IsHoused new place → IsHoused old place ⊎ IsReached nodes subvolumes node)

-- those are known to be at home that are by some of the subvolumes, and no node that isn't by all
abbrev pub AreHousedAmong : List Linked → List (ℕ × ℕ) → List (ℕ × ℕ) → List Bool → Type 0
AreHousedAmong nodes all taken housed =
    (place : ℕ) (node : Linked) → slice_get nodes place ≡ Some node
    → (IsHoused housed place → IsAtHome nodes all node) × (IsAtHome nodes taken node → IsHoused housed place)
