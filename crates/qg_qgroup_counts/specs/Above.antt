-- For each node the indices of those that point to it (this project's own).
use Rattle.std.specs.Prelude.{◌≡◌, ◌↔◌, ◌⊎◌, ℕ, List, [], Some, length, slice_get, slice_index_or}
use Rattle.std.specs.List.{Contains}
use Rattle.qg_owner_rule.specs.declared.linked.Linked.{Linked}
use Rattle.qg_owner_rule.specs.Leading.{PointsTo}

-- the list at an index
abbrev pub list_at : List (List ℕ) → ℕ → List ℕ
list_at lists place = slice_index_or lists place []

-- all lists are empty
abbrev pub AreEmpty : List (List ℕ) → Type 0
AreEmpty lists = (place : ℕ) → list_at lists place ≡ []

-- the lists at some indices have one number more, and no other list is changed but by that
abbrev pub HaveOneMore : List ℕ → ℕ → List (List ℕ) → List (List ℕ) → Type 0
HaveOneMore places number old new =
    (place n : ℕ) → Contains (list_at new place) n
    ↔ (Contains (list_at old place) n ⊎ (Contains places place × (number ≡ n)))

-- an index is in the list at another exactly where that is in its own
abbrev pub AreTurned : List (List ℕ) → List (List ℕ) → Type 0
AreTurned below above =
    (place n : ℕ) → Contains (list_at above place) n ↔ Contains (list_at below n) place

-- for each node the indices of those that point to it
pub record AreAbove (nodes : List Linked) (above : List (List ℕ)) : Type 0 where
  pub same : length above ≡ length nodes
  pub into : (place : ℕ) (child : Linked) (i : ℕ) → slice_get nodes place ≡ Some child
      → Contains (list_at above place) i
      → (parent : Linked) × (slice_get nodes i ≡ Some parent) × PointsTo parent child
  pub all : (place : ℕ) (child : Linked) (i : ℕ) (parent : Linked)
      → slice_get nodes place ≡ Some child → slice_get nodes i ≡ Some parent → PointsTo parent child
      → Contains (list_at above place) i
