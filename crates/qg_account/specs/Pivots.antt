-- By which owners the groups are found that a change of owners can move (this project's own).
use Rattle.std.specs.Prelude.{◌≡◌, ◌≤◌, ◌⊎◌, ℕ, true, List, length, take}
use Rattle.qg_qgroups.specs.Groups.{has_number}
use Rattle.qg_account.specs.declared.pivots.Walk.{Walk}

-- one of these was an owner before and is one now
pub record HasOneThatStays (before now subs : List ℕ) : Type 0 where
  pub sub : ℕ
  pub there : has_number sub subs ≡ true
  pub was : has_number sub before ≡ true
  pub is : has_number sub now ≡ true

-- a subvolume is among these; or it is one of the others' owners, and one of these stays
abbrev pub IsTold : List ℕ → List ℕ → List ℕ → List ℕ → ℕ → Type 0
IsTold before now subs others sub =
    (has_number sub subs ≡ true) ⊎ ((has_number sub others ≡ true) × HasOneThatStays before now subs)

-- each owner that went or came is among these, and where one stays, so is one that does
pub record ArePivots (before now subs : List ℕ) : Type 0 where
  pub olds : (sub : ℕ) → has_number sub before ≡ true → IsTold before now subs now sub
  pub news : (sub : ℕ) → has_number sub now ≡ true → IsTold before now subs before sub

-- ---- on the way there

-- so it is of the first owners before, and of the first owners now
pub record AreFirstPivots (before now : List ℕ) (walk : Walk) (subs : List ℕ) : Type 0 where
  pub old : walk.old ≤ length before
  pub new : walk.new ≤ length now
  pub stays : walk.stays ≡ true → HasOneThatStays before now subs
  pub olds : (sub : ℕ) → has_number sub (take walk.old before) ≡ true → IsTold before now subs now sub
  pub news : (sub : ℕ) → has_number sub (take walk.new now) ≡ true → IsTold before now subs before sub
