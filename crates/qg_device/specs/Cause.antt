-- Why a call answers a fault (this project's own). Each object of the outside world counts its faults.
use Rattle.std.specs.Prelude.{◌≡◌, ◌⊎◌, ℕ, Result, OnOk, IfErr}
use Rattle.qg_device.specs.History.{one_more}

-- A call that ends so met this fault once where it ends for it, and never where it ends for anything else: the count
-- rises by one there, and stands still here
abbrev pub HasEndCause : {E : Type 0} → E → ℕ → ℕ → E → Type 0
HasEndCause fault before now end = ((end ≡ fault) × (now ≡ one_more before)) ⊎ ((end ≡ fault → ⊥) × (now ≡ before))

-- A fault is met once, and told: the count rises by one where the call answers this fault, and stands still where it
-- answers anything else
pub record HasCause {T E : Type 0} (fault : E) (before now : ℕ) (result : Result T E) : Type 0 where
  pub fine : OnOk result (now ≡ before)
  pub met : IfErr result (λ e. HasEndCause fault before now e)
