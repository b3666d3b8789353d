-- Quota that is tracked, and holds nothing.
use Rattle.std.proofs.Common.{ℕ, [], Option, Some, None, arith}
use Rattle.std.specs.Prelude.{IfSome}
use Rattle.qg_qgroups.specs.declared.state.QuotaState.{QuotaState}
use Rattle.qg_qgroups.specs.Tracked.{HoldsAll, HoldsAtMost, IsTracked}
use Rattle.qg_qgroups.proofs.Reserved.{bound-more, holds-least}

-- what is tracked, and holds nothing, is tracked
pub settled-tracked : (quota : Option QuotaState) → IfSome quota (λ state. IsTracked state × HoldsAll state [])
    → IfSome quota IsTracked
settled-tracked None settled = tt
settled-tracked (Some state) settled = settled.0

-- it holds nothing
pub settled-holds : (quota : Option QuotaState) → IfSome quota (λ state. IsTracked state × HoldsAll state [])
    → IfSome quota (λ state. HoldsAll state [])
settled-holds None settled = tt
settled-holds (Some state) settled = settled.1

-- so no more than any bound
pub settled-bounded : (bound : ℕ) (quota : Option QuotaState)
    → IfSome quota (λ state. IsTracked state × HoldsAll state []) → IfSome quota (HoldsAtMost bound)
settled-bounded bound None settled = tt
settled-bounded bound (Some state) settled = bound-more state 0 bound (omega arith) (holds-least state settled.1)
