-- The failures of several parts, in their order.
use Rattle.std.proofs.Common.{◌≡◌, List, ◌∷◌, refl, sym, ◌∙◌, subst}
use Rattle.std.specs.Prelude.{Option, None, Result, Ok, Err, IfErr}
use Rattle.std.specs.Result.{IsErrAnd}
use Rattle.std.proofs.lemmas.Option.{IfSome_then}
use Rattle.qg_image.specs.declared.failure.Failure.{Failure}
use Rattle.qg_image.specs.Failure.{first_failure}
use Rattle.qg_walk.specs.declared.fault.OpenFault.{OpenFault}
use Rattle.qg_walk.specs.declared.fault.OpenFault.TheVariants as opening
use Rattle.qg_walk.specs.Fault.{TellsFailure, FailsAs, failure_of}

-- the failure of the first part is told
pub tells_first : (fault : OpenFault) (first : Option Failure) (rest : List (Option Failure)) → TellsFailure fault first
    → TellsFailure fault (first_failure (first ∷ rest))
tells_first fault first rest h = IfSome_then (failure_of fault) h (λ told is. rw is refl)

-- a part that has none is passed over
pub pass_first : (first : Option Failure) (rest : List (Option Failure)) → first ≡ None
    → first_failure (first ∷ rest) ≡ first_failure rest
pass_first first rest none = rw none refl

pub tells_same : (fault : OpenFault) {a b : Option Failure} → a ≡ b → TellsFailure fault b → TellsFailure fault a
tells_same fault same h = subst (TellsFailure fault) (sym same) h

-- a call that hands on a fault fails as it tells
pub fails_handed : {T : Type 0} (result : Result T OpenFault) (fault : OpenFault) (failure : Option Failure)
    → IsErrAnd result (λ given. given ≡ fault) → TellsFailure fault failure → FailsAs result failure
fails_handed (Ok value) fault failure is told = absurd is
fails_handed (Err given) fault failure is told = subst (λ (f : OpenFault). TellsFailure f failure) (sym is) told

pub fails_same : {T : Type 0} (result : Result T OpenFault) {a b : Option Failure} → a ≡ b → FailsAs result b
    → FailsAs result a
fails_same (Ok value) same h = same ∙ h
fails_same (Err fault) same h = tells_same fault same h

-- it tells what that fault tells
pub tells_handed : {T : Type 0} (result : Result T OpenFault) (fault : OpenFault) (failure : Option Failure)
    → IsErrAnd result (λ given. given ≡ fault)
    → TellsFailure fault failure → IfErr result (λ given. TellsFailure given failure)
tells_handed (Ok value) fault failure is told = tt
tells_handed (Err given) fault failure is told = subst (λ (f : OpenFault). TellsFailure f failure) (sym is) told

-- where no rule is broken a fault tells none
pub none_told : (fault : OpenFault) → TellsFailure fault None → failure_of fault ≡ None
none_told (opening.Broken rule address) told = absurd cc
none_told (opening.Differs group which stored counted) told = absurd cc
none_told opening.Disk told = refl
none_told opening.NoMemory told = refl

pub sound_handed : {T : Type 0} (result : Result T OpenFault) (fault : OpenFault)
    → IsErrAnd result (λ given. given ≡ fault) → failure_of fault ≡ None
    → IfErr result (λ given. failure_of given ≡ None)
sound_handed (Ok value) fault is none = tt
sound_handed (Err given) fault is none = subst (λ (f : OpenFault). failure_of f ≡ None) (sym is) none

none_tells : (fault : OpenFault) (failure : Option Failure) → failure_of fault ≡ None → TellsFailure fault failure
none_tells (opening.Broken rule address) failure none = absurd cc
none_tells (opening.Differs group which stored counted) failure none = absurd cc
none_tells opening.Disk failure none = tt
none_tells opening.NoMemory failure none = tt

-- where no rule is broken a call fails as that says, if its faults tell none
pub fails_kept : {T : Type 0} (result : Result T OpenFault) (failure : Option Failure) → failure ≡ None
    → IfErr result (λ given. failure_of given ≡ None)
    → FailsAs result failure
fails_kept (Ok value) failure none sound = none
fails_kept (Err given) failure none sound = none_tells given failure sound
