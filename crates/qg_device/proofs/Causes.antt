-- Why a call answers a fault whose work is done by other calls.
use Rattle.std.proofs.Common.{◌≡◌, ℕ, inl, inr, Result, Ok, Err, sym, ap, subst}
use Rattle.std.specs.Prelude.{IsErrOf}
use Rattle.qg_device.specs.History.{one_more}
use Rattle.qg_device.specs.Cause.{HasCause, HasEndCause}

-- ---- what a call with a cause did to the count

-- it met the fault that it answers
pub cause-rose : {T E : Type 0} {fault : E} (before now : ℕ) (result : Result T E) → IsErrOf result fault
    → HasCause fault before now result → now ≡ one_more before
cause-rose {T} {E} {fault} before now (Ok x) is cause = absurd cc
cause-rose {T} {E} {fault} before now (Err error) is cause = elim cause.met [
  | inl met ↦ met.1
  | inr none ↦
      let that : ◌≡◌ {A = Result T E} (Err error) (Err fault) = is in
      let same : error ≡ fault = cc in
      absurd (none.0 same)
]

-- and none where it answers something else
pub cause-still : {T E : Type 0} {fault : E} (before now : ℕ) (result : Result T E) → (IsErrOf result fault → ⊥)
    → HasCause fault before now result → now ≡ before
cause-still {T} {E} {fault} before now (Ok x) other cause = cause.fine
cause-still {T} {E} {fault} before now (Err error) other cause = elim cause.met [
  | inl met ↦ absurd (other (ap (λ (e : E). Err e) met.0))
  | inr none ↦ none.1
]

-- ---- a cause is handed on

-- what a later call answers, after calls that met no fault
pub cause-last : {T E : Type 0} {fault : E} (before mid now : ℕ) (result : Result T E) → mid ≡ before
    → HasCause fault mid now result → HasCause fault before now result
cause-last {T} {E} {fault} before mid now result same cause =
    subst (λ (count : ℕ). HasCause {T = T} fault count now result) same cause

-- an error that a later call answers
pub cause-handed : (A B : Type 0) {E : Type 0} {fault : E} (before mid now : ℕ) (error : E) → mid ≡ before
    → HasCause {T = A} fault mid now (Err error) → HasCause {T = B} fault before now (Err error)
cause-handed A B {E} {fault} before mid now error same cause =
    cause-last {T = B} {fault = fault} before mid now (Err error) same (record { fine = tt; met = cause.met })

-- and where what is answered is only known to be it
pub cause-told : {A B E : Type 0} {fault : E} (before mid now : ℕ) (result : Result B E) (error : E) → mid ≡ before
    → result ≡ Err error → HasCause {T = A} fault mid now (Err error) → HasCause fault before now result
cause-told {A} {B} {E} {fault} before mid now result error same is cause =
    subst (λ (r : Result B E). HasCause {T = B} fault before now r) (sym is)
    (cause-handed A B {fault = fault} before mid now error same cause)

-- an answer that is not this fault, after calls that met none
pub cause-other : {T E : Type 0} {fault : E} (before now : ℕ) (result : Result T E) → now ≡ before
    → (IsErrOf result fault → ⊥) → HasCause fault before now result
cause-other {T} {E} {fault} before now (Ok x) same other = record { fine = same; met = tt }
cause-other {T} {E} {fault} before now (Err error) same other = record {
  fine = tt;
  met = inr ((λ is. other (ap (λ (e : E). Err e) is)), same);
}

-- an error that is not this fault, of a call that reads none of it
pub cause-none : (A B : Type 0) {E : Type 0} {fault : E} (before now : ℕ) (error : E) → now ≡ before
    → (IsErrOf {T = A} (Err error) fault → ⊥) → HasCause {T = B} fault before now (Err error)
cause-none A B {E} {fault} before now error same other = record {
  fine = tt;
  met = inr ((λ is. other (ap (λ (e : E). Err e) is)), same);
}

-- an error that is handed on as another, which is this fault exactly where that one was the other's
pub cause-mapped : (A B : Type 0) {D E : Type 0} {low : D} {fault : E} (before mid now : ℕ) (inner : D) (outer : E)
    → mid ≡ before → (inner ≡ low → outer ≡ fault) → (outer ≡ fault → inner ≡ low)
    → HasCause {T = A} low mid now (Err inner) → HasCause {T = B} fault before now (Err outer)
cause-mapped A B {D} {E} {low} {fault} before mid now inner outer same there back cause =
    cause-last {T = B} {fault = fault} before mid now (Err outer) same (record {
      fine = tt;
      met = elim cause.met [
        | inl met ↦ inl (there met.0, met.1)
        | inr none ↦ inr ((λ is. none.0 (back is)), none.1)
      ];
    })

-- ---- a call that answers how it ends

-- it met the fault that it ends for
pub end-rose : {E : Type 0} (fault : E) (before now : ℕ) (end : E) → end ≡ fault → HasEndCause fault before now end
    → now ≡ one_more before
end-rose fault before now end is cause = elim cause [
  | inl met ↦ met.1
  | inr none ↦ absurd (none.0 is)
]

-- it ends for what a later call answers, after calls that met no fault
pub end-last : {E : Type 0} (fault : E) (before mid now : ℕ) (end : E) → mid ≡ before
    → HasEndCause fault mid now end → HasEndCause fault before now end
end-last fault before mid now end same cause =
    subst (λ (count : ℕ). HasEndCause fault count now end) same cause

-- it ends for this fault exactly where a call answers that one
pub end-by : {T D E : Type 0} (fault : E) {low : D} (before now : ℕ) (error : D) (end : E)
    → (error ≡ low → end ≡ fault) → (end ≡ fault → error ≡ low)
    → HasCause {T = T} low before now (Err error) → HasEndCause fault before now end
end-by fault before now error end there back cause = elim cause.met [
  | inl met ↦ inl (there met.0, met.1)
  | inr none ↦ inr ((λ is. none.0 (back is)), none.1)
]

-- it ends for another reason, and met none
pub end-other : {E : Type 0} (fault : E) (before now : ℕ) (end : E) → now ≡ before → (end ≡ fault → ⊥)
    → HasEndCause fault before now end
end-other fault before now end same other = inr (other, same)
