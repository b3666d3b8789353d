-- One counter, moved by whether bytes were counted in it and whether they are.
use Rattle.std.proofs.Common.{◌≡◌, ℕ, ◌+◌, ◌-◌, ◌<◌, ◌≤◌, ◌^◌, Bool, true, false, Option, Some, None, refl, sym}
use Rattle.std.proofs.Common.{◌∙◌, arith}
use Rattle.std.specs.Prelude.{SomeIff}
use Rattle.std.proofs.lemmas.Bool.{true≢false}
use Rattle.qg_qgroup_counts.proofs.SetWeights.{given_is, given_not}
use Rattle.qg_account.specs.Moves.{CanShift, shifted}

pub shift-gains : (was is : Bool) (bytes counter : ℕ) (made : Option ℕ) → was ≡ false → is ≡ true
    → SomeIff made (counter + bytes < 2 ^ 64) (counter + bytes)
    → SomeIff made (CanShift was is bytes counter) (shifted was is bytes counter)
shift-gains was is bytes counter None not' so told = λ can. told (can.fits not' so)
shift-gains was is bytes counter (Some sum) not' so told = (
  record {
    has = λ wrong _. absurd (true≢false (sym wrong ∙ not'));
    fits = λ _ _. told.0;
  },
  let gone = given_not was bytes not' in
      let there = given_is is bytes so in
      let sum-is = told.1 in
      omega (arith, gone, there, sum-is),
)

pub shift-loses : (was is : Bool) (bytes counter : ℕ) (made : Option ℕ) → was ≡ true → is ≡ false
    → SomeIff made (bytes ≤ counter) (counter - bytes)
    → SomeIff made (CanShift was is bytes counter) (shifted was is bytes counter)
shift-loses was is bytes counter None so not' told = λ can. told (can.has so not')
shift-loses was is bytes counter (Some rest) so not' told = (
  record {
    has = λ _ _. told.0;
    fits = λ wrong _. absurd (true≢false (sym so ∙ wrong));
  },
  let there = given_is was bytes so in
      let gone = given_not is bytes not' in
      let rest-is = told.1 in
      omega (arith, gone, there, rest-is),
)

-- two shifts alike are one of the bytes of both
pub shift-twice : (was is : Bool) (bytes more counter : ℕ)
    → shifted was is more (shifted was is bytes counter) ≡ shifted was is (bytes + more) counter
shift-twice true true bytes more counter =
    omega (arith, given_is true bytes refl, given_is true more refl, given_is true (bytes + more) refl)
shift-twice false false bytes more counter =
    omega (arith, given_not false bytes refl, given_not false more refl, given_not false (bytes + more) refl)
shift-twice true false bytes more counter =
    omega (
      arith,
      given_is true bytes refl,
      given_is true more refl,
      given_is true (bytes + more) refl,
      given_not false bytes refl,
      given_not false more refl,
      given_not false (bytes + more) refl,
    )
shift-twice false true bytes more counter =
    omega (
      arith,
      given_is true bytes refl,
      given_is true more refl,
      given_is true (bytes + more) refl,
      given_not false bytes refl,
      given_not false more refl,
      given_not false (bytes + more) refl,
    )
