use Rattle.std.proofs.Common.{◌≡◌, ◌<◌, ◌^◌, ◌++◌, ℕ, List, [], take, drop, subst, sym, ap, ◌∙◌, arith, length, All}
use Rattle.std.proofs.Common.{length-set}
use Rattle.std.proofs.lemmas.Bool.{eqb-false, eqb-true}
use Rattle.std.specs.List.{flat_map}
use Rattle.std.proofs.lemmas.List.{append-nil, take_all, drop_all, take_more_set, nil_from_length}
use Rattle.std.proofs.lemmas.List.Elements.{All-push, All-same}
use Rattle.qg_grammar.specs.ScriptText.{then_number}
use Rattle.qg_script.proofs.Parting.{if_none, begins_with, behind_first, one_more}
use Rattle.qg_script.proofs.numbers.numbers.Goals as goal

pub returns-in_err-number-clause-none : goal.returns-in_err-number-clause-none
returns-in_err-number-clause-none g c = if_none c.from_residual.result (λ numbers are.
    let within : c.loop-place.place < length numbers = omega (arith, are.as_many) in
    c.in_err-number.ensures.none _ _
    (begins_with numbers c.loop-place.place within are.fit (c.loop-place.invariant.only numbers are)))

pub loop-place-preserved : goal.loop-place-preserved
loop-place-preserved g c =
    let place = c.loop-place.place in
    let so_far = c.loop-place.invariant in
    let next = c.in_ok-number.ensures.found in
    let within : place < length c.loop-place.numbers = omega (arith, so_far.as_many) in
    record {
      as_many = length-set c.loop-place.numbers place c.in_ok-number.number ∙ so_far.as_many;
      read = one_more c.loop-place.numbers place within so_far.read next;
      fit =
          All-same (λ n. n < 2 ^ 64) _ _ (take_more_set c.loop-place.numbers place c.in_ok-number.number within)
          (All-push (λ n. n < 2 ^ 64) (take place c.loop-place.numbers) c.in_ok-number.number so_far.fit next.fits);
      only = λ numbers are. behind_first numbers place (omega (arith, are.as_many)) are.fit
          (so_far.only numbers are) next;
    }

pub returns-then-is_empty-clause-found : goal.returns-then-is_empty-clause-found
returns-then-is_empty-clause-found g c =
    let all : take c.loop-place.place c.loop-place.numbers ≡ c.loop-place.numbers =
    take_all c.loop-place.place c.loop-place.numbers (omega (arith, c.loop-place.invariant.as_many)) in
    let empty : c.loop-place.rest.now ≡ [] =
    nil_from_length c.loop-place.rest.now (eqb-true (length c.loop-place.rest.now) 0 (sym c.is_empty.ensures
    ∙ c.if-is_empty.true)) in
    record {
      whole =
          c.loop-place.invariant.read
          ∙ ap (λ (xs : List ℕ). flat_map then_number (take c.loop-place.place c.loop-place.numbers) ++ xs) empty
          ∙ append-nil _
          ∙ ap (flat_map then_number) all;
      fit = subst (All (λ n. n < 2 ^ 64)) all c.loop-place.invariant.fit;
      as_many = c.loop-place.invariant.as_many;
    }

pub returns-else-is_empty-clause-none : goal.returns-else-is_empty-clause-none
returns-else-is_empty-clause-none g c numbers are =
    let none : drop c.loop-place.place numbers ≡ [] =
    drop_all c.loop-place.place numbers (omega (arith, are.as_many)) in
    let empty : c.loop-place.rest.now ≡ [] = c.loop-place.invariant.only numbers are ∙ ap (flat_map then_number) none in
    eqb-false (length c.loop-place.rest.now) 0 (sym c.is_empty.ensures ∙ c.if-is_empty.false) (ap length empty)
