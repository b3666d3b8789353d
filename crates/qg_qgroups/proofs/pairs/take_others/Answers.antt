use Rattle.std.proofs.Common.{◌≡◌, ℕ, ◌+◌, ◌<◌, Bool, true, List, sym, ap, ◌∙◌, arith}
use Rattle.std.specs.Prelude.{◌==◌, ◌&&◌, not, if◌then◌else◌}
use Rattle.std.specs.List.{filter}
use Rattle.std.proofs.lemmas.Bool.{cond-true}
use Rattle.qg_machine.specs.GroupChange.{has_pair, same_pair}
use Rattle.qg_qgroups.proofs.Lists.{filter_again, filter_all}
use Rattle.qg_qgroups.proofs.Related.{none_of, other_pairs, turned_pair}
use Rattle.qg_qgroups.proofs.pairs.take_others.Goals as goal

pub loop-other-smaller : goal.loop-other-smaller
loop-other-smaller c = fewer c.take_pair.ensures.fewer c.in-Some.ensures where
  fewer : {new old : ℕ} {b : Bool} → new + (if b then 1 else 0) ≡ old → b ≡ true → new < old
  fewer {new} {old} {b} e h = omega (arith, e, cond-true {A = ℕ} b 1 0 h)

pub loop-other-preserved : goal.loop-other-preserved
loop-other-preserved c =
    let of = c.args.of in
    let other = c.in-Some.other in
    let first = c.take_pair.ensures in
    let second = c.take_pair-in-Some.ensures in
    let old = c.loop-other.invariant in
    record {
      left = ap (λ (pairs : List (ℕ × ℕ)). filter (λ pair. not (pair.0 == of)) pairs) first.left
          ∙ filter_again (λ (pair : ℕ × ℕ). not (pair.0 == of)) (λ (pair : ℕ × ℕ). not (same_pair pair (of, other)))
          (λ pair apart. other_pairs of other pair apart) c.loop-other.pairs.keys
          ∙ old.left;
      same = λ a b.
          second.has b a
          ∙ ap (λ (here : Bool). not here && has_pair b a c.loop-other.turned.keys) (turned_pair a b of other)
          ∙ ap (λ (had : Bool). not (same_pair (a, b) (of, other)) && had) (old.same a b)
          ∙ sym (first.has a b);
      ordered = first.ordered;
      turned_ordered = second.ordered;
      fit = first.fit;
      turned_fit = second.fit;
    }

pub returns-clause-left : goal.returns-clause-left
returns-clause-left c =
    sym (filter_all (λ (pair : ℕ × ℕ). not (pair.0 == c.args.of)) c.loop-other.pairs.keys
    (none_of c.args.of c.loop-other.pairs.keys c.in_default.ensures)) ∙ c.loop-other.invariant.left
