use Rattle.std.proofs.Common.{◌≡◌, ℕ, Bool, true, List, sym, ap, ◌∙◌, rules, arith}
use Rattle.std.specs.Prelude.{◌||◌, ◌==◌}
use Rattle.std.specs.List.{filter}
use Rattle.std.specs.BTreeMap.Range.{range_contains}
use Rattle.std.specs.declared.ops.Bound.TheVariants.{Included}
use Rattle.std.proofs.lemmas.Bool.Decides.{nat_tests}
use Rattle.qg_qgroups.specs.Groups.{pair_cmp}
use Rattle.qg_qgroups.proofs.Sets.{is_second, others_of}
use Rattle.qg_qgroups.proofs.pairs.first_other.Goals as goal

same_number : (n : ℕ) → (n == n) ≡ true
same_number n = grind (arith, nat_tests)

pub returns-in-Some : goal.returns-in-Some
returns-in-Some c =
    let row : c.range.result
    ≡ filter (range_contains pair_cmp (Included (c.args.of, 0)) (Included (c.args.of, 18446744073709551615)))
    c.args.pairs.now.keys = search rules in
    let other = c.in-Some.pair.now.1 in
    sym (others_of c.args.of other c.args.pairs.now.keys c.requires.fit)
    ∙ ap (λ (pairs : List (ℕ × ℕ)). is_second other pairs) (sym row ∙ c.in-Some.ensures.steps)
    ∙ ap (λ (b : Bool). b || is_second other c.next.new.self) (same_number other)

pub returns-in-None : goal.returns-in-None
returns-in-None c = λ other.
    let row : c.range.result
    ≡ filter (range_contains pair_cmp (Included (c.args.of, 0)) (Included (c.args.of, 18446744073709551615)))
    c.args.pairs.now.keys = search rules in
    sym (others_of c.args.of other c.args.pairs.now.keys c.requires.fit)
    ∙ ap (λ (pairs : List (ℕ × ℕ)). is_second other pairs) (sym row ∙ c.in-None.ensures.steps.0)
