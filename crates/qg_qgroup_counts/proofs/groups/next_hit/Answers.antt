use Rattle.std.proofs.Common.{◌+◌, arith}
use Rattle.std.specs.Prelude.{◌==◌}
use Rattle.std.proofs.lemmas.Bool.{eq-eqb, ne_eqb}
use Rattle.qg_qgroup_counts.proofs.SetWeights.{given_is, given_not}
use Rattle.qg_qgroup_counts.proofs.groups.next_hit.Goals as goal

pub overflow_add-result : goal.overflow_add-result
overflow_add-result c =
    let seen = eq-eqb c.args.tally.seen (c.args.set + 1) (omega arith) in
    let is = given_is (c.args.tally.seen == c.args.set + 1) c.args.tally.hits seen in
    omega (arith, is, c.requires.few)

pub returns-then-tally-set : goal.returns-then-tally-set
returns-then-tally-set c =
    let seen = eq-eqb c.args.tally.seen (c.args.set + 1) (omega arith) in
    omega (arith, given_is (c.args.tally.seen == c.args.set + 1) c.args.tally.hits seen)

pub returns-else-tally-set : goal.returns-else-tally-set
returns-else-tally-set c =
    let other = ne_eqb c.args.tally.seen (c.args.set + 1) (λ wrong. omega (arith, wrong)) in
    omega (arith, given_not (c.args.tally.seen == c.args.set + 1) c.args.tally.hits other)
