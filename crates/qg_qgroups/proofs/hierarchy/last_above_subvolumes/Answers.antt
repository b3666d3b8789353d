use Rattle.std.proofs.Common.{◌∙◌, arith}
use Rattle.qg_qgroups.proofs.Related.{level_mono, upper}
use Rattle.qg_qgroups.proofs.Sets.{number_found}
use Rattle.qg_qgroups.proofs.hierarchy.last_above_subvolumes.Goals as goal

pub returns-then-level-eq0 : goal.returns-then-level-eq0
returns-then-level-eq0 c = λ group has.
    let low = level_mono group c.in_ok-last.field-0.now
    (upper c.args.groups.now c.in_ok-last.field-0.now c.in_ok-last.ensures.greatest group has) in
    omega (arith, low, c.if-level-eq0.true, c.level.ensures.value, c.from_number.ensures)

pub returns : goal.returns
returns c =
    record {
      there = number_found c.in_ok-last.field-0.now c.args.groups.now.keys ∙ c.in_ok-last.ensures.member;
      greatest = upper c.args.groups.now c.in_ok-last.field-0.now c.in_ok-last.ensures.greatest;
      above = omega (arith, c.if-level-eq0.false, c.level.ensures.value, c.from_number.ensures);
    }
