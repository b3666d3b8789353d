use Rattle.std.proofs.Common.{ap, ◌∙◌}
use Rattle.qg_qgroups.specs.Limit.{Limited, held_of, maxima_of}
use Rattle.qg_qgroups.proofs.GroupLimits.{limits-next}
use Rattle.qg_qgroups.proofs.building.limits_from.Goals as goal

pub loop-number-init : goal.loop-number-init
loop-number-init c = record {
  limits = λ group. ap (λ (l : Limited). maxima_of l group) c.new-limits.ensures;
  held = λ group. ap (λ (l : Limited). held_of l group) c.new-limits.ensures;
}

pub loop-number-preserved : goal.loop-number-preserved
loop-number-preserved c = record {
  limits = limits-next c.args.groups.now c.loop-number.number-index c.loop-number-item.result
      c.loop-number.limits.maxima c.set_both.new.limits.maxima c.requires
      c.loop-number-test.true c.loop-number-item.is c.loop-number.invariant.limits c.in_ok-set_both.ensures.ok;
  held = λ group. c.in_ok-set_both.ensures.held group ∙ c.loop-number.invariant.held group;
}
