use Rattle.std.proofs.Common.{◌∙◌}
use Rattle.qg_qgroups.proofs.Agreed.{made-next}
use Rattle.qg_qgroups.proofs.building.groups_of.Goals as goal

pub loop-sub-init : goal.loop-sub-init
loop-sub-init g c = c.in_ok-groups.ensures

pub loop-sub-preserved : goal.loop-sub-preserved
loop-sub-preserved g c =
    made-next c.args.subs.now c.args.stamp c.loop-sub.sub-index c.loop-sub-item.result c.loop-sub.groups c.push.new.self
    c.from_number.result c.new_group.result c.loop-sub-test.true
    c.loop-sub-item.is c.loop-sub.invariant c.in_ok-push.ensures.ok (c.from_number.ensures
    ∙ c.value.ensures) c.new_group.ensures
