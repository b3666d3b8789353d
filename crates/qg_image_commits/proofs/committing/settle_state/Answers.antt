use Rattle.std.proofs.Common.{Option, Some, sym, ap, subst, ◌∙◌}
use Rattle.qg_image.specs.declared.quota.Quota.{Quota}
use Rattle.qg_qgroups.specs.Tracked.{SameButCounts}
use Rattle.qg_image_commits.proofs.committing.settle_state.Goals as goal

-- counted quota is on too
pub unreachable-requires : goal.unreachable-requires
unreachable-requires c =
    subst (λ (counted : Option Quota). SameButCounts (Some c.args.state.now.quota) counted) c.in-None.is
    c.requires.counted

pub settle-requires-clause-tracked : goal.settle-requires-clause-tracked
settle-requires-clause-tracked c = c.requires.tracked

pub settle-requires-clause-counted : goal.settle-requires-clause-counted
settle-requires-clause-counted c =
    subst (λ (counted : Option Quota). SameButCounts (Some c.args.state.now.quota) counted) c.in-Some.is
    c.requires.counted

pub returns-clause-quota : goal.returns-clause-quota
returns-clause-quota c = ap (λ (quota : Quota). Some quota) c.settle.ensures.quota ∙ sym c.in-Some.is

pub returns-clause-tracked : goal.returns-clause-tracked
returns-clause-tracked c = c.settle.ensures.tracked

pub returns-clause-none : goal.returns-clause-none
returns-clause-none c = c.settle.ensures.none
