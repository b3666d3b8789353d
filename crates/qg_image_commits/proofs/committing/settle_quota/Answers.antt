use Rattle.std.proofs.Common.{[], Option, subst}
use Rattle.std.specs.Prelude.{IfSome}
use Rattle.qg_qgroups.specs.declared.state.QuotaState.{QuotaState}
use Rattle.qg_qgroups.specs.Tracked.{HoldsAll, IsTracked, SameButCounts, quota_of}
use Rattle.qg_image_commits.proofs.OnOff.{off-settled, stays-off}
use Rattle.qg_image_commits.proofs.committing.settle_quota.Goals as goal

-- ---- quota is off

pub returns-in-None-clause-quota : goal.returns-in-None-clause-quota
returns-in-None-clause-quota c = stays-off c.args.tracked.now c.args.counted c.in-None.is c.requires.counted

pub returns-in-None-clause-settled : goal.returns-in-None-clause-settled
returns-in-None-clause-settled c =
    off-settled c.args.tracked.now (λ now. IsTracked now × HoldsAll now []) c.in-None.is

-- ---- it is on

pub settle_state-requires-clause-tracked : goal.settle_state-requires-clause-tracked
settle_state-requires-clause-tracked c =
    subst (λ (tracked : Option QuotaState). IfSome tracked IsTracked) c.in-Some.is c.requires.tracked

pub settle_state-requires-clause-counted : goal.settle_state-requires-clause-counted
settle_state-requires-clause-counted c =
    subst (λ (tracked : Option QuotaState). SameButCounts (quota_of tracked) c.args.counted) c.in-Some.is
    c.requires.counted

pub returns-in-Some-clause-quota : goal.returns-in-Some-clause-quota
returns-in-Some-clause-quota c = c.settle_state.ensures.quota

pub returns-in-Some-clause-settled : goal.returns-in-Some-clause-settled
returns-in-Some-clause-settled c = (c.settle_state.ensures.tracked, c.settle_state.ensures.none)
