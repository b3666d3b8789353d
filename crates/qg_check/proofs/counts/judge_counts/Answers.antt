use Rattle.std.proofs.Common.{Option, ap, subst, ◌∙◌}
use Rattle.std.specs.Prelude.{IfSome}
use Rattle.qg_image.specs.Verdict.{counts_failure}
use Rattle.qg_qgroups.specs.declared.state.QuotaState.{QuotaState}
use Rattle.qg_qgroups.specs.Tracked.{quota_of, IsTracked}
use Rattle.qg_check.proofs.Counters.{counts_none}
use Rattle.qg_check.proofs.Staging.{fails_same}
use Rattle.qg_check.proofs.counts.judge_counts.Goals as goal

pub judge_state-requires-clause-tracked : goal.judge_state-requires-clause-tracked
judge_state-requires-clause-tracked c =
    subst (λ (quota : Option QuotaState). IfSome quota IsTracked) c.in-Some.is c.requires.tracked

pub returns-in-Some-clause-failure : goal.returns-in-Some-clause-failure
returns-in-Some-clause-failure c = λ layout are.
    let same = ap (λ (quota : Option QuotaState). counts_failure layout (quota_of quota)) c.in-Some.is in
    fails_same c.judge_state.result same (c.judge_state.ensures.failure layout are)

pub returns-in-None-clause-failure : goal.returns-in-None-clause-failure
returns-in-None-clause-failure c = λ layout are.
    ap (λ (quota : Option QuotaState). counts_failure layout (quota_of quota)) c.in-None.is ∙ counts_none layout
