use Rattle.std.proofs.Common.{sym, ◌∙◌}
use Rattle.qg_qgroups.proofs.Paths.{reserved-none}
use Rattle.qg_qgroups.proofs.state.QuotaState.new.Goals as goal

pub returns-clause-none : goal.returns-clause-none
returns-clause-none c group = c.in_ok-limits.ensures.held group ∙ sym (reserved-none _ group)
