use Rattle.std.proofs.Common.{sym, ◌∙◌}
use Rattle.qg_quota.proofs.ToldBack.{quota-judged}
use Rattle.qg_quota.proofs.rules.is_quota.Goals as goal

pub returns : goal.returns
returns c = c.are_told.ensures ∙ sym (quota-judged c.args.parts.now c.args.told.now c.requires.told c.args.live.now)
