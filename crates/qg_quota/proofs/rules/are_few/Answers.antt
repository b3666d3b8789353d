use Rattle.std.proofs.Common.{sym, ◌∙◌}
use Rattle.qg_quota.proofs.ToldBack.{few-judged}
use Rattle.qg_quota.proofs.rules.are_few.Goals as goal

pub returns : goal.returns
returns c = c.are_few_told.ensures ∙ sym (few-judged c.args.parts.now c.args.told.now c.requires)
