use Rattle.std.proofs.Common.{◌∙◌}
use Rattle.qg_qgroups.proofs.Sets.{number_gone, number_left}
use Rattle.qg_qgroups.proofs.numbers.take_number.Goals as goal

pub returns-clause-left : goal.returns-clause-left
returns-clause-left c = c.remove.ensures.keys ∙ number_left c.args.number c.args.numbers.now.keys c.requires

pub returns-clause-has : goal.returns-clause-has
returns-clause-has c = number_gone c.args.numbers.now c.remove.new.self c.args.number c.remove.ensures.updates
