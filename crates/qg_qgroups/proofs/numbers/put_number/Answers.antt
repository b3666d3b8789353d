use Rattle.std.proofs.Common.{◌∙◌}
use Rattle.qg_qgroups.proofs.Sets.{number_now, number_put}
use Rattle.qg_qgroups.proofs.numbers.put_number.Goals as goal

pub returns-clause-ok : goal.returns-clause-ok
returns-clause-ok c = c.in_ok-insert.ensures.keys ∙ number_put c.args.number c.args.numbers.now.keys

pub returns-clause-has : goal.returns-clause-has
returns-clause-has c = number_now c.args.numbers.now c.insert.new.self c.args.number c.in_ok-insert.ensures.updates
