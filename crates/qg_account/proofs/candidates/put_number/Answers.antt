use Rattle.qg_qgroups.proofs.Sets.{number_now}
use Rattle.qg_account.proofs.candidates.put_number.Goals as goal

pub returns-clause-has : goal.returns-clause-has
returns-clause-has c = number_now c.args.numbers.now c.insert.new.self c.args.number c.in_ok-insert.ensures.updates
