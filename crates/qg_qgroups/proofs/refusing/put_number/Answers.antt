use Rattle.qg_qgroups.proofs.Sets.{number_now}
use Rattle.qg_qgroups.proofs.refusing.put_number.Goals as goal

pub returns : goal.returns
returns c = number_now c.args.numbers.now c.insert.new.self c.args.number c.in_ok-insert.ensures.updates
