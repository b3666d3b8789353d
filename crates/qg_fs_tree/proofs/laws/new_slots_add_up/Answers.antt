use Rattle.qg_fs_tree.proofs.Made.{made-named, made-same, made-then}
use Rattle.qg_fs_tree.proofs.laws.new_slots_add_up.Goals as goal

pub returns-clause-sum : goal.returns-clause-sum
returns-clause-sum c first second third same = made-then first second third same

pub returns-clause-none : goal.returns-clause-none
returns-clause-none c holding = made-same holding

pub returns-clause-named : goal.returns-clause-named
returns-clause-named c old new keeps = made-named old new keeps
