use Rattle.qg_commit_trees.proofs.Besides.{free-slots, free-unheld, holds-besides}
use Rattle.qg_commit_trees.proofs.slots.hold_besides.Goals as goal

pub take_slots-requires-clause-slots : goal.take_slots-requires-clause-slots
take_slots-requires-clause-slots c = free-slots c.args.space.now c.args.others.now c.requires.free

pub take_slots-requires-clause-unheld : goal.take_slots-requires-clause-unheld
take_slots-requires-clause-unheld c = free-unheld c.args.space.now c.args.others.now c.requires.free

pub returns : goal.returns
returns c =
    holds-besides c.args.space.now c.take_slots.new.space c.committed.new.self c.give_slots.new.space c.args.others.now
    c.requires.free c.take_slots.ensures.taken c.committed.ensures c.give_slots.ensures
