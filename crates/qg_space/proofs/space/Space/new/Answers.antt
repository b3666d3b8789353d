use Rattle.qg_space.proofs.Free.{nothing_held_yet}
use Rattle.qg_space.proofs.space.Space.new.Goals as goal

pub returns : goal.returns
returns c =
    nothing_held_yet (record { nodesize = c.args.nodesize; slots = c.args.slots; sectors = c.args.sectors })
    c.new.result.items c.in_ok-unused_slots.field-0.items c.new.ensures.items
    c.in_ok-unused_slots.ensures
