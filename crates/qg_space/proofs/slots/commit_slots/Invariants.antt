use Rattle.std.proofs.Common.{◌≡◌, ◌++◌, map, take, drop}
use Rattle.qg_space.specs.Lying.{committed_slot}
use Rattle.qg_space.proofs.slots.commit_slots.Given as goal

abbrev pub invariant-loop-slot : goal.invariant-loop-slot
invariant-loop-slot l = l.slots ≡ map committed_slot (take l.slot-index l.initial.slots)
    ++ drop l.slot-index l.initial.slots
