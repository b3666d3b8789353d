use Rattle.std.proofs.Common.{◌⊎◌, take}
use Rattle.std.specs.List.{Contains}
use Rattle.qg_space.specs.ManySlots.{ChangesSlots}
use Rattle.qg_space.proofs.many.take_slots.Given as goal

abbrev pub invariant-loop-slot : goal.invariant-loop-slot
invariant-loop-slot l = ChangesSlots l.fn.space l.space (λ slot. Contains l.fn.space.slots slot
    ⊎ Contains (take l.slot-index l.slots) slot)
