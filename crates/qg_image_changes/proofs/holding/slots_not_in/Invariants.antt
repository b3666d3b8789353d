use Rattle.std.proofs.Common.{◌≡◌, take}
use Rattle.std.specs.Prelude.{not}
use Rattle.std.specs.List.{filter}
use Rattle.qg_space.specs.Holding.{has_slot}
use Rattle.qg_image_changes.proofs.holding.slots_not_in.Given as goal

abbrev pub invariant-loop-slot : goal.invariant-loop-slot
invariant-loop-slot l = l.others ≡ filter (λ slot. not (has_slot l.space slot)) (take l.slot-index l.slots)
