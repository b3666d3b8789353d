use Rattle.qg_image_commits.proofs.Forgotten.{Forgets}
use Rattle.qg_image_commits.proofs.committing.forget_slots.Given as goal

abbrev pub invariant-loop-slot : goal.invariant-loop-slot
invariant-loop-slot l = Forgets l.fn.blocks l.blocks l.slots l.slot-index
