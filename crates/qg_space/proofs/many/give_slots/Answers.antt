use Rattle.std.proofs.Common.{sym, ◌∙◌}
use Rattle.qg_space.proofs.ManySlots.{all_taken, changes_so, gives_more, gives_one, lacks_one}
use Rattle.qg_space.proofs.many.give_slots.Goals as goal
use Rattle.qg_space.proofs.many.give_slots.Goals.{then-has_slot, else-has_slot}

pub loop-slot-preserved : goal.loop-slot-preserved
loop-slot-preserved c =
    gives_more c.args.space.now c.loop-slot.space c.if-has_slot.space c.args.slots.now c.loop-slot.slot-index
    c.slot-item.result c.loop-slot-test.true c.slot-item.is c.loop-slot.invariant
    (elim c.if-has_slot.branch [
      | then-has_slot w ↦ gives_one c.loop-slot.space c.if-has_slot.space c.slot-item.result (w.space-is
          ∙ w.give_slot.ensures)
      | else-has_slot w ↦ lacks_one c.loop-slot.space c.if-has_slot.space c.slot-item.result w.space-is
          (sym w.if-has_slot.ensures)
    ])

pub returns : goal.returns
returns c =
    changes_so c.args.space.now c.loop-slot.space _ _ c.loop-slot.invariant
    (λ slot. let all = all_taken c.args.slots.now c.loop-slot.slot-index slot c.loop-slot-test.false in
    (λ has. (has.0, λ among. has.1 (all.1 among)), λ has. (has.0, λ front. has.1 (all.0 front))))
