use Rattle.std.proofs.Common.{inl, inr, sym, ◌∙◌}
use Rattle.qg_space.proofs.ManySlots.{all_taken, changes_so, free_lacked, has_one, takes_more, takes_one}
use Rattle.qg_space.proofs.many.take_slots.Goals as goal
use Rattle.qg_space.proofs.many.take_slots.Goals.{then-not-has_slot+in_ok-take_slot_at, else-not-has_slot}

pub take_slot_at-requires : goal.take_slot_at-requires
take_slot_at-requires c =
    free_lacked c.args.space.now c.loop-slot.space c.args.slots.now c.loop-slot.slot-index c.slot-item.result
    c.loop-slot-test.true c.slot-item.is c.loop-slot.invariant
    c.requires.slots c.requires.unheld (sym c.if-not-has_slot.ensures)

pub loop-slot-preserved : goal.loop-slot-preserved
loop-slot-preserved c =
    takes_more c.args.space.now c.loop-slot.space c.if-not-has_slot.space c.args.slots.now c.loop-slot.slot-index
    c.slot-item.result c.loop-slot-test.true c.slot-item.is c.loop-slot.invariant
    (elim c.if-not-has_slot.branch [
      | then-not-has_slot+in_ok-take_slot_at w ↦ takes_one c.loop-slot.space c.if-not-has_slot.space c.slot-item.result
          (w.space-is ∙ w.in_ok-take_slot_at.ensures.ok)
      | else-not-has_slot w ↦ has_one c.loop-slot.space c.if-not-has_slot.space c.slot-item.result w.space-is
          (sym w.if-not-has_slot.ensures)
    ])

pub returns-clause-taken : goal.returns-clause-taken
returns-clause-taken c =
    changes_so c.args.space.now c.loop-slot.space _ _ c.loop-slot.invariant
    (λ slot. let all = all_taken c.args.slots.now c.loop-slot.slot-index slot c.loop-slot-test.false in (
      λ has. elim has [ inl had ↦ inl had | inr front ↦ inr (all.0 front) ],
      λ has. elim has [
        | inl had ↦ inl had
        | inr among ↦ inr (all.1 among)
      ],
    ))
