use Rattle.std.proofs.Common.{false, get_or, ap, ◌∙◌, arith}
use Rattle.std.proofs.Math.ListN.{set}
use Rattle.std.proofs.lemmas.List.{get_or_default}
use Rattle.std.proofs.lemmas.List.Edits.{map_over_more}
use Rattle.qg_space.specs.declared.slots.Slot.{Slot}
use Rattle.qg_space.specs.Lying.{committed_slot}
use Rattle.qg_space.proofs.slots.commit_slots.Goals as goal

pub loop-slot-preserved : goal.loop-slot-preserved
loop-slot-preserved c =
    let now = c.loop-slot.slots in
    let i = c.loop-slot.slot-index in
    let unused : Slot = record { present = false; held = false } in
    let slot = get_or now i unused in
    ap (λ (s : Slot). set now i s) c.committed_slot.ensures
    ∙ map_over_more committed_slot c.args.slots.now now i slot c.loop-slot-test.true c.loop-slot.invariant
    (get_or_default now i unused slot (omega (arith, c.loop-slot.auto.slots)))
