use Rattle.std.proofs.Common.{sym, ap, ◌∙◌, arith}
use Rattle.qg_space.specs.declared.slots.Slot.{Slot}
use Rattle.qg_space.specs.Holding.{Holding, has_slot}
use Rattle.qg_space.proofs.Marks.{SlotsFit-is_served, none_among}
use Rattle.qg_space.proofs.Free.{has_at}
use Rattle.qg_space.proofs.space.Space.has_slot.Goals as goal

pub returns-then-is_slot : goal.returns-then-is_slot
returns-then-is_slot c =
    let s = c.self.inside in
    let slot = c.index.result.now in
    ap (λ (slot : Slot). slot.present) c.index.ensures
    ∙ sym (has_at s.sizes s.runs.items s.slots.items c.args.at c.number_of.result slot
    (SlotsFit-is_served s.sizes c.self.invariant.served) c.self.invariant.all c.number_of.ensures.bound
    c.number_of.ensures.at)
    ∙ ap (λ (h : Holding). has_slot h c.args.at) c.self.view_is

pub returns-else-is_slot : goal.returns-else-is_slot
returns-else-is_slot c =
    let s = c.self.inside in
    let fit = SlotsFit-is_served s.sizes c.self.invariant.served in
    let all = c.self.invariant.all in
    c.if-is_slot.false ∙ sym (none_among (λ slot. slot.present) s.sizes c.args.at 0 s.slots.items fit.some
    (sym c.is_slot.ensures ∙ c.if-is_slot.false) (omega (arith, all)))
    ∙ ap (λ (h : Holding). has_slot h c.args.at) c.self.view_is
