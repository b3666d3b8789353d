use Rattle.std.proofs.Common.{◌≡◌, List, length, take, sym, ap, subst, ◌∙◌}
use Rattle.std.specs.Prelude.{◌==◌}
use Rattle.std.specs.List.{IsDistinct, list_all}
use Rattle.qg_space.specs.declared.slots.Slot.{Slot}
use Rattle.qg_space.specs.Holding.{Holding, free_list, is_free_slot}
use Rattle.qg_space.specs.Lying.{slots_where, is_unused}
use Rattle.qg_space.proofs.Marks.{SlotsFit-is_served}
use Rattle.qg_space.proofs.Listed.{free_listed, listed_apart, listed_free, listed_count}
use Rattle.qg_space.proofs.space.Space.free_list.Goals as goal

-- the list is that of the slots that nothing holds
unused : (c : goal.In_ok-slots)
    → c.in_ok-slots.slots ≡ take c.args.count (slots_where is_unused c.self.inside.sizes 0 c.self.inside.slots.items)
unused c =
    let Listed : List Slot
    → Type 0 = λ slots. c.in_ok-slots.slots ≡ take c.args.count
    (slots_where is_unused c.self.inside.sizes 0 slots) in
    subst Listed c.deref.ensures.value c.in_ok-slots.ensures

-- those are the free ones
first : (c : goal.In_ok-slots) → c.in_ok-slots.slots ≡ take c.args.count (free_list c.args.self.now)
first c =
    let s = c.self.inside in
    let fit = SlotsFit-is_served s.sizes c.self.invariant.served in
    unused c ∙ ap (take c.args.count) (sym (free_listed s.sizes s.runs.items s.slots.items fit c.self.invariant.all))
    ∙ ap (λ (h : Holding). take c.args.count (free_list h)) c.self.view_is

pub returns-clause-first : goal.returns-clause-first
returns-clause-first c = first c

pub returns-clause-apart : goal.returns-clause-apart
returns-clause-apart c =
    let s = c.self.inside in
    let fit = SlotsFit-is_served s.sizes c.self.invariant.served in
    subst (IsDistinct (λ a b. a == b)) (sym (unused c)) (listed_apart s.sizes s.slots.items c.args.count fit.some)

pub returns-clause-free : goal.returns-clause-free
returns-clause-free c = ap (list_all (is_free_slot c.args.self.now)) (first c)
    ∙ listed_free c.args.self.now c.args.count

pub returns-clause-count : goal.returns-clause-count
returns-clause-count c = ap length (first c) ∙ listed_count c.args.self.now c.args.count
