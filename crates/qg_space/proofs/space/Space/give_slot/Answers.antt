use Rattle.std.proofs.Common.{◌≡◌, false, refl, ap, ◌∙◌, arith}
use Rattle.std.proofs.Math.ListN.{set}
use Rattle.std.proofs.lemmas.List.{get_or_read}
use Rattle.qg_space.specs.declared.slots.Slot.{Slot}
use Rattle.qg_space.specs.Holding.{Holding, has_slot, without_slot}
use Rattle.qg_space.specs.Lying.{holding_of}
use Rattle.qg_space.proofs.Marks.{SlotsFit-is_served}
use Rattle.qg_space.proofs.Free.{IsPresentAt, has_is_slot, present_at, given_holding, given_sound}
use Rattle.qg_space.proofs.space.Space.give_slot.Goals as goal
use Rattle.qg_space.proofs.space.Space.give_slot.Goals.{After-index_mut-slot}

pub number_of-number-requires-clause-slot : goal.number_of-number-requires-clause-slot
number_of-number-requires-clause-slot c =
    let s = c.self.inside in
    has_is_slot s.sizes s.runs.items s.slots.items c.args.at (SlotsFit-is_served s.sizes c.self.invariant.served)
    c.self.invariant.all
    (ap (λ (h : Holding). has_slot h c.args.at) c.self.view_is ∙ c.requires)

-- the slot is there
there : (c : After-index_mut-slot) → IsPresentAt c.self.inside.slots.items c.number_of-number.result
there c =
    let s = c.self.inside in
    present_at s.sizes s.runs.items s.slots.items c.args.at c.number_of-number.result
    (SlotsFit-is_served s.sizes c.self.invariant.served) c.self.invariant.all c.number_of-number.ensures.bound
    c.number_of-number.ensures.at (ap (λ (h : Holding). has_slot h c.args.at) c.self.view_is ∙ c.requires)

-- what is held once it is given back
given : (c : After-index_mut-slot)
    → holding_of c.self.inside.sizes c.self.inside.runs.items (set c.self.inside.slots.items c.number_of-number.result
    (record { present = false; held = c.index_mut-slot.result.now.held }))
    ≡ record c.args.self.now { slots = without_slot c.args.at c.args.self.now.slots }
given c =
    let s = c.self.inside in
    let n = c.number_of-number.result in
    let slot : Slot = record { present = false; held = c.index_mut-slot.result.now.held } in
    given_holding s.sizes s.runs.items s.slots.items c.args.at n slot
    (SlotsFit-is_served s.sizes c.self.invariant.served) (there c) c.number_of-number.ensures.at refl
    (ap (λ (slot : Slot). slot.held) (get_or_read s.slots.items n c.index_mut-slot.result.now
    (there c).within c.index_mut-slot.ensures.value slot))
    ∙ ap (λ (h : Holding). record h { slots = without_slot c.args.at h.slots }) c.self.view_is

pub invariant_of-self : goal.invariant_of-self
invariant_of-self c =
    let s = c.self.inside in
    given_sound s.sizes s.runs.items s.packed s.slots.items s.unused s.first c.number_of-number.result
    c.min-self-inside.result (record { present = false; held = c.index_mut-slot.result.now.held }) c.self.invariant
    (there (goal.at.invariant_of-self c).After-index_mut-slot) refl c.if-not-slot.true
    (omega (arith, c.min-self-inside.ensures)) (omega (arith, c.min-self-inside.ensures))

pub returns-then-not-slot : goal.returns-then-not-slot
returns-then-not-slot c = given (goal.at.returns-then-not-slot c).After-index_mut-slot

pub returns-else-not-slot : goal.returns-else-not-slot
returns-else-not-slot c = given (goal.at.returns-else-not-slot c).After-index_mut-slot
