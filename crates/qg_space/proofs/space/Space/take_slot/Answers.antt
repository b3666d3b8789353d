use Rattle.std.proofs.Common.{◌≡◌, ◌<◌, true, false, Some, List, length, get_or, sym, ap, subst, ◌∙◌, arith}
use Rattle.std.specs.List.{AllWithin, HoldsAt}
use Rattle.qg_space.specs.declared.slots.Slot.{Slot}
use Rattle.qg_space.specs.Holding.{Holding, first_slot}
use Rattle.qg_space.specs.Lying.{is_unused}
use Rattle.qg_space.proofs.Marks.{SlotsFit-is_served}
use Rattle.qg_space.proofs.Free.{free_at, first_slot_at, no_first_slot}
use Rattle.qg_space.proofs.space.Space.take_slot.Goals as goal

pub use_slot-requires-clause-free : goal.use_slot-requires-clause-free
use_slot-requires-clause-free c =
    let s = c.self.inside in
    let n = c.in-Some.number in
    let slot : Slot = record { present = false; held = false } in
    let Found : List Slot → Type 0 = λ xs. (n < length xs) × (is_unused (get_or xs n slot) ≡ true) in
    let found = subst Found c.deref.ensures.value (c.in-Some.ensures.0, c.in-Some.ensures.1 slot) in
    free_at s.sizes s.runs.items s.slots.items n slot (SlotsFit-is_served s.sizes c.self.invariant.served)
    c.self.invariant.all (omega (arith, found.0, c.self.invariant.all)) ∙ found.1

pub returns-in-None-clause-slot : goal.returns-in-None-clause-slot
returns-in-None-clause-slot c =
    let s = c.self.inside in
    let Used : List Slot → Type 0 = λ xs. AllWithin (λ slot. is_unused slot ≡ false) xs 0 (length xs) in
    sym (no_first_slot s.sizes s.runs.items s.slots.items (SlotsFit-is_served s.sizes c.self.invariant.served)
    c.self.invariant.all (subst Used c.deref.ensures.value c.in-None.ensures))
    ∙ ap (λ (h : Holding). first_slot h) c.self.view_is

pub returns-in-Some-clause-slot : goal.returns-in-Some-clause-slot
returns-in-Some-clause-slot c =
    let s = c.self.inside in
    let n = c.in-Some.number in
    let Found : List Slot → Type 0 = λ xs. (n < length xs) × HoldsAt (λ slot. is_unused slot ≡ true) xs n
    × AllWithin (λ slot. is_unused slot ≡ false) xs 0 n in
    let found = subst Found c.deref.ensures.value (c.in-Some.ensures.0, c.in-Some.ensures.1, c.in-Some.ensures.2) in
    ap (λ a. Some a) c.address_of-address.ensures
    ∙ sym (first_slot_at s.sizes s.runs.items s.slots.items n (SlotsFit-is_served s.sizes c.self.invariant.served)
    c.self.invariant.all found.0 found.1 found.2)
    ∙ ap (λ (h : Holding). first_slot h) c.self.view_is
