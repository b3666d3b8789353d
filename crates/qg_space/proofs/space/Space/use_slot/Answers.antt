use Rattle.std.proofs.Common.{◌≡◌, ◌<◌, true, refl, sym, ap, subst, ◌∙◌, arith}
use Rattle.std.proofs.lemmas.List.{get_or_read}
use Rattle.qg_super.specs.Places.{slot_at}
use Rattle.qg_image.specs.Table.{with_number}
use Rattle.qg_space.specs.declared.slots.Slot.{Slot}
use Rattle.qg_space.specs.Holding.{Holding, is_free_slot}
use Rattle.qg_space.proofs.Marks.{SlotsFit-is_served}
use Rattle.qg_space.proofs.Free.{unused_at, count_taken, taken_sound, taken_holding}
use Rattle.qg_space.proofs.space.Space.use_slot.Goals as goal

pub overflow_sub-self : goal.overflow_sub-self
overflow_sub-self c =
    let s = c.self.inside in
    let Free : Holding → Type 0 = λ h. (c.args.number < h.sizes.slots)
    × (is_free_slot h (slot_at h.sizes c.args.number) ≡ true) in
    let free = subst Free (sym c.self.view_is) (c.requires.bound, c.requires.free) in
    let unused = unused_at s.sizes s.runs.items s.slots.items c.args.number
    (SlotsFit-is_served s.sizes c.self.invariant.served) c.self.invariant.all free.0 free.1 in
    omega (
      arith,
      count_taken s.slots.items c.args.number (record { present = true; held = true }) unused refl,
      c.self.invariant.counted,
    )

pub invariant_of-self : goal.invariant_of-self
invariant_of-self c =
    let s = c.self.inside in
    let Free : Holding → Type 0 = λ h. (c.args.number < h.sizes.slots)
    × (is_free_slot h (slot_at h.sizes c.args.number) ≡ true) in
    let free = subst Free (sym c.self.view_is) (c.requires.bound, c.requires.free) in
    let unused = unused_at s.sizes s.runs.items s.slots.items c.args.number
    (SlotsFit-is_served s.sizes c.self.invariant.served) c.self.invariant.all free.0 free.1 in
    taken_sound s.sizes s.runs.items s.packed s.slots.items s.unused s.first c.args.number
    (record { present = true; held = c.index_mut.result.now.held }) c.self.invariant unused refl

pub returns : goal.returns
returns c =
    let s = c.self.inside in
    let n = c.args.number in
    let Free : Holding → Type 0 = λ h. (n < h.sizes.slots) × (is_free_slot h (slot_at h.sizes n) ≡ true) in
    let free = subst Free (sym c.self.view_is) (c.requires.bound, c.requires.free) in
    let fit = SlotsFit-is_served s.sizes c.self.invariant.served in
    let unused = unused_at s.sizes s.runs.items s.slots.items n fit c.self.invariant.all free.0 free.1 in
    let slot : Slot = record { present = true; held = c.index_mut.result.now.held } in
    let still = ap (λ (slot : Slot). slot.held)
    (get_or_read s.slots.items n c.index_mut.result.now unused.within c.index_mut.ensures.value slot) in
    taken_holding s.sizes s.runs.items s.slots.items n slot fit unused refl still
    ∙ ap (λ (h : Holding). record h { slots = with_number (slot_at h.sizes n) h.slots }) c.self.view_is
