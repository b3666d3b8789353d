use Rattle.std.proofs.Common.{◌≡◌, ◌≤◌, ℕ, true, sym, ap, subst, ◌∙◌}
use Rattle.std.specs.List.{Contains, count_by}
use Rattle.qg_super.specs.Places.{is_slot}
use Rattle.qg_space.specs.declared.slots.Slot.{Slot}
use Rattle.qg_space.specs.Holding.{Holding, taken_slots}
use Rattle.qg_space.proofs.Marks.{SlotsFit-is_served}
use Rattle.qg_space.proofs.Taken.{taken-slot, taken_counted, taken_slots-le-slots}
use Rattle.qg_space.proofs.space.Space.taken_slots.Goals as goal

pub returns : goal.returns
returns c =
    let s = c.self.inside in
    let fit = SlotsFit-is_served s.sizes c.self.invariant.served in
    let many : c.count_present.result ≡ taken_slots c.args.self.now =
    c.count_present.ensures ∙ ap (count_by (λ (slot : Slot). slot.present)) c.deref.ensures.value
    ∙ sym (taken_counted s.sizes s.runs.items s.slots.items fit c.self.invariant.all)
    ∙ ap (λ (h : Holding). taken_slots h) c.self.view_is in
    let Few : ℕ → Type 0 = λ n. n ≤ c.args.self.now.sizes.slots in
    let Are : Holding → Type 0 = λ h. (slot : ℕ) → Contains h.slots slot → is_slot h.sizes slot ≡ true in
    record {
      count = many;
      most = subst Few (sym many) (taken_slots-le-slots c.args.self.now);
      each = subst Are c.self.view_is (taken-slot s.sizes s.runs.items s.slots.items fit c.self.invariant.all);
    }
