-- A book of slots that was told one thing more.
use Rattle.std.proofs.Common.{◌≡◌, ℕ, ◌+◌, ◌-◌, ◌^◌, List, [], ◌∷◌, ◌++◌, length, min, arith, refl, sym, ap, ◌∙◌}
use Rattle.std.proofs.lemmas.List.{length-append}
use Rattle.qg_node_alloc.specs.SlotTally.{FollowsSlots, SlotTally, slots_after, slots_after_all}
use Rattle.qg_node_alloc.specs.Tellings.{Telling}

slots_last : (log : List Telling) (telling : Telling) (slots : List ℕ)
    → slots_after_all (log ++ telling ∷ []) slots ≡ slots_after telling (slots_after_all log slots)
slots_last [] telling slots = refl
slots_last (first ∷ log) telling slots = slots_last log telling (slots_after first slots)

told_more : (begin long : ℕ) → min (min (begin + long) (2 ^ 64 - 1) + 1) (2 ^ 64 - 1) ≡ min (begin + (long + 1)) (2 ^ 64 - 1)
told_more begin long = omega arith

pub follows-more : (before book new : SlotTally) (log : List Telling) (telling : Telling) → FollowsSlots before log book
    → new.told ≡ min (book.told + 1) (2 ^ 64 - 1) → new.slots ≡ slots_after telling book.slots
    → FollowsSlots before (log ++ telling ∷ []) new
follows-more before book new log telling follows told slots = record {
  told = told ∙ ap (λ (n : ℕ). min (n + 1) (2 ^ 64 - 1)) follows.told ∙ told_more before.told (length log)
      ∙ ap (λ (n : ℕ). min (before.told + n) (2 ^ 64 - 1)) (sym (length-append log (telling ∷ [])));
  slots = slots ∙ ap (slots_after telling) follows.slots ∙ sym (slots_last log telling before.slots);
}
