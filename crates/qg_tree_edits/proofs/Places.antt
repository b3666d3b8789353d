-- Each slot of an image is one of its slots, once.
use Rattle.std.proofs.Common.{◌≡◌, ℕ, zero, suc, ◌+◌, ◌-◌, ◌/◌, ◌<◌, ◌≤◌, true, List, map, arith, refl, sym, ap, subst}
use Rattle.std.proofs.Common.{inl, inr}
use Rattle.std.specs.List.{range_with_len, sum_by}
use Rattle.std.proofs.lemmas.Bool.Decides.{eqb_tells}
use Rattle.std.proofs.lemmas.List.Sums.{sum_by-cons}
use Rattle.qg_super.specs.declared.sizes.Sizes.{Sizes}
use Rattle.qg_super.specs.Places.{is_slot, slot_at, slots_begin}
use Rattle.qg_super.proofs.Slots.{IsSlotAt-is_slot, is_slot-slot_at}
use Rattle.qg_space.proofs.Marks.{slots_apart}
use Rattle.qg_tree_edits.specs.Counting.{one}
use Rattle.qg_tree_edits.proofs.Ways.{one-here, one-other}
use Rattle.qg_tree_edits.specs.OwnSlots.{every_slot}
use Rattle.qg_tree_edits.proofs.SlotSums.{IsOnce}

module _ (sizes : Sizes) where
  -- slots from a number on
  abbrev pub slots_from : ℕ → ℕ → List ℕ
  slots_from from count = map (slot_at sizes) (range_with_len from count)

  sum_first : (f : ℕ → ℕ) (from count : ℕ) → sum_by f (slots_from from (suc count)) ≡ f (slot_at sizes from) + sum_by f
      (slots_from (from + 1) count)
  sum_first f from count = sum_by-cons f (slot_at sizes from) (slots_from (from + 1) count)

  -- sums of what is the same at each slot
  sums_from : (f g : ℕ → ℕ) (from count : ℕ) → ((k : ℕ) → from ≤ k → k < from + count → f (slot_at sizes k)
      ≡ g (slot_at sizes k))
      → sum_by f (slots_from from count) ≡ sum_by g (slots_from from count)
  sums_from f g from zero same = refl
  sums_from f g from (suc count) same =
      let here = same from (omega arith) (omega arith) in
      let rest = sums_from f g (from + 1) count (λ k low high. same k (omega (arith, low)) (omega (arith, high))) in
      let first = sum_first f from count in
      let last = sum_first g from count in
      omega (arith, here, rest, first, last)

  pub slots-same : (f g : ℕ → ℕ) → 0 < sizes.nodesize → ((at : ℕ) → is_slot sizes at ≡ true → f at ≡ g at)
      → sum_by f (every_slot sizes) ≡ sum_by g (every_slot sizes)
  slots-same f g some same = sums_from f g 0 sizes.slots
      (λ k low high. same (slot_at sizes k) (is_slot-slot_at sizes k some (omega (arith, high))))

  -- a slot is not among those behind it
  not_behind : (k from count : ℕ) → 0 < sizes.nodesize → k < from → sum_by (one (slot_at sizes k))
      (slots_from from count) ≡ 0
  not_behind k from zero some less = refl
  not_behind k from (suc count) some less =
      let first = sum_first (one (slot_at sizes k)) from count in
      let differ = one-other (slot_at sizes k) (slot_at sizes from)
      (λ same. slots_apart sizes from k some (λ is. absurd (omega (arith, is, less))) same) in
      let rest = not_behind k (from + 1) count some (omega (arith, less)) in
      omega (arith, first, differ, rest)

  once_from : (k from count : ℕ) → 0 < sizes.nodesize → from ≤ k → k < from + count
      → sum_by (one (slot_at sizes k)) (slots_from from count) ≡ 1
  once_from k from zero some low high = absurd (omega (arith, low, high))
  once_from k from (suc count) some low high =
      let first = sum_first (one (slot_at sizes k)) from count in
      elim (eqb_tells k from) [
        | inl (equal, same) ↦
            let here = one-here (slot_at sizes k) (slot_at sizes from) (ap (slot_at sizes) (sym same)) in
            let rest = not_behind k (from + 1) count some (omega (arith, same)) in
            omega (arith, first, here, rest)
        | inr (unequal, differ) ↦
            let above : from + 1 ≤ k = omega (arith, low, differ) in
            let other = one-other (slot_at sizes k) (slot_at sizes from)
            (λ same. slots_apart sizes from k some (λ is. differ (sym is)) same) in
            let rest = once_from k (from + 1) count some above (omega (arith, high)) in
            omega (arith, first, other, rest)
      ]

  pub slot-once : (at : ℕ) → 0 < sizes.nodesize → is_slot sizes at ≡ true → IsOnce (every_slot sizes) at
  slot-once at some is =
      let slot = IsSlotAt-is_slot sizes at is in
      subst (λ (a : ℕ). IsOnce (every_slot sizes) a) slot.there
      (once_from ((at - slots_begin) / sizes.nodesize) 0 sizes.slots some (omega arith)
      (let short = slot.number in omega (arith, short)))
