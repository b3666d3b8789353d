-- Where the slots of sizes that are served lie: between both superblock places, each apart from the others.
use Rattle.std.proofs.Common.{◌≡◌, ℕ, suc, ◌+◌, ◌-◌, ◌/◌, ◌≤◌, ◌⊎◌, inl, inr, true, sym, ap, ◌∙◌, arith}
use Rattle.std.proofs.Math.Nat.{mul-le-mul_left}
use Rattle.std.proofs.lemmas.Bool.{cases_order}
use Rattle.qg_super.specs.declared.sizes.Sizes.{Sizes}
use Rattle.qg_super.specs.Places.{slots_begin, second_place, slot_at, is_slot}
use Rattle.qg_super.proofs.Served.{SizesFit}
use Rattle.qg_super.proofs.Slots.{IsSlotAt-is_slot, slot_ends}

-- a slot of n bytes lies behind the first superblock and before the second
pub record IsBetween (n address : ℕ) : Type 0 where
  pub begin : slots_begin ≤ address
  pub end : address + n ≤ second_place

pub is_slot-IsBetween : (sizes : Sizes) (address : ℕ) → SizesFit sizes → is_slot sizes address ≡ true
    → IsBetween sizes.nodesize address
is_slot-IsBetween sizes address fit is = record {
  begin = (IsSlotAt-is_slot sizes address is).begin;
  end = slot_ends sizes address fit is;
}

-- slots with different numbers are apart
numbers-apart : (sizes : Sizes) (a b : ℕ) → (slot_at sizes a ≡ slot_at sizes b → ⊥)
    → (slot_at sizes a + sizes.nodesize ≤ slot_at sizes b) ⊎ (slot_at sizes b + sizes.nodesize ≤ slot_at sizes a)
numbers-apart sizes a b differ = elim (cases_order a b) [
  | inl same ↦ absurd (differ (ap (slot_at sizes) same))
  | inr (inl less) ↦
      let next : suc a ≤ b = omega arith in
      let product = mul-le-mul_left sizes.nodesize next in
      inl (omega (arith, product))
  | inr (inr more) ↦
      let next : suc b ≤ a = omega arith in
      let product = mul-le-mul_left sizes.nodesize next in
      inr (omega (arith, product))
]

-- two slots at different addresses are apart
pub slots-apart : (sizes : Sizes) (a b : ℕ) → is_slot sizes a ≡ true → is_slot sizes b ≡ true → (a ≡ b → ⊥)
    → (a + sizes.nodesize ≤ b) ⊎ (b + sizes.nodesize ≤ a)
slots-apart sizes a b is is' differ =
    let number = λ (address : ℕ). (address - slots_begin) / sizes.nodesize in
    let there = (IsSlotAt-is_slot sizes a is).there in
    let there' = (IsSlotAt-is_slot sizes b is').there in
    elim (numbers-apart sizes (number a) (number b) (λ same. differ (sym there ∙ same ∙ there'))) [
      | inl before ↦ inl (omega (arith, before, there, there'))
      | inr behind ↦ inr (omega (arith, behind, there, there'))
    ]
