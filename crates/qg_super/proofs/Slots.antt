-- What a node slot is, and where it ends. Addresses are in bytes.
use Rattle.std.proofs.Common.{◌≡◌, ℕ, suc, ◌+◌, ◌-◌, ◌*◌, ◌/◌, ◌<◌, ◌≤◌, true, ap, ◌∙◌, arith}
use Rattle.std.specs.Prelude.{◌==◌, ◌%◌, ◌&&◌, nat_le, nat_lt}
use Rattle.std.proofs.Math.Nat.{mul-le-mul_left, mul-mod_left, mul-div_cancel}
use Rattle.std.proofs.lemmas.Bool.{and_parts, and_from, eqb-true, eq-eqb, leb-true, le-leb, ltb-true, lt-ltb}
use Rattle.std.proofs.lemmas.Nat.{div-add-mod'}
use Rattle.qg_super.specs.declared.sizes.Sizes.{Sizes}
use Rattle.qg_super.specs.Places.{slots_begin, second_place, slot_at, is_slot}
use Rattle.qg_super.proofs.Served.{SizesFit}

-- the slot with a number is one
pub is_slot-slot_at : (sizes : Sizes) (k : ℕ) → 0 < sizes.nodesize → k < sizes.slots
    → is_slot sizes (slot_at sizes k) ≡ true
unfolding is_slot
is_slot-slot_at sizes k some short =
    let offset : slot_at sizes k - slots_begin ≡ k * sizes.nodesize = omega arith in
    let whole : (slot_at sizes k - slots_begin) % sizes.nodesize ≡ 0 = ap (λ n. n % sizes.nodesize) offset
    ∙ mul-mod_left k sizes.nodesize in
    let number : (slot_at sizes k - slots_begin) / sizes.nodesize ≡ k = ap (λ n. n / sizes.nodesize) offset
    ∙ mul-div_cancel k some in
    and_from _ _ (and_from _ _ (le-leb slots_begin (slot_at sizes k) (omega arith))
    (eq-eqb ((slot_at sizes k - slots_begin) % sizes.nodesize) 0 whole))
    (lt-ltb ((slot_at sizes k - slots_begin) / sizes.nodesize) sizes.slots (omega (arith, number, short)))

-- what an address of a slot is
pub record IsSlotAt (sizes : Sizes) (address : ℕ) : Type 0 where
  pub begin : slots_begin ≤ address
  pub number : (address - slots_begin) / sizes.nodesize < sizes.slots
  pub there : slot_at sizes ((address - slots_begin) / sizes.nodesize) ≡ address

pub IsSlotAt-is_slot : (sizes : Sizes) (address : ℕ) → is_slot sizes address ≡ true → IsSlotAt sizes address
unfolding is_slot
IsSlotAt-is_slot sizes address is =
    let to_last = and_parts (nat_le slots_begin address && ((address - slots_begin) % sizes.nodesize == 0))
    (nat_lt ((address - slots_begin) / sizes.nodesize) sizes.slots) is in
    let parts = and_parts (nat_le slots_begin address) ((address - slots_begin) % sizes.nodesize == 0) to_last.0 in
    let begin = leb-true slots_begin address parts.0 in
    let whole = eqb-true ((address - slots_begin) % sizes.nodesize) 0 parts.1 in
    let divides = div-add-mod' (address - slots_begin) sizes.nodesize in
    record {
      begin = begin;
      number = ltb-true ((address - slots_begin) / sizes.nodesize) sizes.slots to_last.1;
      there = omega (arith, begin, whole, divides);
    }

-- where sizes are served, a slot ends before the second superblock
pub slot_ends : (sizes : Sizes) (address : ℕ) → SizesFit sizes → is_slot sizes address ≡ true
    → address + sizes.nodesize ≤ second_place
slot_ends sizes address fits is =
    let slot = IsSlotAt-is_slot sizes address is in
    let next : suc ((address - slots_begin) / sizes.nodesize) ≤ sizes.slots = omega (arith, slot.number) in
    let product = mul-le-mul_left sizes.nodesize next in
    omega (arith, slot.there, product, fits.area)
