-- Where the slots of an image of served sizes lie.
use Rattle.std.proofs.Common.{◌≡◌, ◌+◌, ◌≤◌, ℕ, true, arith}
use Rattle.qg_super.specs.declared.sizes.Sizes.{Sizes}
use Rattle.qg_super.specs.Places.{is_served, is_slot, total_bytes}
use Rattle.qg_super.proofs.Served.{SizesFit-is_served}
use Rattle.qg_super.proofs.Slots.{slot_ends}

-- a slot ends before the data area
pub slot_inside : (sizes : Sizes) (address : ℕ) → is_served sizes ≡ true → is_slot sizes address ≡ true
    → address + sizes.nodesize ≤ total_bytes sizes
slot_inside sizes address served slot = omega (arith, slot_ends sizes address (SizesFit-is_served sizes served) slot)
