-- Where node slots lie, and how many there are. Addresses are in bytes.
use Rattle.std.proofs.Common.{◌≡◌, ℕ, ◌<◌, ◌≤◌, true, List, length, arith}
use Rattle.std.specs.Prelude.{IsTrue}
use Rattle.std.specs.List.{All}
use Rattle.std.specs.List.Sorted.{IsStrictlyIncreasing}
use Rattle.std.proofs.lemmas.List.Elements.{All-weaker}
use Rattle.std.proofs.lemmas.Map.Keys.{sorted_from_strictly_increasing}
use Rattle.std.proofs.lemmas.Map.Views.{length-le_from_below}
use Rattle.qg_super.specs.declared.sizes.Sizes.{Sizes}
use Rattle.qg_super.specs.Places.{data_begin, is_served, is_slot}
use Rattle.qg_super.proofs.Served.{SizesFit-is_served}
use Rattle.qg_super.proofs.Slots.{slot_ends}

-- a slot begins before the data area
pub slot_below : (sizes : Sizes) (address : ℕ) → is_served sizes ≡ true → is_slot sizes address ≡ true
    → address < data_begin
slot_below sizes address served is = omega (arith, slot_ends sizes address (SizesFit-is_served sizes served) is)

-- slots that ascend are few
pub slots_few : (sizes : Sizes) (nodes : List ℕ) → is_served sizes ≡ true
    → All (λ node. IsTrue (is_slot sizes node)) nodes → IsStrictlyIncreasing nodes → length nodes ≤ data_begin
slots_few sizes nodes served slots ascend =
    length-le_from_below data_begin nodes (sorted_from_strictly_increasing nodes ascend)
    (All-weaker (λ node. IsTrue (is_slot sizes node)) (λ node. node < data_begin)
    (λ node is. slot_below sizes node served is) nodes slots)
