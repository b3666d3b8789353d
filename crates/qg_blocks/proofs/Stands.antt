-- What stands at an address, by what was read there.
use Rattle.std.proofs.Common.{◌≡◌, ℕ, ◌+◌, ◌≤◌, true, false, List, length, refl}
use Rattle.std.proofs.lemmas.Bool.{and_parts, leb-true}
use Rattle.std.specs.Prelude.{Result, Err, nat_le}
use Rattle.qg_device.specs.History.{range}
use Rattle.qg_num.specs.declared.rule.Rule.TheVariants.{Slot}
use Rattle.qg_node.specs.declared.node.Node.{Node}
use Rattle.qg_node.specs.declared.fault.NodeFault.{NodeFault}
use Rattle.qg_node.specs.Reading.{node_read}
use Rattle.qg_super.specs.declared.sizes.Sizes.{Sizes}
use Rattle.qg_super.specs.Places.{is_slot}
use Rattle.qg_blocks.specs.Standing.{has_slot, ruled, standing}

-- what an address with a slot inside some bytes is
pub record HasSlot (sizes : Sizes) (bytes address : ℕ) : Type 0 where
  pub slot : is_slot sizes address ≡ true
  pub inside : address + sizes.nodesize ≤ bytes

pub HasSlot-has_slot : (sizes : Sizes) (bytes address : ℕ) → has_slot sizes bytes address ≡ true
    → HasSlot sizes bytes address
unfolding has_slot
HasSlot-has_slot sizes bytes address has =
    let parts = and_parts (is_slot sizes address) (nat_le (address + sizes.nodesize) bytes) has in
    record { slot = parts.0; inside = leb-true (address + sizes.nodesize) bytes parts.1 }

-- where there is no slot, rule `slot` is broken
pub standing-nowhere : (sizes : Sizes) (bytes address : ℕ) (image : List ℕ) → bytes ≡ length image
    → has_slot sizes bytes address ≡ false
    → standing sizes image address ≡ Err Slot
unfolding standing
standing-nowhere sizes bytes address image long none = let none' = rw long at none in rw none' refl

-- in a slot stands what its bytes are read as
pub standing-read : (sizes : Sizes) (bytes address : ℕ) (image text : List ℕ) (read : Result Node NodeFault)
    → bytes ≡ length image → has_slot sizes bytes address ≡ true
    → text ≡ range address sizes.nodesize image → node_read address text ≡ read
    → standing sizes image address ≡ ruled read
unfolding standing
standing-read sizes bytes address image text read long has same is =
    let has' = rw long at has in let is' = rw same at is in rw (has', is') refl
