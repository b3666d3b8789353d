-- What was read in a slot of an image is what is found there.
use Rattle.std.proofs.Common.{◌≡◌, ℕ, ◌+◌, ◌-◌, true, false, List, arith, refl, sym, ap, ◌∙◌, take, drop}
use Rattle.std.specs.Prelude.{Result, Err, slice_range}
use Rattle.qg_device.specs.History.{range}
use Rattle.qg_num.specs.declared.rule.Rule.TheVariants as rule
use Rattle.qg_node.specs.declared.node.Node.{Node}
use Rattle.qg_node.specs.declared.fault.NodeFault.{NodeFault}
use Rattle.qg_node.specs.Reading.{node_read}
use Rattle.qg_super.specs.declared.superblock.Super.{Super}
use Rattle.qg_super.specs.Places.{is_slot}
use Rattle.qg_super.specs.SuperText.{sizes_of}
use Rattle.qg_image.specs.declared.failure.Failure.TheVariants.{Broken}
use Rattle.qg_image.specs.Walk.{node_found, read_there}

pub node_found-no_slot : (super : Super) (image : List ℕ) (address : ℕ) → is_slot (sizes_of super) address ≡ false
    → node_found super image address ≡ Err (Broken rule.Slot address)
unfolding node_found
node_found-no_slot super image address none = rw none refl

slice_range-range : (image bytes : List ℕ) (address n m : ℕ) → bytes ≡ range address n image → n ≡ m
    → slice_range image address (address + m) ≡ bytes
slice_range-range image bytes address n m same long =
    let size : (address + m) - address ≡ n = omega arith in ap (λ (k : ℕ). take k (drop address image)) size ∙ sym same

pub node_found-read : (super : Super) (image bytes : List ℕ) (address n : ℕ) (read : Result Node NodeFault)
    → is_slot (sizes_of super) address ≡ true
    → bytes ≡ range address n image → n ≡ super.nodesize → node_read address bytes ≡ read
    → node_found super image address ≡ read_there address read
unfolding node_found
node_found-read super image bytes address n read slot same long is =
    rw slot (rw (slice_range-range image bytes address n super.nodesize same long) (rw is refl))
