-- What two calls leave, one after the other, and what a call leaves that reads.
use Rattle.std.proofs.Common.{◌≡◌, ℕ, refl, ◌∙◌}
use Rattle.std.specs.Prelude.{List, Result, Ok, Err, IsOk}
use Rattle.qg_device.specs.History.{History}
use Rattle.qg_num.specs.declared.fault.BlockFault.{BlockFault}
use Rattle.qg_num.specs.declared.fault.BlockFault.TheVariants.{NoMemory, Disk, Image}
use Rattle.qg_num.specs.declared.rule.Rule.{Rule}
use Rattle.qg_node.specs.declared.node.Node.{Node}
use Rattle.qg_blocks.specs.NodesInMemory.{Held}
use Rattle.qg_blocks.specs.NodesFound.{Answers, BreaksNone, StaysBacked}
use Rattle.qg_node_alloc.specs.declared.ground.Ground.{Ground}
use Rattle.qg_node_alloc.specs.Calls.{LeavesBe}
use Rattle.qg_node_alloc.specs.Land.{IsDrafted, Rests}
use Rattle.qg_node_alloc.proofs.Lands.{Rests-after, Rests-draft}

-- what two steps leave so
pub LeavesBe-after : (old mid new : Ground) (before then after : History) (bytes held left generation : ℕ)
    → LeavesBe old mid before then bytes held generation → LeavesBe mid new then after held left generation
    → LeavesBe old new before after bytes left generation
LeavesBe-after old mid new before then after bytes held left generation one two = record {
  rests = Rests-after old mid new then after generation one.rests two.rests;
  history = two.history ∙ one.history;
  size = two.size ∙ one.size;
}

-- and where the second one comes to nodes and space alone
pub LeavesBe-with : (old mid new : Ground) (before after : History) (bytes left generation : ℕ)
    → LeavesBe old mid before after bytes left generation → Rests mid new after generation
    → LeavesBe old new before after bytes left generation
LeavesBe-with old mid new before after bytes left generation one rests =
    LeavesBe-after old mid new before after after bytes left left generation one
    (record { rests = rests; history = refl; size = refl })

-- a node was read
pub LeavesBe-read : (land : Ground) (new : Held) (before after : History) (bytes left generation : ℕ)
    → StaysBacked land.blocks new after → (after ≡ before) × (left ≡ bytes) → IsDrafted land generation
    → LeavesBe land (record land { blocks = new }) before after bytes left generation
LeavesBe-read land new before after bytes left generation stays disk drafted = record {
  rests = Rests-draft land (record land { blocks = new }) after generation stays.draft stays.bound refl stays.backed
      drafted;
  history = disk.0;
  size = disk.1;
}

-- a node is there, and a call that comes to it names no rule
pub Answers-sound : {A : Type 0} (result : Result A BlockFault) (at : ℕ) (wanted : Result Node Rule) → IsOk wanted
    → BreaksNone result → Answers result at wanted
Answers-sound (Ok x) at wanted ok none = ok
Answers-sound (Err (Image rule address)) at wanted ok none = absurd none
Answers-sound (Err Disk) at wanted ok none = tt
Answers-sound (Err NoMemory) at wanted ok none = tt
