-- Why a command names a rule, over any disk, by the sizes that the superblock tells.
use Rattle.std.proofs.Common.{◌≡◌, ◌∙◌, ◌≤◌, ℕ, ap, refl, subst, sym}
use Rattle.std.specs.Prelude.{Err, IsErrAnd, Result}
use Rattle.qg_device.specs.History.{History}
use Rattle.qg_num.specs.Fault.{stop_of}
use Rattle.qg_num.specs.declared.answer.Answer.{Answer}
use Rattle.qg_num.specs.declared.command.Command.{Command}
use Rattle.qg_num.specs.declared.fault.BlockFault.{BlockFault}
use Rattle.qg_num.specs.declared.fault.BlockFault.TheVariants.{Disk, Image, NoMemory}
use Rattle.qg_super.specs.declared.sizes.Sizes.{Sizes}
use Rattle.qg_super.specs.declared.superblock.Super.{Super}
use Rattle.qg_super.specs.SuperText.{sizes_of}
use Rattle.qg_blocks.specs.Stopping.{StopsForCause}
use Rattle.qg_blocks.proofs.Stopping.{stops-err}
use Rattle.qg_image_commits.specs.Types.{OpenImage}
use Rattle.qg_image_commits.specs.Keeping.{IsFitted}
use Rattle.qg_image_commits.proofs.Stopped.{later-err, stops-stored}
use Rattle.qg_store.specs.Stopping.{HasStopCause, StopsByRead}

-- before what was pending is committed
pub first-stored : (A : Type 0) {B : Type 0} (result : Result B BlockFault) (fault : BlockFault) (old mid : OpenImage)
    (bytes : ℕ) → IsErrAnd result (λ given. given ≡ fault) → IsFitted mid → mid.superblock ≡ old.superblock
    → StopsForCause {A = A} (Err fault) mid.fs.land.blocks.draft.sizes bytes
    → StopsForCause result (sizes_of old.superblock) bytes
first-stored A result fault old mid bytes is fitted same stops =
    stops-err A result fault (sizes_of mid.superblock) (sizes_of old.superblock) bytes bytes is
    (ap (λ (s : Super). sizes_of s) same) refl (stops-stored {A = A} (Err fault) mid bytes fitted stops)

-- while it is
pub pending-stored : (A : Type 0) {B : Type 0} (result : Result B BlockFault) (fault : BlockFault) (old mid : OpenImage)
    (bytes left : ℕ) → IsErrAnd result (λ given. given ≡ fault) → mid.superblock ≡ old.superblock → left ≡ bytes
    → StopsForCause {A = A} (Err fault) (sizes_of mid.superblock) left
    → StopsForCause result (sizes_of old.superblock) bytes
pending-stored A result fault old mid bytes left is same size stops =
    stops-err A result fault (sizes_of mid.superblock) (sizes_of old.superblock) left bytes is
    (ap (λ (s : Super). sizes_of s) same) size stops

-- in the change behind it: the disk may have grown
pub change-stored : (A : Type 0) {B : Type 0} (result : Result B BlockFault) (fault : BlockFault)
    (old base mid : OpenImage) (bytes left after : ℕ) → IsErrAnd result (λ given. given ≡ fault) → IsFitted mid
    → base.superblock ≡ old.superblock → sizes_of mid.superblock ≡ sizes_of base.superblock → left ≡ bytes
    → left ≤ after → StopsForCause {A = A} (Err fault) mid.fs.land.blocks.draft.sizes after
    → StopsForCause result (sizes_of old.superblock) bytes
change-stored A result fault old base mid bytes left after is fitted same sizes size longer stops =
    later-err A result fault old mid bytes after is fitted (sizes ∙ ap (λ (s : Super). sizes_of s) same)
    (subst (λ (n : ℕ). n ≤ after) size longer) stops

-- in the commit behind the change
pub second-stored : (A : Type 0) {B : Type 0} (result : Result B BlockFault) (fault : BlockFault)
    (old base mid new : OpenImage) (bytes left between after : ℕ) → IsErrAnd result (λ given. given ≡ fault)
    → IsFitted new
    → base.superblock ≡ old.superblock → sizes_of mid.superblock ≡ sizes_of base.superblock
    → new.superblock ≡ mid.superblock → left ≡ bytes → left ≤ between → after ≡ between
    → StopsForCause {A = A} (Err fault) new.fs.land.blocks.draft.sizes after
    → StopsForCause result (sizes_of old.superblock) bytes
second-stored A result fault old base mid new bytes left between after is fitted same sizes kept size longer still
    stops =
    change-stored A result fault old base new bytes left between is fitted same
    (ap (λ (s : Super). sizes_of s) kept ∙ sizes) size longer
    (subst (λ (n : ℕ). StopsForCause {A = A} (Err fault) new.fs.land.blocks.draft.sizes n) still stops)

-- where memory was refused
pub read-memory : (result : Result Answer BlockFault) (command : Command) (old new : OpenImage) (before after : History)
    (bytes : ℕ) → result ≡ Err NoMemory → StopsByRead result command old new before after bytes
read-memory result command old new before after bytes is =
    subst (λ (r : Result Answer BlockFault). StopsByRead r command old new before after bytes) (sym is)
    (record { intact = tt; cause = tt })

-- what a store stops for
pub cause-of-stop : (fault : BlockFault) (sizes : Sizes) (bytes : ℕ)
    → StopsForCause {A = Answer} (Err fault) sizes bytes → HasStopCause sizes bytes (stop_of fault)
cause-of-stop NoMemory sizes bytes stops = tt
cause-of-stop Disk sizes bytes stops = tt
cause-of-stop (Image rule address) sizes bytes stops = stops
