-- What a store has done that stops by what was read, and why it names a rule (this project's own).
use Rattle.std.specs.Prelude.{⊤, ℕ, IfErr, IsTrue, Result}
use Rattle.qg_device.specs.History.{History}
use Rattle.qg_num.specs.declared.answer.Answer.{Answer}
use Rattle.qg_num.specs.declared.command.Command.{Command}
use Rattle.qg_num.specs.declared.fault.BlockFault.{BlockFault}
use Rattle.qg_num.specs.declared.fault.Stop.{Stop}
use Rattle.qg_num.specs.declared.fault.Stop.TheVariants.{Aborted, Disk, Image, NoMemory}
use Rattle.qg_super.specs.declared.sizes.Sizes.{Sizes}
use Rattle.qg_super.specs.SuperText.{sizes_of}
use Rattle.qg_blocks.specs.Stopping.{IsStopCause, StopsForCause}
use Rattle.qg_blocks.specs.NodesFound.{IfBroken}
use Rattle.qg_image_commits.specs.Types.{OpenImage}
use Rattle.qg_image_commits.specs.Stored.{IsIntact, Stored, is_of_image}

-- A command that finds a rule broken has done nothing to a disk of so many bytes, but for the first of the two commits
-- of a structural command; and rule and address are named for a cause
pub record StopsByRead (result : Result Answer BlockFault) (command : Command) (old new : OpenImage)
    (before after : History) (bytes : ℕ) : Type 0 where
  pub intact : IfBroken result (IsIntact command old new before after)
  pub cause : StopsForCause result (sizes_of old.superblock) bytes

-- a store stops for a rule at an address only for such a cause
abbrev pub HasStopCause : Sizes → ℕ → Stop → Type 0
HasStopCause sizes bytes (Image rule at) = IsStopCause sizes bytes rule at
HasStopCause sizes bytes Disk = ⊤
HasStopCause sizes bytes NoMemory = ⊤
HasStopCause sizes bytes (Aborted cause) = ⊤

-- A store that stops for a rule that is broken has done no more to the disk than that, and has that cause
pub record StopsStore (result : Result Answer Stop) (command : Command) (old new : Stored) (before after : History)
    (bytes : ℕ) : Type 0 where
  pub intact : IfErr result (λ stop. IsTrue (is_of_image stop) → IsIntact command old.kept new.kept before after)
  pub cause : IfErr result (HasStopCause (sizes_of old.kept.superblock) bytes)
