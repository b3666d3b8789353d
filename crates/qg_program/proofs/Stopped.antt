-- Why a session stops, by why its store does.
use Rattle.std.proofs.Common.{◌≡◌, true, List, ℕ, refl}
use Rattle.qg_device.specs.History.{History}
use Rattle.qg_num.specs.declared.command.Command.{Command}
use Rattle.qg_num.specs.declared.fault.Stop.{Stop}
use Rattle.qg_num.specs.declared.fault.Stop.TheVariants.{Aborted, Disk, Image, NoMemory}
use Rattle.qg_image.specs.declared.failure.Failure.TheVariants.{Broken}
use Rattle.qg_super.specs.declared.sizes.Sizes.{Sizes}
use Rattle.qg_store.specs.Stopping.{HasStopCause}
use Rattle.qg_store.specs.Stored.{Stops, Stored, is_of_image}
use Rattle.qg_program.specs.Putting.{TellsFailure, TellsStop, TellsWhy}

-- it names a rule
pub tells-image : (stop : Stop) (bytes : List ℕ) → TellsStop stop bytes → is_of_image stop ≡ true
tells-image (Image rule address) bytes tells = refl
tells-image NoMemory bytes tells = absurd tells
tells-image Disk bytes tells = absurd tells
tells-image (Aborted cause) bytes tells = absurd tells

-- its line is that of a failure
pub tells-failure : (stop : Stop) (bytes : List ℕ) → TellsStop stop bytes → TellsFailure bytes
tells-failure (Image rule address) bytes tells = record { failure = Broken rule address; told = tells }
tells-failure NoMemory bytes tells = absurd tells
tells-failure Disk bytes tells = absurd tells
tells-failure (Aborted cause) bytes tells = absurd tells

-- and that of what the store stopped for, for a cause
pub tells-why : (stop : Stop) (bytes : List ℕ) (command : Command) (old new : Stored) (before after : History)
    (sizes : Sizes) (size : ℕ) → Stops stop command old new before after → HasStopCause sizes size stop
    → TellsStop stop bytes → TellsWhy sizes size new.stopped bytes
tells-why (Image rule address) bytes command old new before after sizes size stops has tells = record {
  rule = rule;
  address = address;
  cause = stops.stopped;
  named = has;
  told = tells;
}
tells-why NoMemory bytes command old new before after sizes size stops has tells = absurd tells
tells-why Disk bytes command old new before after sizes size stops has tells = absurd tells
tells-why (Aborted cause) bytes command old new before after sizes size stops has tells = absurd tells
