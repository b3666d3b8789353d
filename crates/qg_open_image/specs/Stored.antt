-- A store as its callers see it (this project's own).
use Rattle.std.specs.Prelude.{◌≡◌, ◌⊎◌, ℕ, ◌+◌, ◌<◌, ◌≤◌, Bool, true, false, not, List, Option, None, Some}
use Rattle.std.specs.Prelude.{IfErr, IfOk, IsTrue, Result, Ok, Err}
use Rattle.qg_device.specs.History.{Event, History, Recorded, history_after}
use Rattle.qg_num.specs.declared.answer.Answer.{Answer}
use Rattle.qg_num.specs.declared.command.Command.{Command}
use Rattle.qg_num.specs.declared.command.Command.TheVariants.{Commit}
use Rattle.qg_num.specs.declared.fault.BlockFault.{BlockFault}
use Rattle.qg_num.specs.declared.fault.BlockFault.TheVariants as fault
use Rattle.qg_num.specs.declared.fault.Stop.{Stop}
use Rattle.qg_num.specs.declared.fault.Stop.TheVariants.{NoMemory, Disk, Image, Aborted}
use Rattle.qg_node.specs.declared.node.Node.{Node}
use Rattle.qg_super.specs.declared.sizes.Sizes.{Sizes}
use Rattle.qg_super.specs.Places.{total_bytes}
use Rattle.qg_super.specs.SuperText.{sizes_of}
use Rattle.qg_image.specs.State.{State}
use Rattle.qg_machine.specs.Refusals.{is_pending}
use Rattle.qg_blocks.specs.NodesFound.{IsBacked}
use Rattle.qg_fs_laws.specs.Calls.{with_commit}
use Rattle.qg_open_image.specs.declared.open_image.OpenImage.{OpenImage}
use Rattle.qg_open_image.specs.Answering.{AnswersOn, IsDoneSoFar, comes_to_disk, is_structural}
use Rattle.qg_open_image.specs.Keeping.{IsFitted, IsKeptOf, SameButClean}
use Rattle.qg_open_image.specs.Making.{MadeFirst, StopsCommit, StopsSecond}

-- what it keeps, and why it stopped, if it did
pub record Stored : Type 0 where
  pub kept : OpenImage
  pub stopped : Option BlockFault

-- as long as it has not stopped, what it keeps fits together
abbrev pub IsStore : Stored → Type 0
IsStore store = store.stopped ≡ None → IsFitted store.kept

-- as long as it has not stopped, its clean nodes are those of the disk: a disk that tells is as the last call left it
abbrev pub IsStoreOver : Stored → History → Type 0
IsStoreOver store history = store.stopped ≡ None → IsBacked store.kept.fs.land.blocks history

-- it has not stopped, and over a disk with this history it keeps this state
pub record IsStoreOf (store : Stored) (state : State) (history : History) : Type 0 where
  pub running : store.stopped ≡ None
  pub keeps : IsKeptOf store.kept state history

-- a store is the same, but for its clean nodes
pub record IsUnchanged (old new : Stored) : Type 0 where
  pub stopped : new.stopped ≡ old.stopped
  pub kept : SameButClean old.kept new.kept

-- a command comes to the disk in a store that has not stopped: a commit where something is pending, or a structural one
pub record ComesToDisk (store : Stored) (command : Command) : Type 0 where
  pub running : store.stopped ≡ None
  pub commits : IsTrue (comes_to_disk command)
  pub some : command ≡ Commit → 0 < store.kept.pending

-- the sizes of its image
abbrev pub sizes_stored : Stored → Sizes
sizes_stored store = sizes_of store.kept.superblock

-- a store has not stopped, its disk, where that tells, is as the store left it, and its disk of so many bytes has all
-- of its image
pub record IsReady (store : Stored) (history : History) (size : ℕ) : Type 0 where
  pub running : store.stopped ≡ None
  pub backed : IsStoreOver store history
  pub long : total_bytes (sizes_stored store) ≤ size

-- A store goes on over a disk of so many bytes, before and now: that, where it tells, is as the store left it, and is
-- no shorter; and the sizes of the store's image stay
pub record GoesOn (old new : Stored) (history : History) (before now : ℕ) : Type 0 where
  pub backed : IsStoreOver new history
  pub sizes : sizes_stored new ≡ sizes_stored old
  pub no_less : before ≤ now

-- The last commit is the one before: the superblock is the same, and a disk that tells what it held says that none was
-- made whole since
pub record StaysLast (Unmade : State → List Event → History → Type 0) (old new : OpenImage)
    (before after : History) : Type 0
  where
    pub superblock : new.superblock ≡ old.superblock
    pub unmade : (state : State) (events : List Event) → IsKeptOf old state before → before ≡ Recorded events
        → Unmade state events after

-- nothing was done, or the calls of a commit of what was pending came so far, and its last sync is not among them
abbrev pub StopsPending : State → List Event → History → Type 0
StopsPending state events history = (history ≡ Recorded events) ⊎ StopsCommit state events history

-- or nothing was pending, and so far came the calls of the commit of what a structural command changed
abbrev pub StopsFirst : Command → State → List Event → History → Type 0
StopsFirst command state events history =
    StopsPending state events history ⊎ (IsTrue (not (is_pending state)) × StopsSecond state command events history)

-- The last commit is the first of the two that a structural command makes: something was pending, and is committed, as
-- the next generation. A disk that tells what it held was given all calls of that commit, and of the second none, or
-- some and not the last sync
pub record HasMadeFirst (command : Command) (old new : OpenImage) (before after : History) : Type 0 where
  pub structural : IsTrue (is_structural command)
  pub some : 0 < old.pending
  pub next : new.superblock.generation ≡ old.superblock.generation + 1
  pub given : (state : State) (events : List Event) → IsKeptOf old state before → before ≡ Recorded events
      → MadeFirst state events after ⊎ StopsSecond state command events after

-- The first of the two commits that a structural command makes was made whole, and nothing else was done: something was
-- pending, and is committed
pub record HasMadeFirstAlone (command : Command) (old new : OpenImage) (before after : History) : Type 0 where
  pub structural : IsTrue (is_structural command)
  pub some : 0 < old.pending
  pub nodes : List Node
  pub calls : after ≡ history_after (with_commit new.superblock nodes) before

-- What was read stops a command before it does anything to a disk, told or not, but for that first commit
abbrev pub IsIntact : Command → OpenImage → OpenImage → History → History → Type 0
IsIntact command old new before after = (after ≡ before) ⊎ HasMadeFirstAlone command old new before after

-- the last commit is known still: it is the one before a command, or the first of the two of a structural one
abbrev pub KnowsLast : Command → OpenImage → OpenImage → History → History → Type 0
KnowsLast command old new before after =
    StaysLast (StopsFirst command) old new before after ⊎ HasMadeFirst command old new before after

-- a store stops for a fault, over a disk with these histories before a command and now, and knows the last commit still
pub record StopsBy (cause : BlockFault) (command : Command) (old new : Stored) (before after : History)
    : Type 0 where
  pub running : old.stopped ≡ None
  pub stopped : new.stopped ≡ Some cause
  pub last : KnowsLast command old.kept new.kept before after

-- a command stops a store, or finds that it has stopped
abbrev pub Stops : Stop → Command → Stored → Stored → History → History → Type 0
Stops (Aborted cause) command old new before after = (old.stopped ≡ Some cause) × (new ≡ old)
Stops NoMemory command old new before after = StopsBy fault.NoMemory command old new before after
Stops Disk command old new before after = StopsBy fault.Disk command old new before after
Stops (Image rule address) command old new before after =
    StopsBy (fault.Image rule address) command old new before after

-- a store that answers was running, and is so still; else it stops
abbrev pub RunsOrStops : Result Answer Stop → Command → Stored → Stored → History → History
    → Type 0
RunsOrStops (Ok answer) command old new before after = (old.stopped ≡ None) × (new.stopped ≡ None)
RunsOrStops (Err stop) command old new before after = Stops stop command old new before after

-- a store stops for a rule that the image breaks
abbrev pub is_of_image : Stop → Bool
is_of_image (Image rule address) = true
is_of_image _ = false

-- a store finds that it has stopped
abbrev pub is_aborted : Stop → Bool
is_aborted (Aborted cause) = true
is_aborted _ = false

-- A store of a state does a command as the machine does, over a disk that told this before: the answer is the
-- machine's, and the disk was made to hold what the machine commits; whatever is answered, nothing else was done than
-- calls of a commit that the machine does; and no rule of the image is found broken
pub record DoesCommand (state : State) (command : Command) (events : List Event) (after : History)
    (result : Result Answer Stop) (kept : OpenImage) : Type 0 where
  pub step : IfOk result (λ answer. AnswersOn state command answer kept events after)
  pub so_far : IsDoneSoFar state command events after
  pub sound : IfErr result (λ stop. is_of_image stop ≡ false)
