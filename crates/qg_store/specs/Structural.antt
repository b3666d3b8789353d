-- Why a structural command is refused at last, and what it finds that was pending (this project's own).
use Rattle.std.specs.Prelude.{◌⊎◌, ◌+◌, ◌≡◌, ℕ, ◌<◌, List, [], ◌∷◌, OnOk, Option, Result, nat_lt}
use Rattle.qg_device.specs.History.{Event, History, Recorded, history_after}
use Rattle.qg_num.specs.declared.fault.BlockFault.{BlockFault}
use Rattle.qg_num.specs.declared.refusal.Refusal.{Refusal}
use Rattle.qg_num.specs.declared.refusal.Refusal.TheVariants as why
use Rattle.qg_node.specs.declared.node.Node.{Node}
use Rattle.qg_image.specs.ItemMeaning.{first_some}
use Rattle.qg_image.specs.State.{State}
use Rattle.qg_machine.specs.Refusals.{last_generation, refuse}
use Rattle.qg_machine.specs.Step.{CommitsPending}
use Rattle.qg_qgroups.specs.Tracked.{SameButCounts, quota_of}
use Rattle.qg_super.specs.SuperText.{sizes_of}
use Rattle.qg_blocks.specs.Stopping.{StopsForCause}
use Rattle.qg_blocks.specs.NodesFound.{IfBroken}
use Rattle.qg_space.specs.Holding.{free_slots}
use Rattle.qg_image_commits.specs.Calls.{with_commit}
use Rattle.qg_image_commits.specs.Types.{OpenImage}
use Rattle.qg_image_commits.specs.Keeping.{IsKeptOf, structural_need_of}
use Rattle.qg_image_commits.specs.Making.{Makes, StartsCommit}

-- ---- why a command is refused at last

-- the first that holds of the last two, where the change may copy so many nodes
abbrev pub commit_refusal : OpenImage → ℕ → Option Refusal
commit_refusal kept copies = first_some
    (refuse (nat_lt last_generation kept.superblock.generation) why.NoGeneration
    ∷ refuse (nat_lt (free_slots kept.fs.land.space) (structural_need_of kept copies))
    (why.NoNodes (free_slots kept.fs.land.space) (structural_need_of kept copies))
    ∷ [])

-- ---- what is done first

-- nothing was done, or the calls of a commit of what was pending came so far
abbrev pub IsDoneFirst : State → List Event → History → Type 0
IsDoneFirst old events history = (history ≡ Recorded events) ⊎ StartsCommit old events history

-- Over a disk that tells or not: where nothing was pending, nothing was done; else all calls of a commit, or none where
-- a rule of the image was found broken; and a rule is named only for a cause
pub record CallsPending (old new : OpenImage) (before after : History) (bytes : ℕ) (result : Result Unit BlockFault)
    : Type 0 where
  pub none : old.pending ≡ 0 → after ≡ before
  pub calls : OnOk result (0 < old.pending → (nodes : List Node)
      × (after ≡ history_after (with_commit new.superblock nodes) before))
  pub intact : IfBroken result (after ≡ before)
  pub cause : StopsForCause result (sizes_of old.superblock) bytes

-- ---- what was pending

-- Nothing is pending any more, subvolumes are the same, groups too but for their counts, the same one's tree is at
-- hand, and the last commit is the one before or, where something was pending, the next
pub record IsSettledFrom (old new : OpenImage) : Type 0 where
  pub pending : new.pending ≡ 0
  pub snapshots : new.snapshots ≡ old.snapshots
  pub groups : SameButCounts (quota_of old.quota) (quota_of new.quota)
  pub owner : new.fs.tree.owner ≡ old.fs.tree.owner
  pub last : ((old.pending ≡ 0) × (new.superblock ≡ old.superblock))
      ⊎ (0 < old.pending) × (new.superblock.generation ≡ old.superblock.generation + 1)

-- What was pending of a state is committed, by calls that the disk was given, and what is kept is that of the state
-- afterwards
pub record HasCommitted (old : State) (kept : OpenImage) (events : List Event) (history : History) : Type 0 where
  pub before : State
  pub earlier : List State
  pub first : CommitsPending old earlier before
  pub keeps : IsKeptOf kept before history
  pub between : List Event
  pub told : history ≡ Recorded between
  pub made : Makes old.held earlier events between
