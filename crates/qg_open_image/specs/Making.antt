-- What commits do to a disk (this project's own).
use Rattle.std.specs.Prelude.{◌≡◌, ℕ, All, IsTrue, List, [], ◌∷◌}
use Rattle.std.specs.List.Sorted.{IsPermutation}
use Rattle.qg_device.specs.History.{Event, History, Recorded, Moment, content}
use Rattle.qg_num.specs.declared.answer.Answer.{Answer}
use Rattle.qg_num.specs.declared.answer.Answer.TheVariants as answer
use Rattle.qg_num.specs.declared.command.Command.{Command}
use Rattle.qg_num.specs.declared.command.Command.TheVariants as command
use Rattle.qg_node.specs.declared.node.Node.{Node}
use Rattle.qg_super.specs.declared.superblock.Super.{Super}
use Rattle.qg_super.specs.SuperText.{is_super, sizes_of}
use Rattle.qg_image.specs.Counts.{StoresCounts}
use Rattle.qg_image.specs.State.{Committed, State}
use Rattle.qg_machine.specs.Step.{Changes, Commits, CommitsPending, Step}
use Rattle.qg_machine.specs.Written.{new_nodes}
use Rattle.qg_image.specs.StateOf.{StateOf}
use Rattle.qg_crashes.specs.Slots.{IsInSlot}
use Rattle.qg_fs_laws.specs.Calls.{Call, MadeFront, commit_calls, unsure_calls, with_commit}

-- an image is sound, and stands for a committed state, each of whose groups stores the counters that are due
pub record IsCommitted (state : State) (image : List ℕ) : Type 0 where
  pub stands : StateOf image state
  pub counted : StoresCounts state

-- These are the superblock and the nodes of a commit that comes to a state, where so much was held before. The
-- superblock may be written and is of the state's sizes; each node lies in a slot; and the nodes are those of the state
-- that were not held, in some order. Once all the commit's calls are made, the disk holds the state.
pub record BringsTo (held : Committed) (state : State) (before : List Event) (super : Super)
    (nodes : List Node) : Type 0 where
  pub superblock : IsTrue (is_super super)
  pub sizes : sizes_of super ≡ state.sizes
  pub in_slots : All (IsInSlot super) nodes
  pub written : IsPermutation nodes (new_nodes held state)
  pub committed : IsCommitted state (content (with_commit super nodes before))

-- The calls of commits that come to these states, the earliest first, where so much was held before, and no others: of
-- each its new nodes, a sync, the first superblock, a sync, the second superblock, a sync.
abbrev pub Makes : Committed → List State → List Event → List Event → Type 0
Makes held [] before after = after ≡ before
Makes held (state ∷ states) before after =
    (super : Super) × (nodes : List Node) × BringsTo held state before super nodes
    × Makes state.held states (with_commit super nodes before) after

-- a disk was made to hold these commits, one after the other, and nothing else was done to it
pub record MadeCommits (held : Committed) (commits : List State) (before : List Event)
    (history : History) : Type 0 where
  pub after : List Event
  pub told : history ≡ Recorded after
  pub made : Makes held commits before after

-- of the calls of a commit that the machine does, these came so far
pub record CommitsSoFar (calls : Super → List Node → List Call) (old : State) (events : List Event) (history : History)
    : Type 0 where
  pub new : State
  pub step : Step old command.Commit (answer.Commit new.generation) (new ∷ []) new
  pub super : Super
  pub nodes : List Node
  pub brings : BringsTo old.held new events super nodes
  pub made : MadeFront (calls super nodes) events history

-- the calls of a commit that the machine does came so far
abbrev pub StartsCommit : State → List Event → History → Type 0
StartsCommit old events history = CommitsSoFar commit_calls old events history

-- and its last sync is not among them
abbrev pub StopsCommit : State → List Event → History → Type 0
StopsCommit old events history = CommitsSoFar unsure_calls old events history

-- What was pending is committed, by calls that a disk was given, and no more was done
pub record MadeFirst (old : State) (events : List Event) (history : History) : Type 0 where
  pub before : State
  pub earlier : List State
  pub first : CommitsPending old earlier before
  pub between : List Event
  pub told : history ≡ Recorded between
  pub made : Makes old.held earlier events between

-- What was pending is committed, a structural command made its change, and of the calls of a commit of that these came
-- so far
pub record SecondSoFar (calls : Super → List Node → List Call) (old : State) (given : Command) (events : List Event)
    (history : History) : Type 0
  where
    pub before : State
    pub earlier : List State
    pub first : CommitsPending old earlier before
    pub between : List Event
    pub made_first : Makes old.held earlier events between
    pub reply : Answer
    pub changed : State
    pub changes : Changes before given reply changed
    pub new : State
    pub second : Commits changed new
    pub super : Super
    pub nodes : List Node
    pub brings : BringsTo changed.held new between super nodes
    pub made : MadeFront (calls super nodes) between history

-- the calls of the second commit came so far
abbrev pub StartsSecond : State → Command → List Event → History → Type 0
StartsSecond old given events history = SecondSoFar commit_calls old given events history

-- and its last sync is not among them
abbrev pub StopsSecond : State → Command → List Event → History → Type 0
StopsSecond old given events history = SecondSoFar unsure_calls old given events history

-- commits of these states, the earliest first, made sure of what a disk held three times each, the newest first: each
-- third time it is the state committed
abbrev pub AreSynced : List State → List Moment → List Moment → Type 0
AreSynced [] before after = after ≡ before
AreSynced (state ∷ states) before after =
    (first : Moment) × (second : Moment) × (third : Moment) × IsCommitted state third.content
    × AreSynced states (third ∷ second ∷ first ∷ before) after
