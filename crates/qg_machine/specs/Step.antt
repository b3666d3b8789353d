-- One step of the machine: from a state a command may give this answer, make these commits, and leave this state (this
-- project's own).
use Rattle.std.specs.Prelude.{◌≡◌, ℕ, false, List, [], ◌∷◌, ◌++◌, map, Option, Some, None, IsTrue, ◌==◌, MatchBool}
use Rattle.std.specs.Prelude.{MatchOption, if◌then◌else◌}
use Rattle.std.specs.List.{AllByRecursion, IsDistinct, filter}
use Rattle.std.specs.Option.{option_map}
use Rattle.qg_num.specs.declared.answer.Answer.{Answer}
use Rattle.qg_num.specs.declared.answer.Answer.TheVariants as answer
use Rattle.qg_num.specs.declared.answer.Row.{Row}
use Rattle.qg_num.specs.declared.command.Command.{Command}
use Rattle.qg_num.specs.declared.command.Command.TheVariants as command
use Rattle.qg_node.specs.declared.node.Node.{Node}
use Rattle.qg_node.specs.declared.node.Node.TheVariants.{Leaf, Inner}
use Rattle.qg_image.specs.Table.{with_value, without_key}
use Rattle.qg_image.specs.declared.file.File.{File}
use Rattle.qg_image.specs.declared.quota.Group.{Group}
use Rattle.qg_image.specs.declared.quota.Quota.{Quota}
use Rattle.qg_image.specs.State.{State, Subvolume, Placed, Accepted, blank_subvolume, layout_of, next_generation}
use Rattle.qg_image.specs.State.{node_at, file_at, live_subvolume, subvolume_numbers, Layout}
use Rattle.qg_image.specs.Reach.{owners, is_reached}
use Rattle.qg_image.specs.Space.{is_free_slot, first_run}
use Rattle.qg_image.specs.ImageState.{addresses_of, as_committed}
use Rattle.qg_image.specs.OtherTrees.{AreOtherTrees}
use Rattle.qg_machine.specs.FileChange.{FileChange, file_change}
use Rattle.qg_machine.specs.GroupChange.{new_group, with_group, assigned, unassigned, destroyed, limited, inherited}
use Rattle.qg_machine.specs.GroupChange.{quota_for, recounted}
use Rattle.qg_machine.specs.Refusals.{refusal, is_pending, change_copies, change_need, number_to_come}
use Rattle.qg_machine.specs.Layout.{CopiesOnWrite, LiesInOtherSlot, is_full_after}
use Rattle.qg_machine.specs.Touched.{touched}

-- ---- file commands

-- the live subvolume with these files and this root
abbrev pub with_tree : State → ℕ → List (ℕ × File) → ℕ → State
with_tree state sub files root = changed (live_subvolume state sub) where
  changed : Option Subvolume → State
  changed None = state
  changed (Some subvolume) =
      record state { subvolumes = with_value sub (record subvolume { files = files; root = root }) state.subvolumes }

-- the state with the files that a file command leaves, the subvolume's root there, and these nodes
abbrev pub with_change : State → FileChange → ℕ → List (ℕ × Placed) → State
with_change state change root nodes = record (with_tree state change.sub change.files root) { layout = nodes }

-- the command, as it is pending: what it needed and what it may have copied of the state that it met, and what it
-- touched between that and the layout after it
abbrev pub accepted : State → Command → FileChange → Layout → Accepted
accepted state given change after = record {
  command = given;
  sub = change.sub;
  amount = change.amount;
  need = change_need state change;
  copies = change_copies state change;
  touched = touched state change after;
}

-- a file command was done: the files change, the command is pending, and the layout follows by copy on write
pub record ChangesFiles (old : State) (given : Command) (change : FileChange) (new : State) : Type 0 where
  pub root : ℕ
  pub layout : List (ℕ × Placed)
  pub changed : new ≡ record (with_change old change root layout) {
    pending = accepted old given change (layout_of (with_change old change root layout)) ∷ old.pending;
  }
  pub laid_out : CopiesOnWrite old new change.sub (change_copies old change)

-- what a file command answers: a write tells its extent
abbrev pub file_answer : State → Command → Option Answer
file_answer state (command.Write sub ino off len) = option_map (λ extent. answer.Extent extent) (first_run state len)
file_answer state _ = Some answer.Done

-- ---- commits

-- nothing is pending, the generation is one more, and each group's counters are those that are due
abbrev pub settled : State → State
settled state = record state {
  generation = next_generation state;
  quota = option_map (recounted (layout_of state) (next_generation state)) state.quota;
  pending = [];
}

-- what was pending is committed, and the last commit is now the state itself, with trees of roots, extents and quota
-- that tell it, whose nodes lie each in a slot of its own
pub record Commits (old new : State) : Type 0 where
  pub others : List Node
  pub slots : AllByRecursion (LiesInOtherSlot old old) others
  pub apart : IsDistinct (λ a b. a == b) (addresses_of others)
  pub trees : AreOtherTrees new others
  pub committed : new ≡ as_committed others (settled old)

-- the state after a commit of what is pending, and that commit; where nothing is, the same state and none
abbrev pub CommitsPending : State → List State → State → Type 0
CommitsPending old commits new =
    MatchBool (is_pending old) (Commits old new × (commits ≡ new ∷ [])) ((new ≡ old) × (commits ≡ []))

-- ---- structural commands

-- a leaf of a subvolume that is made in this generation
abbrev pub empty_leaf : ℕ → ℕ → ℕ → Placed
empty_leaf generation sub address =
    record {
      node = Leaf (record { address = address; generation = generation; owner = sub; level = 0 }) [];
      full = false;
    }

-- a copy of a node for a subvolume, at an address
abbrev pub copy_of : ℕ → ℕ → ℕ → Node → Node
copy_of generation sub address (Leaf header items) =
    Leaf (record { address = address; generation = generation; owner = sub; level = header.level }) items
copy_of generation sub address (Inner header pointers) =
    Inner (record { address = address; generation = generation; owner = sub; level = header.level }) pointers

-- a new subvolume: an empty leaf in a free slot, and a group without limits while quota is on
pub record CreatesSubvolume (old : State) (sub : ℕ) (new : State) : Type 0 where
  pub address : ℕ
  pub free : IsTrue (is_free_slot old address)
  pub created : new ≡ record old {
    subvolumes = with_value sub (blank_subvolume address) old.subvolumes;
    layout = with_value address (empty_leaf (next_generation old) sub address) old.layout;
    quota = option_map (with_group sub (new_group (next_generation old))) old.quota;
  }

-- a subvolume's snapshot that a commit of this generation makes, whose root node lies at an address
abbrev pub subvolume_copy : ℕ → Subvolume → ℕ → Subvolume
subvolume_copy generation source address =
    record (blank_subvolume address) { files = source.files; last_snapshot = generation }

-- a snapshot of a live subvolume: one node in a free slot, with the items of the source's root, and a group with the
-- source's limits and these parents
pub record Snapshots (old : State) (sub : ℕ) (parents : List ℕ) (copy : ℕ) (new : State) : Type 0 where
  pub source : Subvolume
  pub there : live_subvolume old sub ≡ Some source
  pub root : Node
  pub root_there : node_at old.layout source.root ≡ Some root
  pub address : ℕ
  pub free : IsTrue (is_free_slot old address)
  pub copied : new ≡ record old {
    subvolumes = with_value copy (subvolume_copy (next_generation old) source address)
        (with_value sub (record source { last_snapshot = next_generation old }) old.subvolumes);
    layout = with_value address (record { node = copy_of (next_generation old) copy address root; full = false })
        old.layout;
    quota = option_map (inherited (next_generation old) sub copy parents) old.quota;
  }

-- a state without a subvolume, its layout being what it was
abbrev pub without_subvolume : State → ℕ → State
without_subvolume state sub = record state { subvolumes = without_key sub state.subvolumes }

-- the nodes that some subvolume of a state reaches, each full where it was or where its owner no longer reaches it
abbrev pub layout_left : State → List (ℕ × Placed)
layout_left state =
    map (λ entry. (entry.0, record entry.1 { full = is_full_after state entry.1 entry.0 }))
    (filter (λ entry. is_reached (layout_of state) entry.0) state.layout)

-- a deleted subvolume goes, with the nodes that nobody then reaches; its group stays
abbrev pub deleted : State → ℕ → State
deleted state sub = record (without_subvolume state sub) { layout = layout_left (without_subvolume state sub) }

-- the groups change, and nothing else
abbrev pub with_quota : State → (Quota → Quota) → State
with_quota state change = record state { quota = option_map change state.quota }

-- what a structural command changes between its commits, and its answer
abbrev pub Changes : State → Command → Answer → State → Type 0
Changes old command.SubCreate given new = (given ≡ answer.Sub (number_to_come old))
    × CreatesSubvolume old (number_to_come old) new
Changes old (command.Snap sub parents) given new = (given ≡ answer.Sub (number_to_come old))
    × Snapshots old sub parents (number_to_come old) new
Changes old (command.Delete sub) given new = (given ≡ answer.Done) × (new ≡ deleted old sub)
Changes old command.QuotaOn given new = (given ≡ answer.Done)
    × (new ≡ record old { quota = Some (quota_for (next_generation old) (subvolume_numbers old)) })
Changes old command.QuotaOff given new = (given ≡ answer.Done) × (new ≡ record old { quota = None })
Changes old (command.GroupCreate group) given new = (given ≡ answer.Done)
    × (new ≡ with_quota old (with_group group (new_group (next_generation old))))
Changes old (command.GroupDestroy group) given new = (given ≡ answer.Done) × (new ≡ with_quota old (destroyed group))
Changes old (command.Assign member parent) given new = (given ≡ answer.Done)
    × (new ≡ with_quota old (assigned member parent))
Changes old (command.Remove member parent) given new = (given ≡ answer.Done)
    × (new ≡ with_quota old (unassigned member parent))
Changes old (command.Limit group which max) given new = (given ≡ answer.Done)
    × (new ≡ with_quota old (limited group which max))
Changes old _ given new = ⊥

-- a structural command commits what is pending, makes its change, and commits that
pub record DoesStructural (old : State) (given : Command) (reply : Answer) (commits : List State)
    (new : State) : Type 0 where
  pub before : State
  pub earlier : List State
  pub first : CommitsPending old earlier before
  pub changed : State
  pub changes : Changes before given reply changed
  pub second : Commits changed new
  pub told : commits ≡ earlier ++ new ∷ []

-- ---- questions

-- what `show` tells of a group
abbrev pub row_of : ℕ × Group → Row
row_of entry = record {
  group = entry.0;
  counters = entry.1.counters;
  max_rfer = entry.1.max_rfer;
  max_excl = entry.1.max_excl;
}

-- the stored counters and limits of each group, ascending by number
abbrev pub rows_of : Option Quota → List Row
rows_of None = []
rows_of (Some quota) = map row_of quota.groups

-- a file's size and pieces
abbrev pub file_told : Option File → Option Answer
file_told found = option_map (λ file. answer.File file.size file.pieces) found

-- ---- the step

-- the state is the same, and nothing is committed
abbrev pub Stays : State → List State → State → Type 0
Stays old commits new = (new ≡ old) × (commits ≡ [])

-- a file command that changes so: what it answers, and that nothing is committed
abbrev pub DoesChange : State → Command → Answer → List State → State → FileChange → Type 0
DoesChange old given reply commits new change = (file_answer old given ≡ Some reply) × (commits ≡ [])
    × ChangesFiles old given change new

-- a command that is not refused
abbrev pub Does : State → Command → Answer → List State → State → Type 0
Does old (command.Write sub ino off len) reply commits new =
    MatchOption (file_change old (command.Write sub ino off len)) ⊥
    (DoesChange old (command.Write sub ino off len) reply commits new)
Does old (command.Clone sub ino off len to_sub to_ino to_off) reply commits new =
    MatchOption (file_change old (command.Clone sub ino off len to_sub to_ino to_off)) ⊥
    (DoesChange old (command.Clone sub ino off len to_sub to_ino to_off) reply commits new)
Does old (command.Truncate sub ino size) reply commits new =
    MatchOption (file_change old (command.Truncate sub ino size)) ⊥
    (DoesChange old (command.Truncate sub ino size) reply commits new)
Does old (command.Unlink sub ino) reply commits new =
    MatchOption (file_change old (command.Unlink sub ino)) ⊥ (DoesChange old (command.Unlink sub ino) reply commits new)
Does old command.Commit reply commits new = (reply ≡ answer.Commit new.generation) × CommitsPending old commits new
Does old command.Show reply commits new = (reply ≡ answer.Shown (rows_of old.quota)) × Stays old commits new
Does old (command.Ls sub ino) reply commits new = (file_told (file_at old sub ino) ≡ Some reply) × Stays old commits new
Does old (command.Owners address) reply commits new = (reply ≡ answer.Owners (owners (layout_of old) address))
    × Stays old commits new
Does old structural reply commits new = DoesStructural old structural reply commits new

-- a refused command answers the first of its refusals that holds, and changes nothing; any other is done
abbrev pub Step : State → Command → Answer → List State → State → Type 0
Step old given reply commits new =
    MatchOption (refusal old given) (Does old given reply commits new) (λ why. (reply ≡ answer.Refused why)
    × Stays old commits new)
