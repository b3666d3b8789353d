-- What the machine does where nothing changes, and where files are edited, by what is kept. Weights are in bytes.
use Rattle.std.proofs.Common.{◌≡◌, ℕ, ◌+◌, ◌-◌, ◌*◌, ◌≤◌, true, List, [], ◌∷◌, ◌++◌, None, Some, Option, map, refl, sym}
use Rattle.std.proofs.Common.{ap, subst, ◌∙◌, arith}
use Rattle.std.specs.Prelude.{IfSome, MatchOption, length, nat_lt}
use Rattle.std.specs.List.{All, Contains}
use Rattle.std.specs.List.Sorted.{IsStrictlyIncreasing}
use Rattle.std.proofs.lemmas.List.{length-map}
use Rattle.std.proofs.lemmas.List.Elements.{All-contains}
use Rattle.qg_device.specs.History.{History}
use Rattle.qg_num.specs.declared.answer.Answer.{Answer}
use Rattle.qg_num.specs.declared.answer.Answer.TheVariants.{Refused}
use Rattle.qg_num.specs.declared.command.Command.{Command}
use Rattle.qg_num.specs.declared.refusal.Refusal.{Refusal}
use Rattle.qg_num.specs.declared.refusal.Refusal.TheVariants as why
use Rattle.qg_super.specs.declared.sizes.Sizes.{Sizes}
use Rattle.qg_image.specs.declared.file.File.{File}
use Rattle.qg_image.specs.ItemMeaning.{is_subvolume_number}
use Rattle.qg_image.specs.Table.{keys_of, value_at, with_value}
use Rattle.qg_image.specs.declared.quota.Quota.{Quota}
use Rattle.qg_image.specs.Members.{hierarchy_of}
use Rattle.qg_image.specs.Need.{HasReserve, commit_room, file_copies, held_records, nodes_filled, weight}
use Rattle.qg_image.specs.Record.{Record, records_bytes}
use Rattle.qg_image.specs.State.{Accepted, Committed, State, Subvolume, layout_of}
use Rattle.qg_image.specs.Space as present
use Rattle.qg_machine.specs.FileChange.{FileChange, file_change}
use Rattle.qg_machine.specs.Layout.{CopiesOnWrite}
use Rattle.qg_machine.specs.Refusals.{change_copies, change_need, no_nodes_for, refusal, refuse, root_level}
use Rattle.qg_machine.specs.Step.{ChangesFiles, Step, accepted, file_answer, with_change, with_tree}
use Rattle.qg_machine.specs.Step as machine
use Rattle.qg_space.specs.Holding.{free_slots}
use Rattle.qg_qgroups.specs.Groups.{IsSound}
use Rattle.qg_qgroups.specs.declared.state.QuotaState.{QuotaState}
use Rattle.qg_qgroups.specs.Tracked.{HoldsAll, quota_of}
use Rattle.qg_qgroups.proofs.Reserved.{holds-nothing}
use Rattle.qg_extents.specs.Table.{IsTable}
use Rattle.qg_refs.specs.declared.kept.Kept.{Kept as Reference}
use Rattle.qg_weighed.specs.Laws.{IsRecorded, is_among}
use Rattle.qg_weighed.specs.Weight.{records_in}
use Rattle.qg_fs_laws.specs.Types.{FsTree}
use Rattle.qg_fs_laws.proofs.Lists.{has-mapped}
use Rattle.qg_fs_laws.specs.Laying.{nodes_in}
use Rattle.qg_fs_laws.specs.Editable.{AreGroups, AreGroupsOf}
use Rattle.qg_fs_laws.specs.Trees.{quota_tree_bytes, root_tree_bytes}
use Rattle.qg_fs_laws.specs.Keeping.{FollowsCommand, KeepsState, NamesOthers, mine_after, other_names, other_weight}
use Rattle.qg_fs_laws.specs.Keeping.{state_after}
use Rattle.qg_fs_laws.specs.Keeping as step
use Rattle.qg_fs_laws.proofs.Free.{space-told}
use Rattle.qg_fs_laws.proofs.Kept.{level-told}
use Rattle.qg_fs_laws.proofs.OtherWeight.{others-weigh}
use Rattle.qg_fs_laws.proofs.Others.{weight-told}
use Rattle.qg_fs_laws.specs.Committing.{AreShort, IsShort}
use Rattle.qg_open_image.specs.declared.open_image.OpenImage.{OpenImage}
use Rattle.qg_open_image.specs.declared.open_image.KeptSubvolume.{KeptSubvolume}
use Rattle.qg_open_image.specs.Answering.{Answered}
use Rattle.qg_open_image.specs.Editing.{slots_refusal}
use Rattle.qg_open_image.specs.Keeping.{HoldsPending, IsFitted, IsKept, IsKeptOf, IsKeptWith, book_weight, need_of}
use Rattle.qg_open_image.specs.Keeping.{quota_weight, root_weight, kept_subvolume, commit_room_of}
use Rattle.qg_open_image.proofs.Looked.{is-near, is-subvolume}
use Rattle.qg_open_image.proofs.Tables.{all-of, all-put, keys-mapped, map-put}

-- ---- what is refused

-- the state stays
pub does_nothing : (kept : OpenImage) (state : State) (history : History) (command : Command) (reason : Refusal)
    → IsKeptOf kept state history → refusal state command ≡ Some reason
    → Answered state command (Refused reason) [] kept history
does_nothing kept state history command reason keeps refused = record {
  new = state;
  step = subst (λ (found : Option Refusal). MatchOption found (machine.Does state command (Refused reason) [] state)
      (λ other. (Refused reason ≡ Refused other) × (machine.Stays state [] state))) (sym refused) (refl, (refl, refl));
  keeps = keeps;
  reserved = keeps.reserve;
}

-- ---- what the root and the quota tree name

weigh-all : (whole book others root quota : ℕ) → whole ≡ book + others → others ≡ root + quota
    → whole ≡ book + root + quota
weigh-all whole book others root quota is same = omega (arith, is, same)

-- the names are those of the numbers
pub names-same : (state : State) (table : List (ℕ × Subvolume)) → keys_of table ≡ keys_of state.subvolumes
    → other_names (record state { subvolumes = table }) ≡ other_names state
names-same state table same = rw same refl

-- ---- the slots that are needed

-- the change of the files of a subvolume
abbrev pub change_to : ℕ → List (ℕ × File) → ℕ → ℕ → FileChange
change_to sub files amount pieces = record { sub = sub; files = files; amount = amount; pieces = pieces }

-- Only too few slots may refuse a command, which changes these files of a subvolume so
pub record IsLate (state : State) (command : Command) (sub : ℕ) (files : List (ℕ × File)) (amount pieces : ℕ) : Type 0
  where
    pub late : refusal state command ≡ no_nodes_for state (file_change state command)
    pub change : file_change state command ≡ Some (change_to sub files amount pieces)

-- where it is kept of a state, whatever the last commit's items name
module _ (kept : OpenImage) (state : State) (history : History) (names : List Record) (fits : IsFitted kept)
    (keeps : IsKeptWith kept state history names) where
  pub keys-kept : keys_of state.subvolumes ≡ keys_of kept.snapshots
  keys-kept =
      sym (keys-mapped kept_subvolume state.subvolumes)
      ∙ ap (λ (table : List (ℕ × KeptSubvolume)). keys_of table) keeps.snapshots

  pub ascend-kept : IsStrictlyIncreasing (keys_of state.subvolumes)
  ascend-kept = subst (λ (keys : List ℕ). IsStrictlyIncreasing keys) (sym keys-kept) fits.subvolumes.ascending

  pub numbers-kept : All (λ (entry : ℕ × Subvolume). is_subvolume_number entry.0 ≡ true) state.subvolumes
  numbers-kept = all-of (λ (entry : ℕ × Subvolume). is_subvolume_number entry.0 ≡ true) state.subvolumes
      (λ entry has.
      let listed = subst (λ (table : List (ℕ × KeptSubvolume)). Contains table (entry.0, kept_subvolume entry.1))
      keeps.snapshots
      (has-mapped (λ (entry : ℕ × Subvolume). (entry.0, kept_subvolume entry.1)) state.subvolumes entry has) in
      All-contains (λ (entry : ℕ × KeptSubvolume). is_subvolume_number entry.0 ≡ true) kept.snapshots
      (entry.0, kept_subvolume entry.1) fits.subvolumes.numbers listed)

  pub many-kept : length state.subvolumes ≡ length kept.snapshots
  many-kept =
      sym (length-map state.subvolumes (λ (entry : ℕ × Subvolume). (entry.0, kept_subvolume entry.1)))
      ∙ ap (λ (table : List (ℕ × KeptSubvolume)). length table) keeps.snapshots

  -- groups and relations are in order, while quota is on
  pub groups-kept : (quota : Quota) → state.quota ≡ Some quota
      → IsStrictlyIncreasing (keys_of quota.groups) × IsSound (hierarchy_of quota)
  groups-kept quota on =
      let groups : AreGroups kept.fs.tree.next (keys_of kept.snapshots) quota =
      subst (λ (q : Option Quota). AreGroupsOf kept.fs.tree.next (keys_of kept.snapshots) q) (sym keeps.quota ∙ on)
      fits.groups in
      (groups.ascending, groups.sound)

  -- what the other trees' items take now
  pub others-kept : other_weight (other_names state) state ≡ root_weight kept + quota_weight kept
  others-kept =
      others-weigh state ascend-kept numbers-kept groups-kept
      ∙ (λ i. root_tree_bytes (many-kept i) (keeps.quota i) + quota_tree_bytes (keeps.quota i))

module _ (kept : OpenImage) (state : State) (history : History) (bytes : ℕ) (fits : IsKept kept history bytes)
    (keeps : IsKeptOf kept state history) (table : IsTable kept.fs.refs.refs) where
  pub tree-kept : step.IsKept kept.fs history bytes
  tree-kept = record {
    subvolume = is-subvolume kept history bytes fits;
    table = table;
    near = is-near kept fits.fitted;
  }

  pub free-told : present.free_slots state ≡ free_slots kept.fs.land.space
  free-told = sym (space-told kept.fs history bytes state keeps.mine keeps.files tree-kept keeps.keeps).slots

  pub level-kept : root_level state kept.fs.tree.owner ≡ kept.fs.tree.height
  level-kept = level-told kept.fs history bytes state keeps.mine keeps.files tree-kept keeps.keeps

  pub weight-kept : weight state ≡ book_weight kept + root_weight kept + quota_weight kept
  weight-kept =
      weigh-all (weight state) (book_weight kept) (other_weight (other_names state) state) (root_weight kept)
      (quota_weight kept)
      (weight-told kept.fs history bytes state keeps.mine keeps.files tree-kept keeps.keeps (other_names state)
      keeps.recorded keeps.others)
      (others-kept kept state history (other_names state) fits.fitted keeps)

  pub nodesize-kept : state.sizes.nodesize ≡ kept.superblock.nodesize
  nodesize-kept =
      ap (λ (sizes : Sizes). sizes.nodesize) keeps.keeps.laid.sizes
      ∙ ap (λ (sizes : Sizes). sizes.nodesize) fits.fitted.sizes

  need-kept : (files : List (ℕ × File)) (amount pieces : ℕ)
      → change_need state (change_to kept.fs.tree.owner files amount pieces) ≡ need_of kept pieces
  need-kept files amount pieces =
      λ i. 10 * file_copies (level-kept i) pieces + 8 * nodes_filled (nodesize-kept i) (weight-kept i) + 40

  -- so many pieces are touched
  pub late-refusal : (command : Command) (files : List (ℕ × File)) (amount pieces : ℕ)
      → IsLate state command kept.fs.tree.owner files amount pieces
      → refusal state command ≡ slots_refusal kept pieces
  late-refusal command files amount pieces is =
      is.late ∙ ap (no_nodes_for state) is.change
      ∙ (λ i. refuse (nat_lt (free-told i) (need-kept files amount pieces i))
      (why.NoNodes (free-told i) (need-kept files amount pieces i)))

-- ---- what is edited

-- what the machine's step asks of a command that changes files, and what it says of each such command
abbrev pub Edits : State → Command → Answer → State → Type 0
Edits state command reply new =
    MatchOption (file_change state command) ⊥ (machine.DoesChange state command reply [] new)
    → machine.Does state command reply [] new

-- what is kept after a command that left the tree so, and quota
abbrev pub edited : OpenImage → FsTree → Option QuotaState → OpenImage
edited old fs quota = record old { fs = fs; pending = old.pending + 1; quota = quota }

-- A command reserved so many bytes into the subvolume at hand: they are held for the groups of its path, and of quota
-- nothing else is changed
pub record Reserves (old : OpenImage) (quota : Option QuotaState) (amount : ℕ) : Type 0 where
  pub same : quota_of quota ≡ quota_of old.quota
  pub holds : (given : Accepted) (pending : List Accepted) → given.sub ≡ old.fs.tree.owner → given.amount ≡ amount
      → HoldsPending old pending → IfSome quota (λ tracked. HoldsAll tracked (given ∷ pending))

-- a command that reserves nothing leaves quota
pub reserves-nothing : (old : OpenImage) → Reserves old old.quota 0
reserves-nothing old = record {
  same = refl;
  holds = λ given pending own none held. more old.quota given pending none held;
} where
  more : (quota : Option QuotaState) (given : Accepted) (pending : List Accepted) → given.amount ≡ 0
      → IfSome quota (λ tracked. HoldsAll tracked pending)
      → IfSome quota (λ tracked. HoldsAll tracked (given ∷ pending))
  more None given pending none held = tt
  more (Some tracked) given pending none held = holds-nothing tracked given pending none held

-- the amount may be told otherwise
pub reserves-so : (old : OpenImage) (quota : Option QuotaState) (amount other : ℕ) → amount ≡ other
    → Reserves old quota amount → Reserves old quota other
reserves-so old quota amount other same reserves = subst (λ (n : ℕ). Reserves old quota n) same reserves

-- what a commit may want asks of quota only what the quota tree tells
rooms-same : (old : OpenImage) (fs : FsTree) (quota : Option QuotaState) → quota_of quota ≡ quota_of old.quota
    → commit_room_of (edited old fs quota) ≡ commit_room_of (edited old fs old.quota)
rooms-same old fs quota same = λ i.
    5 * nodes_filled old.superblock.nodesize (book_weight (edited old fs old.quota)
    + root_tree_bytes (length old.snapshots) (same i) + quota_tree_bytes (same i)) + 40

less-taken : (need copies free : ℕ) → need ≤ free + copies → need - copies ≤ free
less-taken need copies free enough = omega (arith, enough)

-- A command changed the tree at hand: it follows the state by copy on write, it is the same subvolume's still, what the
-- last commit recorded stays, and the slots are free that a commit may want, and those that the command needed, but for
-- what it may have taken
pub record Follows (old : OpenImage) (fs : FsTree) (state : State) (mine : Subvolume) (history : History)
    (files : List (ℕ × File)) (pieces : ℕ) : Type 0 where
  pub copied : (last : Accepted) → FollowsCommand fs history state (state_after state files fs history last)
      (mine_after mine files fs) files old.fs.tree.owner (file_copies old.fs.tree.height pieces)
  pub owner : fs.tree.owner ≡ old.fs.tree.owner
  pub short : AreShort files
  pub held : fs.refs.held ≡ old.fs.refs.held
  pub reserved : commit_room_of (edited old fs old.quota) ≤ free_slots fs.land.space
  pub needed : need_of old pieces ≤ free_slots fs.land.space + file_copies old.fs.tree.height pieces
  pub bytes : ℕ
  pub tree : step.IsKept fs history bytes

tree_is : (state : State) (sub : ℕ) (mine : Subvolume) (files : List (ℕ × File)) (root : ℕ)
    → value_at sub state.subvolumes ≡ Some mine
    → with_tree state sub files root
    ≡ record state { subvolumes = with_value sub (record mine { files = files; root = root }) state.subvolumes }
tree_is state sub mine files root there = rw there refl

module _ (old : OpenImage) (fs : FsTree) (before after : History) (bytes : ℕ) (state : State)
    (command : Command) (reply : Answer) (files : List (ℕ × File)) (amount pieces : ℕ) (fits : IsKept old before bytes)
    (keeps : IsKeptOf old state before) (table : IsTable old.fs.refs.refs)
    (late : IsLate state command old.fs.tree.owner files amount pieces) (enough : None ≡ slots_refusal old pieces)
    (answers : file_answer state command ≡ Some reply)
    (follows : Follows old fs state keeps.mine before files pieces) (same : after ≡ before) where
  abbrev own : ℕ
  own = old.fs.tree.owner

  abbrev change_now : FileChange
  change_now = change_to own files amount pieces

  abbrev last : Accepted
  last = accepted state command change_now
      (layout_of (with_change state change_now fs.tree.address (nodes_in fs before)))

  abbrev pub state_now : State
  state_now = state_after state files fs before last

  abbrev mine_now : Subvolume
  mine_now = mine_after keeps.mine files fs

  tree-now : with_tree state fs.tree.owner files fs.tree.address
      ≡ record state { subvolumes = with_value own mine_now state.subvolumes }
  tree-now =
      ap (λ (sub : ℕ). with_tree state sub files fs.tree.address) follows.owner
      ∙ tree_is state own keeps.mine files fs.tree.address keeps.keeps.there

  held-now : state_now.held ≡ state.held
  held-now = ap (λ (s : State). s.held) tree-now

  copied-now : CopiesOnWrite state state_now own (change_copies state change_now)
  copied-now =
      subst (λ (level : ℕ). CopiesOnWrite state state_now own (file_copies level pieces))
      (sym (level-kept old state before bytes fits keeps table)) (follows.copied last).copied

  changes : ChangesFiles state command change_now state_now
  changes = record {
    root = fs.tree.address;
    layout = nodes_in fs before;
    changed = ap (λ (sub : ℕ). let tree : State = with_tree state sub files fs.tree.address in record tree {
      layout = nodes_in fs before;
      pending = last ∷ state.pending;
    }) follows.owner;
    laid_out = copied-now;
  }

  steps : Edits state command reply state_now → Step state command reply [] state_now
  steps does =
      let done = does (subst (λ (found : Option FileChange). MatchOption found ⊥
      (machine.DoesChange state command reply [] state_now)) (sym late.change) (answers, refl, changes)) in
      subst (λ (refused : Option Refusal). MatchOption refused (machine.Does state command reply [] state_now)
      (λ reason. (reply ≡ Refused reason) × machine.Stays state [] state_now))
      (enough ∙ sym (late-refusal old state before bytes fits keeps table command files amount pieces late)) done

  recorded-now : IsRecorded state_now fs.refs.held
  recorded-now =
      subst (λ (held : List (ℕ × Reference)). IsRecorded state_now held) (sym follows.held)
      (let first = keeps.recorded in record {
        kept = first.kept;
        same = λ one is. subst (λ (held : Committed). is_among (held_records held) one
            ≡ is_among (records_in old.fs.refs.held) one) (sym held-now) (first.same one is);
      })

  -- ---- the subvolumes

  subvolumes-now : state_now.subvolumes ≡ with_value own mine_now state.subvolumes
  subvolumes-now = ap (λ (s : State). s.subvolumes) tree-now

  ascend : IsStrictlyIncreasing (keys_of state.subvolumes)
  ascend = ascend-kept old state before (other_names state) fits.fitted keeps

  snapshots-now : map (λ (entry : ℕ × Subvolume). (entry.0, kept_subvolume entry.1)) state_now.subvolumes
      ≡ old.snapshots
  snapshots-now =
      ap (λ (table : List (ℕ × Subvolume)). map (λ (entry : ℕ × Subvolume). (entry.0, kept_subvolume entry.1)) table)
      subvolumes-now
      ∙ map-put (λ (entry : ℕ × Subvolume). (entry.0, kept_subvolume entry.1)) own keeps.mine mine_now state.subvolumes
      refl ascend keeps.keeps.there
      ∙ keeps.snapshots

  keys-now : keys_of (with_value own mine_now state.subvolumes) ≡ keys_of state.subvolumes
  keys-now =
      map-put (λ (entry : ℕ × Subvolume). entry.0) own keeps.mine mine_now state.subvolumes refl ascend
      keeps.keeps.there

  short-now : IsShort state_now
  short-now =
      subst (λ (table : List (ℕ × Subvolume)). All (λ (entry : ℕ × Subvolume). AreShort entry.1.files) table)
      (sym subvolumes-now)
      (all-put (λ (entry : ℕ × Subvolume). AreShort entry.1.files) own mine_now state.subvolumes follows.short
      keeps.short)

  names-now : other_names state_now ≡ other_names state
  names-now =
      ap (λ (s : State). other_names s) tree-now
      ∙ names-same state (with_value own mine_now state.subvolumes) keys-now

  others-now : NamesOthers state_now.held (other_names state_now)
  others-now =
      subst (λ (names : List Record). NamesOthers state_now.held names) (sym names-now)
      (subst (λ (held : Committed). NamesOthers held (other_names state)) (sym held-now) keeps.others)

  -- ---- the slots

  abbrev here : KeepsState fs before state_now mine_now files
  here = (follows.copied last).keeps

  free-now : free_slots fs.land.space ≡ present.free_slots state_now
  free-now = (space-told fs before follows.bytes state_now mine_now files follows.tree here).slots

  nodesize-now : state_now.sizes.nodesize ≡ old.superblock.nodesize
  nodesize-now =
      ap (λ (s : State). s.sizes.nodesize) tree-now ∙ nodesize-kept old state before bytes fits keeps table

  weight-now : weight state_now
      ≡ book_weight (edited old fs old.quota) + root_weight old + quota_weight old
  weight-now =
      weigh-all (weight state_now) (book_weight (edited old fs old.quota))
      (other_weight (other_names state_now) state_now) (root_weight old) (quota_weight old)
      (weight-told fs before follows.bytes state_now mine_now files follows.tree here (other_names state_now)
      recorded-now others-now)
      (ap (λ (names : List Record). records_bytes (names ++ names)) names-now
      ∙ others-kept old state before (other_names state) fits.fitted keeps)

  room-now : commit_room state_now ≡ commit_room_of (edited old fs old.quota)
  room-now = λ i. 5 * nodes_filled (nodesize-now i) (weight-now i) + 40

  left-told : last.need - last.copies ≡ need_of old pieces - file_copies old.fs.tree.height pieces
  left-told =
      λ i. need-kept old state before bytes fits keeps table files amount pieces i
      - file_copies (level-kept old state before bytes fits keeps table i) pieces

  reserve-now : HasReserve state_now last
  reserve-now = record {
    left = subst (λ (n : ℕ). last.need - last.copies ≤ n) free-now
        (subst (λ (n : ℕ). n ≤ free_slots fs.land.space) (sym left-told)
        (less-taken (need_of old pieces) (file_copies old.fs.tree.height pieces) (free_slots fs.land.space)
        follows.needed));
    room = subst (λ (n : ℕ). commit_room state_now ≤ n) free-now
        (subst (λ (n : ℕ). n ≤ free_slots fs.land.space) (sym room-now) follows.reserved);
  }

  -- ---- quota

  module _ (quota : Option QuotaState) (reserves : Reserves old quota amount) where
    quota-now : state_now.quota ≡ quota_of quota
    quota-now = ap (λ (s : State). s.quota) tree-now ∙ keeps.quota ∙ sym reserves.same

    holds-now : HoldsPending (edited old fs quota) state_now.pending
    holds-now = reserves.holds last state.pending refl refl keeps.holds

    reserved-now : commit_room_of (edited old fs quota) ≤ free_slots fs.land.space
    reserved-now =
        subst (λ (n : ℕ). n ≤ free_slots fs.land.space) (sym (rooms-same old fs quota reserves.same)) follows.reserved

    keeps-now : IsKeptOf (edited old fs quota) state_now before
    keeps-now = record {
      files = files;
      mine = mine_now;
      keeps = (follows.copied last).keeps;
      short = short-now;
      snapshots = snapshots-now;
      quota = quota-now;
      holds = holds-now;
      pending = omega (arith, keeps.pending);
      recorded = recorded-now;
      others = others-now;
      reserved = λ some. reserved-now;
      reserve = reserve-now;
      idle = λ none same. absurd (omega (arith, none));
    }

    -- a command that changes files and is not refused
    pub does_edit : Edits state command reply state_now → Answered state command reply [] (edited old fs quota) after
    does_edit does = record {
      new = state_now;
      step = steps does;
      keeps = subst (λ (history : History). IsKeptOf (edited old fs quota) state_now history) (sym same)
          keeps-now;
      reserved = reserve-now;
    }
