-- What a structural command does: what was pending is committed, then its change, and that is committed.
use Rattle.std.proofs.Common.{◌≡◌, ℕ, zero, suc, ◌+◌, ◌^◌, ◌<◌, ◌≤◌, Bool, true, false, List, [], ◌∷◌, ◌++◌, length}
use Rattle.std.proofs.Common.{Option, None}
use Rattle.std.proofs.Common.{arith, refl, sym, ap, subst, ◌∙◌, inl, inr}
use Rattle.std.specs.Prelude.{◌⊎◌, MatchBool, MatchOption, Result, Err, not}
use Rattle.std.proofs.lemmas.Bool.{le-ltb, true≢false}
use Rattle.qg_device.specs.History.{Event, History, Recorded, history_after}
use Rattle.qg_num.specs.declared.answer.Answer.{Answer}
use Rattle.qg_num.specs.declared.answer.Answer.TheVariants.{Refused}
use Rattle.qg_num.specs.declared.command.Command.{Command}
use Rattle.qg_num.specs.declared.command.Command.TheVariants.{Delete, Snap, SubCreate}
use Rattle.qg_num.specs.declared.command.Command.TheVariants as command
use Rattle.qg_num.specs.declared.fault.BlockFault.{BlockFault}
use Rattle.qg_num.specs.declared.refusal.Refusal.{Refusal}
use Rattle.qg_node.specs.declared.node.Node.{Node}
use Rattle.qg_super.specs.declared.superblock.Super.{Super}
use Rattle.qg_image.specs.Record.{Record}
use Rattle.qg_image.specs.State.{Committed, State}
use Rattle.qg_machine.specs.Refusals.{is_pending, nodes_reached, refusal}
use Rattle.qg_machine.specs.Step.{Changes, Commits, CommitsPending, DoesStructural}
use Rattle.qg_machine.specs.Step as machine
use Rattle.qg_qgroups.specs.Changing.{is_group_command}
use Rattle.qg_blocks.specs.NodesFound.{IfBroken}
use Rattle.qg_space.specs.Holding.{free_slots}
use Rattle.qg_blocks.proofs.Broken.{broken-handed, broken-then}
use Rattle.qg_image_commits.specs.Calls.{Call, commit_calls, unsure_calls, with_commit}
use Rattle.qg_image_commits.specs.Types.{OpenImage}
use Rattle.qg_image_commits.specs.Answering.{AnswersOn, IsDoneSoFar, comes_to_disk, is_structural}
use Rattle.qg_image_commits.proofs.Reserve.{finds-planned}
use Rattle.qg_image_commits.specs.FsLawsKeeping.{other_names}
use Rattle.qg_image_commits.specs.Keeping.{IsFitted, IsKeptOf, IsKeptWith, commit_need}
use Rattle.qg_image_commits.specs.Making.{MadeFirst, Makes, SecondSoFar, StartsCommit, StopsSecond}
use Rattle.qg_image_commits.specs.Planning.{CommitsOfSoFar, CommitsOn, StartsCommitOf, StopsCommitOf}
use Rattle.qg_image_commits.specs.Stored.{IsIntact, KnowsLast, StopsFirst}
use Rattle.qg_store.specs.Structural.{HasCommitted, IsDoneFirst, IsSettledFrom}
use Rattle.qg_image_changes.specs.Changing.{IsChanged}
use Rattle.qg_store.proofs.Synced.{Makes-append, held_after}

-- ---- what is held meanwhile

-- what the first commit, if there was one, left is held
held_by : (old : State) (earlier : List State) (before : State) (b : Bool)
    → MatchBool b (Commits old before × (earlier ≡ before ∷ [])) ((before ≡ old) × (earlier ≡ []))
    → held_after old.held earlier ≡ before.held
held_by old earlier before true done = ap (held_after old.held) done.1
held_by old earlier before false done =
    ap (held_after old.held) done.1 ∙ sym (ap (λ (s : State). s.held) done.0)

pub held-first : (old : State) (earlier : List State) (before : State) → CommitsPending old earlier before
    → held_after old.held earlier ≡ before.held
held-first old earlier before done = held_by old earlier before (is_pending old) done

-- a change leaves it
pub held-created : (before changed : State) (reply : Answer) → Changes before SubCreate reply changed
    → changed.held ≡ before.held
held-created before changed reply changes = ap (λ (s : State). s.held) changes.1.created

pub held-snapped : (before changed : State) (sub : ℕ) (parents : List ℕ) (reply : Answer)
    → Changes before (Snap sub parents) reply changed → changed.held ≡ before.held
held-snapped before changed sub parents reply changes = ap (λ (s : State). s.held) changes.1.copied

pub held-deleted : (before changed : State) (sub : ℕ) (reply : Answer) → Changes before (Delete sub) reply changed
    → changed.held ≡ before.held
held-deleted before changed sub reply changes = ap (λ (s : State). s.held) changes.1

pub held-regrouped : (before changed : State) (given : Command) (reply : Answer) → is_group_command given ≡ true
    → Changes before given reply changed → changed.held ≡ before.held
held-regrouped before changed command.QuotaOn reply group changes = ap (λ (s : State). s.held) changes.1
held-regrouped before changed command.QuotaOff reply group changes = ap (λ (s : State). s.held) changes.1
held-regrouped before changed (command.GroupCreate number) reply group changes = ap (λ (s : State). s.held) changes.1
held-regrouped before changed (command.GroupDestroy number) reply group changes = ap (λ (s : State). s.held) changes.1
held-regrouped before changed (command.Assign member parent) reply group changes = ap (λ (s : State). s.held) changes.1
held-regrouped before changed (command.Remove member parent) reply group changes = ap (λ (s : State). s.held) changes.1
held-regrouped before changed (command.Limit number which max) reply group changes =
    ap (λ (s : State). s.held) changes.1
held-regrouped before changed _ reply group changes = absurd (true≢false (sym group))

-- ---- the first commit

-- it was made, and no more was done
pub made-first : (state : State) (mid : OpenImage) (events : List Event) (between history : History)
    → HasCommitted state mid events between → history ≡ between → MadeFirst state events history
made-first state mid events between history first same = record {
  before = first.before;
  earlier = first.earlier;
  first = first.first;
  between = first.between;
  told = same ∙ first.told;
  made = first.made;
}

-- its calls came so far, and no more was done
pub so-far-first : (state : State) (given : Command) (events : List Event) (between history : History)
    → comes_to_disk given ≡ true → refusal state given ≡ None → history ≡ between → IsDoneFirst state events between
    → IsDoneSoFar state given events history
so-far-first state given events between history comes unrefused same done = elim done [
  | inl nothing ↦ inl (same ∙ nothing)
  | inr began ↦ inr (record {
    comes = comes;
    unrefused = unrefused;
    calls = inl (subst (λ (h : History). StartsCommit state events h) (sym same) began);
  })
]

-- ---- all of it

-- what a commit promises of each state that is kept so
abbrev PromisesOf : OpenImage → History → (State → List Event → Type 0) → Type 0
PromisesOf kept history P = (state : State) (events : List Event) (names : List Record)
    → IsKeptWith kept state history names → commit_need kept ≤ free_slots kept.fs.land.space
    → history ≡ Recorded events → P state events

-- a structural command that isn't refused: what was pending was committed, and then the command was done in memory
pub record IsReady (state : State) (given : Command) (reply : Answer) (mid new : OpenImage) (events : List Event)
    (between after : History) : Type 0 where
  pub comes : comes_to_disk given ≡ true
  pub unrefused : refusal state given ≡ None
  pub done : IsDoneFirst state events between
  pub first : HasCommitted state mid events between
  pub change : IsChanged first.before given reply new after
  pub same : after ≡ between
  pub held : change.changed.held ≡ first.before.held
  pub fits : IsFitted new

module _ {state : State} {given : Command} {reply : Answer} {mid new : OpenImage} {events : List Event}
    {between after : History} (is : IsReady state given reply mid new events between after) where
  abbrev changed : State
  changed = is.change.changed

  told : after ≡ Recorded is.first.between
  told = is.same ∙ is.first.told

  -- what the second commit promises of the state that is kept then
  pub of-changed : (P : State → List Event → Type 0) → PromisesOf new after P → P changed is.first.between
  of-changed P promise =
      promise changed is.first.between (other_names is.first.before) is.change.keeps
      (finds-planned new is.fits is.change.room) told

  held-now : held_after state.held is.first.earlier ≡ changed.held
  held-now = held-first state is.first.earlier is.first.before is.first.first ∙ sym is.held

  module _ (last : OpenImage) (history : History) (second : CommitsOn changed last is.first.between history) where
    abbrev commits : List State
    commits = is.first.earlier ++ second.new ∷ []

    made : Makes state.held commits events (with_commit second.super second.nodes is.first.between)
    made = Makes-append state.held is.first.earlier (second.new ∷ []) events is.first.between
        (with_commit second.super second.nodes is.first.between) is.first.made
        (subst (λ (h : Committed). Makes h (second.new ∷ []) is.first.between
        (with_commit second.super second.nodes is.first.between)) (sym held-now)
        (second.super, second.nodes, second.brings, refl))

    does : DoesStructural state given reply commits second.new
    does = record {
      before = is.first.before;
      earlier = is.first.earlier;
      first = is.first.first;
      changed = changed;
      changes = is.change.changes;
      second = second.commits;
      told = refl;
    }

    answered : ((commits : List State) (then : State) → DoesStructural state given reply commits then
        → machine.Does state given reply commits then) → AnswersOn state given reply last events history
    answered steps = (
      commits,
      record {
        new = second.new;
        step = subst (λ (o : Option Refusal). MatchOption o (machine.Does state given reply commits second.new)
            (λ reason. (reply ≡ Refused reason) × machine.Stays state commits second.new)) (sym is.unrefused)
            (steps commits second.new does);
        keeps = second.keeps;
        reserved = second.keeps.reserve;
      },
      record {
        after = with_commit second.super second.nodes is.first.between;
        told = second.told;
        made = made;
      },
    )

  -- it is answered as it was done
  pub does-structural : (last : OpenImage) (history : History)
      → PromisesOf new after (λ now then. CommitsOn now last then history)
      → ((commits : List State) (then : State) → DoesStructural state given reply commits then
      → machine.Does state given reply commits then) → AnswersOn state given reply last events history
  does-structural last history promise =
      answered last history (of-changed (λ now then. CommitsOn now last then history) promise)

  -- the calls of the second commit came so far
  begun : (calls : Super → List Node → List Call) (history : History)
      → CommitsOfSoFar calls changed is.first.between history → SecondSoFar calls state given events history
  begun calls history second = record {
    before = is.first.before;
    earlier = is.first.earlier;
    first = is.first.first;
    between = is.first.between;
    made_first = is.first.made;
    reply = reply;
    changed = changed;
    changes = is.change.changes;
    new = second.new;
    second = second.commits;
    super = second.super;
    nodes = second.nodes;
    brings = second.brings;
    made = second.made;
  }

  -- the first commit was made, and of the second so many calls
  pub made-second : (history : History)
      → PromisesOf new after (λ now then. (history ≡ Recorded then) ⊎ StopsCommitOf now then history)
      → MadeFirst state events history ⊎ StopsSecond state given events history
  made-second history promise = elim (of-changed
      (λ now then. (history ≡ Recorded then) ⊎ StopsCommitOf now then history) promise) [
        | inl none ↦ inl (made-first state mid events between history is.first (none ∙ sym is.first.told))
        | inr second ↦ inr (begun unsure_calls history second)
      ]

  pub so-far-second : (history : History)
      → PromisesOf new after (λ now then. (history ≡ Recorded then) ⊎ StartsCommitOf now then history)
      → IsDoneSoFar state given events history
  so-far-second history promise = elim (of-changed
      (λ now then. (history ≡ Recorded then) ⊎ StartsCommitOf now then history) promise) [
        | inl none ↦
            so-far-first state given events between history is.comes is.unrefused (none ∙ sym is.first.told) is.done
        | inr second ↦ inr (record {
          comes = is.comes;
          unrefused = is.unrefused;
          calls = inr (begun commit_calls history second);
        })
      ]

-- ---- over any disk

-- the generation that the second commit meets
pub early-second : (old mid new : OpenImage) → IsSettledFrom old mid → new.superblock ≡ mid.superblock
    → old.superblock.generation ≤ 2 ^ 63 → new.superblock.generation ≤ 2 ^ 63 + 1
early-second old mid new settled same early =
    let now = ap (λ (s : Super). s.generation) same in
    elim settled.last [
      | inl kept ↦ let is = ap (λ (s : Super). s.generation) kept.1 in omega (arith, early, now, is)
      | inr next ↦ let is = next.1 in omega (arith, early, now, is)
    ]

-- nothing is pending of the state
not-pending : (kept : OpenImage) (state : State) (history : History) → IsKeptOf kept state history → kept.pending ≡ 0
    → is_pending state ≡ false
not-pending kept state history keeps none =
    let many = keeps.pending in le-ltb 0 (length state.pending) (omega (arith, many, none))

-- so there is no first commit
none_earlier : (old : State) (earlier : List State) (before : State) (b : Bool) → b ≡ false
    → MatchBool b (Commits old before × (earlier ≡ before ∷ [])) ((before ≡ old) × (earlier ≡ [])) → earlier ≡ []
none_earlier old earlier before true is done = absurd (true≢false is)
none_earlier old earlier before false is done = done.1

-- and the second one is the first
first-by : (state : State) (given : Command) (events : List Event) (after : History) → is_pending state ≡ false
    → MadeFirst state events after ⊎ StopsSecond state given events after → StopsFirst given state events after
first-by state given events after none (inl made) =
    let no_commit = none_earlier state made.earlier made.before (is_pending state) none made.first in
    let same : made.between ≡ events =
    subst (λ (earlier : List State). Makes state.held earlier events made.between) no_commit made.made in
    inl (inl (made.told ∙ ap (λ (list : List Event). Recorded list) same))
first-by state given events after none (inr second) = inr (ap not none, second)

-- The last commit is known, where what was pending is committed, and the superblock was not changed before and behind
pub last-settled : (given : Command) (old turned mid new : OpenImage) (before after : History)
    → is_structural given ≡ true → turned.superblock ≡ old.superblock → turned.pending ≡ old.pending
    → IsSettledFrom turned mid → new.superblock ≡ mid.superblock
    → ((state : State) (events : List Event) → IsKeptOf old state before → before ≡ Recorded events
    → MadeFirst state events after ⊎ StopsSecond state given events after) → KnowsLast given old new before after
last-settled given old turned mid new before after is same kept settled now made = elim settled.last [
  | inl stays ↦ inl (record {
    superblock = now ∙ stays.1 ∙ same;
    unmade = λ state events keeps told.
        first-by state given events after (not-pending old state before keeps (sym kept ∙ stays.0))
        (made state events keeps told);
  })
  | inr next ↦ inr (record {
    structural = is;
    some = subst (λ (n : ℕ). 0 < n) kept next.0;
    next = ap (λ (s : Super). s.generation) now ∙ next.1 ∙ ap (λ (s : Super). s.generation + 1) same;
    given = made;
  })
]

-- ---- what a commit leaves of the layout

-- a commit changes neither subvolumes nor layout
reached_by : (old : State) (earlier : List State) (before : State) (sub : ℕ) (b : Bool)
    → MatchBool b (Commits old before × (earlier ≡ before ∷ [])) ((before ≡ old) × (earlier ≡ []))
    → nodes_reached before sub ≡ nodes_reached old sub
reached_by old earlier before sub true done = ap (λ (s : State). nodes_reached s sub) done.0.committed
reached_by old earlier before sub false done = ap (λ (s : State). nodes_reached s sub) done.0

pub reached-settled : (old : State) (earlier : List State) (before : State) → CommitsPending old earlier before
    → (sub : ℕ) → nodes_reached before sub ≡ nodes_reached old sub
reached-settled old earlier before done sub = reached_by old earlier before sub (is_pending old) done

-- ---- over any disk

none_or_some : (n : ℕ) → (n ≡ 0) ⊎ (0 < n)
none_or_some zero = inl refl
none_or_some (suc n) = inr (omega arith)

-- what was pending was committed, where something was, and nothing else was done
pub intact-first : (given : Command) (old base mid new : OpenImage) (before early between after : History)
    → is_structural given ≡ true → early ≡ before → base.pending ≡ old.pending
    → (base.pending ≡ 0 → between ≡ early)
    → (0 < base.pending → (nodes : List Node) × (between ≡ history_after (with_commit mid.superblock nodes) early))
    → new.superblock ≡ mid.superblock → after ≡ between → IsIntact given old new before after
intact-first given old base mid new before early between after structural read pending none calls same still =
    elim (none_or_some base.pending) [
      | inl is ↦ inl (still ∙ none is ∙ read)
      | inr some ↦
          let made = calls some in
          inr (record {
            structural = structural;
            some = omega (arith, pending, some);
            nodes = made.0;
            calls = still ∙ made.1
                ∙ ap (λ (super : Super). history_after (with_commit super made.0) early) (sym same)
                ∙ ap (history_after (with_commit new.superblock made.0)) read;
          })
    ]

-- a command that is given is this one
pub intact-given : (command given : Command) (old new : OpenImage) (before after : History)
    (result : Result Answer BlockFault) → command ≡ given → IfBroken result (IsIntact given old new before after)
    → IfBroken result (IsIntact command old new before after)
intact-given command given old new before after result is broken =
    subst (λ (c : Command). IfBroken result (IsIntact c old new before after)) (sym is) broken

-- a fault that is handed on: what follows from what it left
pub intact-handed : (A : Type 0) {B : Type 0} (result : Result B BlockFault) (fault : BlockFault) (given : Command)
    (old new : OpenImage) (before after : History) (Same : Type 0) → result ≡ Err fault
    → (Same → IsIntact given old new before after) → IfBroken {A = A} (Err fault) Same
    → IfBroken result (IsIntact given old new before after)
intact-handed A {B} result fault given old new before after Same is then broken =
    broken-handed A result fault (IsIntact given old new before after) is
    (broken-then {A = A} (Err fault) Same (IsIntact given old new before after) then broken)
