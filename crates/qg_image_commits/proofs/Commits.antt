-- What the machine does at a commit, told by what is kept.
use Rattle.std.proofs.Common.{◌≡◌, ℕ, ◌<◌, ◌≤◌, Bool, true, false, List, [], ◌∷◌, length, None, Some, Option, refl, sym}
use Rattle.std.proofs.Common.{ap, subst, ◌∙◌, arith, ◌⊎◌, inl, inr}
use Rattle.std.specs.Prelude.{MatchBool, MatchOption, if◌then◌else◌, nat_lt}
use Rattle.std.specs.Bool.{then_some}
use Rattle.std.proofs.lemmas.Bool.{lt-ltb, le-ltb}
use Rattle.qg_device.specs.History.{Event, History, Recorded}
use Rattle.qg_num.specs.declared.answer.Answer.{Answer}
use Rattle.qg_num.specs.declared.answer.Answer.TheVariants as answer
use Rattle.qg_num.specs.declared.command.Command.TheVariants as command
use Rattle.qg_num.specs.declared.refusal.Refusal.{Refusal}
use Rattle.qg_num.specs.declared.refusal.Refusal.TheVariants as why
use Rattle.qg_image.specs.State.{State}
use Rattle.qg_machine.specs.Refusals.{is_pending, last_generation, no_generation, refusal}
use Rattle.qg_machine.specs.Step.{Commits, Step}
use Rattle.qg_machine.specs.Step as machine
use Rattle.qg_node.specs.declared.node.Node.{Node}
use Rattle.qg_super.specs.declared.superblock.Super.{Super}
use Rattle.qg_open_image.specs.Calls.{Call, MadeFront, commit_calls, node_calls, superblock_calls, with_commit}
use Rattle.qg_open_image.specs.Calls.{with_nodes}
use Rattle.qg_open_image.proofs.Fronts.{comes-all, comes-behind, unsure-whole}
use Rattle.qg_open_image.specs.declared.open_image.OpenImage.{OpenImage}
use Rattle.qg_open_image.specs.Answering.{Answered, AnswersOn}
use Rattle.qg_open_image.specs.Keeping.{IsFitted, IsKeptOf}
use Rattle.qg_open_image.specs.Making.{CommitsSoFar}
use Rattle.qg_image_commits.specs.Planning.{CommitsOfSoFar, CommitsOn, StartsCommitOf, StopsCommitOf}

-- ---- what is refused

none_pending : (state : State) → length state.pending ≡ 0 → is_pending state ≡ false
none_pending state none = ap (λ n. nat_lt 0 n) none

some_pending : (state : State) → 0 < length state.pending → is_pending state ≡ true
some_pending state some = lt-ltb 0 (length state.pending) some

refusal_is : (state : State) (pending : Bool) → is_pending state ≡ pending
    → refusal state command.Commit ≡ (if pending then no_generation state else None)
unfolding refusal
refusal_is state pending is = ap (λ test. if test then no_generation state else None) is

passes_generation : (state : State) → state.generation ≤ last_generation → no_generation state ≡ None
passes_generation state early =
    ap (λ late. then_some late why.NoGeneration) (le-ltb last_generation state.generation early)

lacks_generation : (state : State) → last_generation < state.generation → no_generation state ≡ Some why.NoGeneration
lacks_generation state late =
    ap (λ late. then_some late why.NoGeneration) (lt-ltb last_generation state.generation late)

-- ---- the step

abbrev StepBy : State → Answer → List State → State → Option Refusal → Type 0
StepBy old reply commits new refused =
    MatchOption refused (machine.Does old command.Commit reply commits new) (λ why. (reply ≡ answer.Refused why)
    × machine.Stays old commits new)

abbrev CommitsBy : State → List State → State → Bool → Type 0
CommitsBy old commits new pending = MatchBool pending (Commits old new × (commits ≡ new ∷ []))
    ((new ≡ old) × (commits ≡ []))

-- all calls of a commit were made
pub all-made : (super : Super) (nodes : List Node) (events : List Event)
    → MadeFront (commit_calls super nodes) events (Recorded (with_commit super nodes events))
all-made super nodes events =
    comes-behind (node_calls super.nodesize nodes) (superblock_calls super) (Recorded events)
    (Recorded (with_nodes super.nodesize nodes events)) (Recorded (with_commit super nodes events)) refl
    (comes-all (superblock_calls super) (Recorded (with_nodes super.nodesize nodes events))
    (Recorded (with_commit super nodes events)) refl) events refl

-- nothing is pending
idle_step : (state : State) (reply : Answer) → length state.pending ≡ 0 → reply ≡ answer.Commit state.generation
    → Step state command.Commit reply [] state
idle_step state reply none is =
    let idle = none_pending state none in
    subst (StepBy state reply [] state) (sym (refusal_is state false idle))
    (is, subst (CommitsBy state [] state) (sym idle) (refl, refl))

-- no generation is left
refused_step : (state : State) → 0 < length state.pending → last_generation < state.generation
    → Step state command.Commit (answer.Refused why.NoGeneration) [] state
refused_step state some late =
    subst (StepBy state (answer.Refused why.NoGeneration) [] state)
    (sym (refusal_is state true (some_pending state some) ∙ lacks_generation state late)) (refl, (refl, refl))

-- what is pending is committed
pub commit_step : (old new : State) (reply : Answer) → 0 < length old.pending → old.generation ≤ last_generation
    → Commits old new → reply ≡ answer.Commit new.generation
    → Step old command.Commit reply (new ∷ []) new
commit_step old new reply some early commits is =
    let pending = some_pending old some in
    subst (StepBy old reply (new ∷ []) new) (sym (refusal_is old true pending ∙ passes_generation old early))
    (is, subst (CommitsBy old (new ∷ []) new) (sym pending) (commits, refl))

-- ---- what is kept then

-- the generation is that of the last commit
pub generation-kept : (kept : OpenImage) (state : State) (history : History) → IsFitted kept
    → IsKeptOf kept state history → state.generation ≡ kept.superblock.generation
generation-kept kept state history fits keeps = omega (arith, keeps.keeps.laid.generation, fits.next)

pub does_idle : (kept : OpenImage) (state : State) (history : History) → IsFitted kept
    → IsKeptOf kept state history → kept.pending ≡ 0
    → Answered state command.Commit (answer.Commit kept.superblock.generation) [] kept history
does_idle kept state history fits keeps idle = record {
  new = state;
  step = idle_step state (answer.Commit kept.superblock.generation) (keeps.pending ∙ idle)
      (ap (λ (generation : ℕ). answer.Commit generation) (sym (generation-kept kept state history fits keeps)));
  keeps = keeps;
  reserved = keeps.reserve;
}

pub does_refuse : (kept : OpenImage) (state : State) (history : History) → IsFitted kept
    → IsKeptOf kept state history → 0 < kept.pending → last_generation < kept.superblock.generation
    → Answered state command.Commit (answer.Refused why.NoGeneration) [] kept history
does_refuse kept state history fits keeps some late = record {
  new = state;
  step = refused_step state (omega (arith, keeps.pending, some))
      (omega (arith, generation-kept kept state history fits keeps, late));
  keeps = keeps;
  reserved = keeps.reserve;
}

-- ---- what was committed

module _ (state : State) (events : List Event) (history : History) (some : 0 < length state.pending)
    (early : state.generation ≤ last_generation) where
  -- it is what the machine does
  starts-step : (calls : Super → List Node → List Call) → CommitsOfSoFar calls state events history
      → CommitsSoFar calls state events history
  starts-step calls starts = record {
    new = starts.new;
    step = commit_step state starts.new (answer.Commit starts.new.generation) some early starts.commits refl;
    super = starts.super;
    nodes = starts.nodes;
    brings = starts.brings;
    made = starts.made;
  }

  pub far-step : (calls : Super → List Node → List Call)
      → (history ≡ Recorded events) ⊎ CommitsOfSoFar calls state events history
      → (history ≡ Recorded events) ⊎ CommitsSoFar calls state events history
  far-step calls (inl nothing) = inl nothing
  far-step calls (inr starts) = inr (starts-step calls starts)

  pub commits-step : (kept : OpenImage) → IsFitted kept → CommitsOn state kept events history
      → AnswersOn state command.Commit (answer.Commit kept.superblock.generation) kept events history
  commits-step kept fits on = (
    on.new ∷ [],
    record {
      new = on.new;
      step = commit_step state on.new (answer.Commit kept.superblock.generation) some early on.commits
          (ap (λ (generation : ℕ). answer.Commit generation) (sym (generation-kept kept on.new history fits on.keeps)));
      keeps = on.keeps;
      reserved = on.keeps.reserve;
    },
    record {
      after = with_commit on.super on.nodes events;
      told = on.told;
      made = (on.super, on.nodes, on.brings, refl);
    },
  )

-- all calls of a commit came
pub commits-start : (state : State) (kept : OpenImage) (events : List Event) (history : History)
    → CommitsOn state kept events history → StartsCommitOf state events history
commits-start state kept events history on = record {
  new = on.new;
  commits = on.commits;
  super = on.super;
  nodes = on.nodes;
  brings = on.brings;
  made = subst (λ (after : History). MadeFront (commit_calls on.super on.nodes) events after)
      (sym on.told) (all-made on.super on.nodes events);
}

-- all but the last sync came so far: all did
pub stops-starts : (state : State) (events : List Event) (history : History)
    → (history ≡ Recorded events) ⊎ StopsCommitOf state events history
    → (history ≡ Recorded events) ⊎ StartsCommitOf state events history
stops-starts state events history (inl nothing) = inl nothing
stops-starts state events history (inr stops) = inr (record {
  new = stops.new;
  commits = stops.commits;
  super = stops.super;
  nodes = stops.nodes;
  brings = stops.brings;
  made = unsure-whole stops.super stops.nodes events history stops.made;
})

-- something is pending of the state too
pub pending-state : (kept : OpenImage) (state : State) (history : History) → IsKeptOf kept state history
    → 0 < kept.pending → 0 < length state.pending
pending-state kept state history keeps some = omega (arith, keeps.pending, some)

pub early-state : (kept : OpenImage) (state : State) (history : History) → IsFitted kept
    → IsKeptOf kept state history → kept.superblock.generation ≤ last_generation
    → state.generation ≤ last_generation
early-state kept state history fits keeps early =
    let same = generation-kept kept state history fits keeps in omega (arith, early, same)
