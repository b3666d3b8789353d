-- What a command has done to the disk: nothing, where it does not come to it; and what is known of the last commit.
use Rattle.std.proofs.Common.{◌≡◌, ℕ, zero, suc, ◌<◌, true, List, [], ◌∷◌, Option, None, Some, arith, refl, sym, ap}
use Rattle.std.proofs.Common.{subst, ◌∙◌, inl, inr}
use Rattle.std.specs.Prelude.{◌⊎◌, IfErr, IfOk, IsTrue, MatchOption, OnErr, Result, Ok, Err}
use Rattle.qg_device.specs.History.{Event, History, Recorded}
use Rattle.qg_num.specs.declared.answer.Answer.{Answer}
use Rattle.qg_num.specs.declared.answer.Answer.TheVariants.{Refused}
use Rattle.qg_num.specs.declared.answer.Answer.TheVariants.{Commit as commit_answer}
use Rattle.qg_num.specs.declared.command.Command.{Command}
use Rattle.qg_num.specs.declared.command.Command.TheVariants.{Commit}
use Rattle.qg_num.specs.declared.fault.BlockFault.{BlockFault}
use Rattle.qg_num.specs.declared.refusal.Refusal.{Refusal}
use Rattle.qg_image.specs.State.{State}
use Rattle.qg_machine.specs.Refusals.{refusal}
use Rattle.qg_machine.specs.Step as machine
use Rattle.qg_open_image.specs.declared.open_image.OpenImage.{OpenImage}
use Rattle.qg_open_image.specs.Answering.{Answered, AnswersOn, IsDoneSoFar, comes_to_disk, is_unchanging}
use Rattle.qg_open_image.specs.Editing.{HasLooked}
use Rattle.qg_open_image.specs.Keeping.{IsKeptOf, SameButClean}
use Rattle.qg_open_image.specs.Making.{StartsCommit}
use Rattle.qg_open_image.specs.Stored.{KnowsLast, StaysLast, StopsPending}

-- nothing is committed, and nothing was done
pub on-disk : (state : State) (command : Command) (answer : Answer) (kept : OpenImage) (events : List Event)
    (history : History) → history ≡ Recorded events → Answered state command answer [] kept history
    → AnswersOn state command answer kept events history
on-disk state command answer kept events history told answered =
    ([], answered, record { after = events; told = told; made = refl })

pub each-on-disk : (state : State) (command : Command) (result : Result Answer BlockFault) (kept : OpenImage)
    (events : List Event) (history : History) → history ≡ Recorded events
    → IfOk result (λ answer. Answered state command answer [] kept history)
    → IfOk result (λ answer. AnswersOn state command answer kept events history)
each-on-disk state command (Ok answer) kept events history told answered =
    on-disk state command answer kept events history told answered
each-on-disk state command (Err fault) kept events history told answered = tt

-- the command being a known one
pub each-given : (state : State) (command given : Command) (result : Result Answer BlockFault) (kept : OpenImage)
    (events : List Event) (history : History) → command ≡ given → history ≡ Recorded events
    → IfOk result (λ answer. Answered state given answer [] kept history)
    → IfOk result (λ answer. AnswersOn state command answer kept events history)
each-given state command given result kept events history is told answered =
    subst (λ (c : Command). IfOk result (λ answer. AnswersOn state c answer kept events history)) (sym is)
    (each-on-disk state given result kept events history told answered)

-- an answer that says that nothing was changed
pub unchanged-looked : (result : Result Answer BlockFault) (old new : OpenImage) (before after : History)
    (bytes left : ℕ) → after ≡ before → left ≡ bytes
    → IfOk result (λ answer. IsTrue (is_unchanging answer) → SameButClean old new)
    → IfOk result (λ answer. IsTrue (is_unchanging answer) → HasLooked old new before after bytes left)
unchanged-looked (Ok answer) old new before after bytes left history size same =
    λ is. record { same = same is; history = history; size = size }
unchanged-looked (Err fault) old new before after bytes left history size same = tt

-- ---- what came to the disk

-- a commit that the machine does was not refused
unrefused_by : (state new : State) (why : Option Refusal)
    → MatchOption why (machine.Does state Commit (commit_answer new.generation) (new ∷ []) new)
    (λ reason. (commit_answer new.generation ≡ Refused reason) × machine.Stays state (new ∷ []) new) → why ≡ None
unrefused_by state new None does = refl
unrefused_by state new (Some reason) does = cc (does.0)

unrefused : (state : State) (events : List Event) (history : History) → StartsCommit state events history
    → refusal state Commit ≡ None
unrefused state events history starts = unrefused_by state starts.new (refusal state Commit) starts.step

-- nothing was done, or a commit came so far
pub so-far-commit : (state : State) (command : Command) (events : List Event) (history : History)
    → command ≡ Commit → (history ≡ Recorded events) ⊎ StartsCommit state events history
    → IsDoneSoFar state command events history
so-far-commit state command events history is done = elim done [
  | inl none ↦ inl none
  | inr starts ↦ inr (record {
    comes = ap comes_to_disk is;
    unrefused = ap (refusal state) is ∙ unrefused state events history starts;
    calls = inl starts;
  })
]

-- where nothing is pending a commit does nothing
pub still-commit : (old new : OpenImage) (before after : History) (bytes left : ℕ) (command : Command)
    → command ≡ Commit → (old.pending ≡ 0 → HasLooked old new before after bytes left)
    → (comes_to_disk command ≡ true → (command ≡ Commit → 0 < old.pending) → ⊥)
    → (after ≡ before) × (left ≡ bytes)
still-commit old new before after bytes left command is idle none = by old.pending refl where
  by : (n : ℕ) → old.pending ≡ n → (after ≡ before) × (left ≡ bytes)
  by zero same = let looked = idle same in (looked.history, looked.size)
  by (suc n) same = absurd (none (ap comes_to_disk is) (λ again. omega (arith, same)))

-- a structural command comes to it
pub still-structural : (command given : Command) (pending : ℕ) (P : Type 0) → command ≡ given
    → comes_to_disk given ≡ true → (given ≡ Commit → ⊥)
    → (comes_to_disk command ≡ true → (command ≡ Commit → 0 < pending) → ⊥) → P
still-structural command given pending P is comes other none =
    absurd (none (ap comes_to_disk is ∙ comes) (λ same. absurd (other (sym is ∙ same))))

-- ---- the last commit is known

-- what holds anyway holds where there is a fault
pub on-error : {A : Type 0} (result : Result A BlockFault) (P : Type 0) → P → IfErr result (λ fault. P)
on-error (Ok answer) P holds = tt
on-error (Err fault) P holds = holds

-- so does what a call that answers nothing else says of it
pub on-err : {A E : Type 0} (result : Result A E) (P : Type 0) → P → OnErr result P
on-err (Ok answer) P holds = tt
on-err (Err fault) P holds = holds

-- nothing was done
pub stays-still : (command : Command) (old new : OpenImage) (before after : History) → new.superblock ≡ old.superblock
    → after ≡ before → KnowsLast command old new before after
stays-still command old new before after same still = inl (record {
  superblock = same;
  unmade = λ state events keeps told. inl (inl (still ∙ told));
})

-- or a commit of what was pending was not made whole
pub stays-pending : (command : Command) (old turned new : OpenImage) (before early after : History)
    → turned.superblock ≡ old.superblock
    → ((state : State) (events : List Event) → IsKeptOf old state before → before ≡ Recorded events
    → IsKeptOf turned state early × (early ≡ Recorded events))
    → StaysLast StopsPending turned new early after → KnowsLast command old new before after
stays-pending command old turned new before early after same turns stays = inl (record {
  superblock = stays.superblock ∙ same;
  unmade = λ state events keeps told.
      let there = turns state events keeps told in inl (stays.unmade state events there.0 there.1);
})

module _ (command : Command) (old new : OpenImage) (before after : History) (result : Result Answer BlockFault)
  where
    pub last-any : KnowsLast command old new before after
        → IfErr result (λ fault. KnowsLast command old new before after)
    last-any known = on-error result (KnowsLast command old new before after) known

    pub last-always : new.superblock ≡ old.superblock → after ≡ before
        → IfErr result (λ fault. KnowsLast command old new before after)
    last-always same still = last-any (stays-still command old new before after same still)

pub last-same : (command : Command) (old new : OpenImage) (before after : History)
    (result : Result Answer BlockFault) → IfErr result (λ fault. StaysLast StopsPending old new before after)
    → IfErr result (λ fault. KnowsLast command old new before after)
last-same command old new before after (Ok answer) stays = tt
last-same command old new before after (Err fault) stays =
    stays-pending command old old new before before after refl (λ state events keeps told. (keeps, told)) stays

-- the command being a known one
pub last-given : (command given : Command) (old new : OpenImage) (before after : History)
    (result : Result Answer BlockFault) → command ≡ given
    → IfErr result (λ fault. KnowsLast given old new before after)
    → IfErr result (λ fault. KnowsLast command old new before after)
last-given command given old new before after result is known =
    subst (λ (c : Command). IfErr result (λ fault. KnowsLast c old new before after)) (sym is) known
