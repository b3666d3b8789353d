-- What a crash leaves of a command, whatever it answered, and where the disk rests once it is answered.
use Rattle.std.proofs.Common.{◌≡◌, ◌∙◌, inl, inr, ℕ, true, List, [], ◌∷◌, ◌++◌, length, None, Option, Some}
use Rattle.std.proofs.Common.{arith, refl, sym, ap, subst}
use Rattle.std.specs.Prelude.{IfOk, MatchOption, Result, Ok, Err}
use Rattle.qg_device.specs.History.{Event, History, Recorded}
use Rattle.qg_num.specs.declared.answer.Answer.{Answer}
use Rattle.qg_num.specs.declared.answer.Answer.TheVariants as answer
use Rattle.qg_num.specs.declared.command.Command.{Command}
use Rattle.qg_num.specs.declared.command.Command.TheVariants.{Commit}
use Rattle.qg_num.specs.declared.fault.Stop.{Stop}
use Rattle.qg_num.specs.declared.refusal.Refusal.{Refusal}
use Rattle.qg_image.specs.State.{Committed, State}
use Rattle.qg_machine.specs.Refusals.{refusal}
use Rattle.qg_machine.specs.Step.{CommitsPending, Does, DoesStructural, Stays, Step}
use Rattle.qg_crashes.specs.Committing.{begin_of}
use Rattle.qg_crashes.specs.Outcomes.{Rests}
use Rattle.qg_image_commits.specs.Types.{OpenImage}
use Rattle.qg_image_commits.specs.Answering.{AnswersOn, IsDoneSoFar, comes_to_disk}
use Rattle.qg_store.specs.Crashes.{AreCommitsOf, CommitsBy, IsLastCommit, LeavesOneOf, OutlivesCommand, StillRests}
use Rattle.qg_image_commits.specs.Making.{BringsTo, Makes, StartsCommit, StartsSecond}
use Rattle.qg_store.proofs.Chained.{MakesSoFar, chain-leaves, chained, makes-all, makes-then, rests-behind}
use Rattle.qg_store.proofs.LastCommits.{AreLater, changes-last, does-changes, step-leads, structural-leads}
use Rattle.qg_store.proofs.Structured.{held-first}
use Rattle.qg_store.proofs.Synced.{held_after}

-- ---- how far the commits of a command came

pub record IsBegun (old : State) (command : Command) (committed : State) (events : List Event)
    (history : History) : Type 0 where
  pub after : List Event
  pub told : history ≡ Recorded after
  pub commits : List State
  pub are : AreCommitsOf old command commits
  pub later : AreLater committed commits
  pub made : MakesSoFar old.held commits events after

-- a commit that the machine does is one of what was pending
pending-by : (old new : State) (why : Option Refusal)
    → MatchOption why (Does old Commit (answer.Commit new.generation) (new ∷ []) new)
    (λ reason. (answer.Commit new.generation ≡ answer.Refused reason) × Stays old (new ∷ []) new)
    → CommitsPending old (new ∷ []) new
pending-by old new None does = does.1
pending-by old new (Some reason) does =
    let wrong : answer.Commit new.generation ≡ answer.Refused reason = does.0 in absurd cc

module _ (old : State) (command : Command) (committed : State) (events : List Event) (history : History)
    (last : IsLastCommit committed old) where
  none-begun : history ≡ Recorded events → IsBegun old command committed events history
  none-begun told =
      record { after = events; told = told; commits = []; are = inl refl; later = tt; made = refl }

  -- the commit of what was pending
  first-begun : (starts : StartsCommit old events history) → comes_to_disk command ≡ true
      → refusal old command ≡ None → IsBegun old command committed events history
  first-begun starts comes unrefused =
      let new = starts.new in
      let lead = step-leads committed old new (answer.Commit new.generation) (new ∷ []) last Commit starts.step in
      record {
        after = starts.made.after;
        told = starts.made.told;
        commits = new ∷ [];
        are = inr (inl (record {
          comes = comes;
          unrefused = unrefused;
          before = new;
          first = pending-by old new (refusal old Commit) starts.step;
        }));
        later = lead.later;
        made = (starts.super, starts.nodes, starts.brings, starts.made.front);
      }

  -- that of a structural change, behind it
  module _ (starts : StartsSecond old command events history) (unrefused : refusal old command ≡ None) where
    abbrev both : List State
    both = starts.earlier ++ starts.new ∷ []

    does : DoesStructural old command starts.reply (starts.earlier ++ starts.new ∷ []) starts.new
    does = record {
      before = starts.before;
      earlier = starts.earlier;
      first = starts.first;
      changed = starts.changed;
      changes = starts.changes;
      second = starts.second;
      told = refl;
    }

    stepped : Step old command starts.reply (starts.earlier ++ starts.new ∷ []) starts.new
    stepped =
        subst (λ (o : Option Refusal). MatchOption o (Does old command starts.reply both starts.new)
        (λ reason. (starts.reply ≡ answer.Refused reason) × Stays old both starts.new)) (sym unrefused)
        (does-changes old starts.before starts.changed starts.new command starts.reply both starts.changes does)

    held-changed : held_after old.held starts.earlier ≡ starts.changed.held
    held-changed =
        held-first old starts.earlier starts.before starts.first
        ∙ (changes-last starts.before starts.changed command starts.reply starts.changes).held

    brings-then : BringsTo (held_after old.held starts.earlier) starts.new starts.between starts.super starts.nodes
    brings-then =
        subst (λ (held : Committed). BringsTo held starts.new starts.between starts.super starts.nodes)
        (sym held-changed) starts.brings

    second-begun : IsBegun old command committed events history
    second-begun =
        let lead = structural-leads committed old starts.new command starts.reply both last does in
        record {
          after = starts.made.after;
          told = starts.made.told;
          commits = both;
          are = inr (inr (record { reply = starts.reply; new = starts.new; step = stepped }));
          later = lead.later;
          made = makes-then old.held starts.earlier (starts.new ∷ []) events starts.between starts.made.after
              starts.made_first (starts.super, starts.nodes, brings-then, starts.made.front);
        }

  pub begun-so-far : IsDoneSoFar old command events history → IsBegun old command committed events history
  begun-so-far (inl nothing) = none-begun nothing
  begun-so-far (inr starts) = elim starts.calls [
    | inl first ↦ first-begun first starts.comes starts.unrefused
    | inr second ↦ second-begun second starts.unrefused
  ]

  -- ---- over a disk that rested in the last commit

  module _ (rests : Rests committed events) where
    began : begin_of rests.before ≡ length events
    began = omega (arith, ap length rests.synced)

    leaves-begun : (commits : List State) (after : List Event) → AreLater committed commits
        → MakesSoFar old.held commits events after → LeavesOneOf (length events) committed commits after
    leaves-begun commits after later made =
        let held = subst (λ (h : Committed). MakesSoFar h commits events after) (sym last.held) made in
        let here = subst (λ (es : List Event). MakesSoFar committed.held commits es after) rests.synced held in
        let chain = chained committed commits rests.before after rests.stands later here in
        subst (λ (since : ℕ). LeavesOneOf since committed commits after) began
        (chain-leaves committed commits rests.before after chain)

    commits-by : IsDoneSoFar old command events history → CommitsBy old command committed events history
    commits-by done =
        let begun = begun-so-far done in
        record {
          after = begun.after;
          told = begun.told;
          commits = begun.commits;
          are = begun.are;
          leaves = leaves-begun begun.commits begun.after begun.later begun.made;
        }

    still-rests : (reply : Answer) (kept : OpenImage) → AnswersOn old command reply kept events history
        → StillRests old command reply committed kept events history
    still-rests reply kept answers =
        let commits = answers.0 in
        let after = answers.2.after in
        let lead = step-leads committed old answers.1.new reply commits last command answers.1.step in
        let held = subst (λ (h : Committed). Makes h commits events after) (sym last.held) answers.2.made in
        let here = subst (λ (es : List Event). Makes committed.held commits es after) rests.synced held in
        record {
          commits = commits;
          answered = answers.1;
          made = answers.2;
          leaves = leaves-begun commits after lead.later (makes-all old.held commits events after answers.2.made);
          rests = rests-behind committed commits rests.before after rests.stands lead.later here;
          last = lead.last;
        }

    pub outlives : (result : Result Answer Stop) (kept : OpenImage) → IsDoneSoFar old command events history
        → IfOk result (λ reply. AnswersOn old command reply kept events history)
        → OutlivesCommand old command committed events history result kept
    outlives (Ok reply) kept done answers =
        record { crashes = commits-by done; rests = still-rests reply kept answers }
    outlives (Err stop) kept done answers = record { crashes = commits-by done; rests = tt }
