-- Behind the generator's lines come a commit and `show`: what follows where both are answered, or one is broken off.
use Rattle.std.proofs.Common.{◌≡◌, ℕ, List, ◌++◌, None, refl}
use Rattle.std.specs.Prelude.{codes}
use Rattle.qg_device.specs.History.{Event, History, Recorded}
use Rattle.qg_num.specs.declared.answer.Answer.{Answer}
use Rattle.qg_num.specs.declared.command.Command.{Command}
use Rattle.qg_num.specs.declared.command.Command.TheVariants.{Commit, Show}
use Rattle.qg_grammar.specs.ReplyText.{reply_text}
use Rattle.qg_generator.specs.GeneratedScript.{generated_script}
use Rattle.qg_script.specs.ReportText.{summary_text}
use Rattle.qg_image.specs.State.{State}
use Rattle.qg_store.specs.Answering.{AnswersOn, IsDoneSoFar}
use Rattle.qg_store.specs.Stored.{Stored, IsStoreOf}
use Rattle.qg_program.specs.declared.generate.Tally.{Tally}
use Rattle.qg_program.specs.Generating.{asked_lines, lines_of}
use Rattle.qg_program.specs.Loading.{AreRun, IsLoaded, StopsWithin}
use Rattle.qg_program.specs.Turning.{IsReply}
use Rattle.qg_program.proofs.Generated.{commit-line, load-whole, show-line, stopped-show, stopped-told}
use Rattle.qg_program.proofs.Turned.{reply-command, so_far-command}

-- whatever state a store stands for over a disk, the machine answers a command from there, and another store has what
-- it comes to
abbrev pub Answers : Stored → History → Command → Answer → Stored → History → Type 0
Answers old before command answer new after =
    (state : State) (events : List Event) → IsStoreOf old state before → before ≡ Recorded events
    → AnswersOn state command answer new.kept events after

-- and what was done to the disk for a command is no more than a front of its commits
abbrev pub Begins : Stored → History → Command → History → Type 0
Begins old before command after =
    (state : State) (events : List Event) → IsStoreOf old state before → before ≡ Recorded events
    → IsDoneSoFar state command events after

module _ (state : State) (seed count : ℕ) (events : List Event) (tally : Tally) (committed : Answer) (one two : Stored)
    (before mid : History)
    (so_far : AreRun state (lines_of (generated_script seed count)) tally one events before)
    (commits : Answers one before Commit committed two mid) (running : two.stopped ≡ None) where
  first : IsReply so_far.after so_far.made.after (codes "commit") (reply_text committed) two mid
  first =
      reply-command so_far.after so_far.made.after (codes "commit") (reply_text committed) two mid Commit committed
      commit-line
      (commits so_far.after so_far.made.after so_far.stands so_far.made.told) running refl

  -- what holds whatever state the store stands for
  pub behind-commit : (P : Type 0)
      → ((now : State) (done : List Event) → IsStoreOf two now mid → mid ≡ Recorded done → P) → P
  behind-commit P holds = holds first.new first.made.after first.stands first.made.told

  pub show-stopped : (history : History) → Begins two mid Show history
      → StopsWithin state (asked_lines seed count) events history
  show-stopped history begins =
      stopped-show state seed count tally history committed so_far first
      (so_far-command first.new first.made.after (codes "show") history Show show-line
      (begins first.new first.made.after first.stands first.made.told))

  module _ (shown : Answer) (three : Stored) (history : History)
      (shows : Answers two mid Show shown three history)
      (running_then : three.stopped ≡ None) where
    second : IsReply first.new first.made.after (codes "show") (reply_text shown) three history
    second =
        reply-command first.new first.made.after (codes "show") (reply_text shown) three history Show shown show-line
        (shows first.new first.made.after first.stands first.made.told) running_then refl

    pub loaded : (text : List ℕ) → text ≡ summary_text count tally.done tally.refused ++ reply_text shown
        → IsLoaded state seed count text events history
    loaded text told = load-whole state seed count tally committed shown text so_far first second told

    pub told-stopped : StopsWithin state (asked_lines seed count) events history
    told-stopped =
        let text = summary_text count tally.done tally.refused ++ reply_text shown in
        stopped-told state seed count text (loaded text refl)
