-- What follows where the generator's lines were answered, and a commit and `show` behind them.
use Rattle.std.proofs.Common.{◌≡◌, ◌≢◌, ◌⊎◌, inl, inr, ℕ, List, [], ◌∷◌, ◌++◌, length, map, take, drop, Option}
use Rattle.std.proofs.Common.{IsTrue, refl, sym, ap, ◌∙◌, subst, arith, append_assoc}
use Rattle.std.specs.Prelude.{codes}
use Rattle.std.specs.List.{count_by}
use Rattle.std.specs.Io.KnownBytes.{append_known}
use Rattle.std.proofs.Math.Seq.{drop-append_seam, take-append_seam}
use Rattle.std.proofs.lemmas.List.{length-append, take_all}
use Rattle.qg_device.specs.History.{Event, History, Recorded}
use Rattle.qg_num.specs.declared.answer.Answer.{Answer}
use Rattle.qg_num.specs.declared.command.Command.TheVariants.{Commit, Show}
use Rattle.qg_grammar.specs.ReplyText.{reply_text}
use Rattle.qg_grammar.specs.ScriptText.{command_text, is_in_grammar, IsLineOf}
use Rattle.qg_image.specs.State.{State}
use Rattle.qg_machine.specs.Run.{Run}
use Rattle.qg_store.specs.CommitOpened.{IsOpened, IsOpening}
use Rattle.qg_generator.specs.GeneratedScript.{generated_script}
use Rattle.qg_script.specs.ReportText.{summary_text}
use Rattle.qg_program.specs.declared.generate.Tally.{Tally}
use Rattle.qg_program.specs.declared.status.Status.{Status}
use Rattle.qg_program.specs.declared.status.Status.TheVariants as status
use Rattle.qg_store.specs.Stored.{Stored}
use Rattle.qg_program.specs.Ends.{is_generators, is_refusers, is_stop}
use Rattle.qg_program.specs.Following.{StopsBefore}
use Rattle.qg_program.specs.Generating.{Generates, GeneratesAll, GeneratesUntil, asked_lines, lines_of}
use Rattle.qg_program.specs.Loading.{AreRun, IsLoaded, StopsWithin}
use Rattle.qg_program.specs.Putting.{FailsToPut, IsPutFault, PutsAndEnds}
use Rattle.qg_program.specs.Turning.{IsLineSoFar, IsReply}
use Rattle.qg_program.proofs.Answered.{made-all, made-more}
use Rattle.qg_program.proofs.Loaded.{is_done, run-held, stops-behind, stops-line}
use Rattle.qg_program.proofs.Steps.{run-snoc}

-- ---- the two last lines

pub commit-line : IsLineOf (codes "commit") Commit
unfolding command_text is_in_grammar
commit-line = record { text = refl; in_grammar = refl; short = omega arith }

pub show-line : IsLineOf (codes "show") Show
unfolding command_text is_in_grammar
show-line = record { text = refl; in_grammar = refl; short = omega arith }

-- all lines were answered, and the text was made
pub load-whole : (state : State) (seed count : ℕ) (tally : Tally) {store store' store'' : Stored} {events : List Event}
    {before mid history : History}
    (committed shown : Answer) (text : List ℕ)
    → (so_far : AreRun state (lines_of (generated_script seed count)) tally store events before)
    → (first : IsReply so_far.after so_far.made.after (codes "commit") (reply_text committed) store' mid)
    → IsReply first.new first.made.after (codes "show") (reply_text shown) store'' history
    → text ≡ summary_text count tally.done tally.refused ++ reply_text shown
    → IsLoaded state seed count text events history
load-whole state seed count tally {store} {store'} {store''} {events} {before} {mid} {history} committed shown text
    so_far first second told =
    let lines = lines_of (generated_script seed count) in
    let replies = map reply_text so_far.answers in
    let held = run-held state lines replies so_far.commits so_far.after so_far.run in
    let once = run-snoc state so_far.after first.new lines replies (codes "commit")
    (reply_text committed) so_far.commits first.commits so_far.run first.turn in
    let held_once = run-held state (lines ++ codes "commit" ∷ []) (replies ++ reply_text committed ∷ [])
    (so_far.commits ++ first.commits) first.new once in
    let twice = run-snoc state first.new second.new (lines ++ codes "commit" ∷ [])
    (replies ++ reply_text committed ∷ []) (codes "show") (reply_text shown)
    (so_far.commits ++ first.commits) second.commits once second.turn in
    let made_once = made-more state so_far.after so_far.commits first.commits events so_far.made.after first.made.after
    held so_far.made.made first.made.made in
    record {
      commits = (so_far.commits ++ first.commits) ++ second.commits;
      tells = record {
        answers = so_far.answers;
        committed = reply_text committed;
        shown = reply_text shown;
        after = second.new;
        run = subst (λ (some : List (List ℕ)). Run state some (replies ++ reply_text committed ∷ reply_text shown ∷ [])
            ((so_far.commits ++ first.commits) ++ second.commits) second.new)
            (append_assoc lines (codes "commit" ∷ []) (codes "show" ∷ []))
            (subst (λ (some : List (List ℕ)). Run state ((lines ++ codes "commit" ∷ []) ++ codes "show" ∷ []) some
            ((so_far.commits ++ first.commits) ++ second.commits) second.new)
            (append_assoc replies (reply_text committed ∷ []) (reply_text shown ∷ [])) twice);
        told = told
            ∙ ap (λ (n : ℕ). summary_text count n tally.refused ++ reply_text shown) so_far.done
            ∙ ap (λ (n : ℕ). summary_text count (count_by is_done so_far.answers) n ++ reply_text shown) so_far.refused;
      };
      made = record {
        after = second.made.after;
        told = second.made.told;
        made = made-more state first.new (so_far.commits ++ first.commits) second.commits events first.made.after
            second.made.after held_once made_once second.made.made;
      };
    }

-- ---- where it stops behind the generator's lines

-- in the last commit
pub stopped-commit : (state : State) (seed count : ℕ) (tally : Tally) {store : Stored} {events : List Event}
    {before : History} (history : History)
    → (so_far : AreRun state (lines_of (generated_script seed count)) tally store events before)
    → IsLineSoFar so_far.after (codes "commit") so_far.made.after history
    → StopsWithin state (asked_lines seed count) events history
stopped-commit state seed count tally history so_far line =
    stops-behind state (lines_of (generated_script seed count)) (codes "commit" ∷ codes "show" ∷ []) tally so_far
    (stops-line so_far.after (codes "commit") (codes "show" ∷ []) so_far.made.after history line)

-- behind it
pub stopped-show : (state : State) (seed count : ℕ) (tally : Tally) {store store' : Stored} {events : List Event}
    {before mid : History} (history : History)
    (committed : Answer) → (so_far : AreRun state (lines_of (generated_script seed count)) tally store events before)
    → (first : IsReply so_far.after so_far.made.after (codes "commit") (reply_text committed) store' mid)
    → IsLineSoFar first.new (codes "show") first.made.after history
    → StopsWithin state (asked_lines seed count) events history
stopped-show state seed count tally {store} {store'} {events} {before} {mid} history committed so_far first line =
    let lines = lines_of (generated_script seed count) in
    let replies = map reply_text so_far.answers in
    let held = run-held state lines replies so_far.commits so_far.after so_far.run in
    let once = run-snoc state so_far.after first.new lines replies (codes "commit")
    (reply_text committed) so_far.commits first.commits so_far.run first.turn in
    let many = length (lines ++ codes "commit" ∷ []) in
    let front : take many ((lines ++ codes "commit" ∷ []) ++ codes "show" ∷ []) ≡ lines ++ codes "commit" ∷ [] =
    take-append_seam (lines ++ codes "commit" ∷ []) (codes "show" ∷ []) in
    let back : drop many ((lines ++ codes "commit" ∷ []) ++ codes "show" ∷ []) ≡ codes "show" ∷ [] =
    drop-append_seam (lines ++ codes "commit" ∷ []) (codes "show" ∷ []) in
    subst (λ (all : List (List ℕ)). StopsWithin state all events history)
    (append_assoc lines (codes "commit" ∷ []) (codes "show" ∷ [])) (record {
      count = many;
      within = omega (arith, length-append (lines ++ codes "commit" ∷ []) (codes "show" ∷ []));
      replies = replies ++ reply_text committed ∷ [];
      commits = so_far.commits ++ first.commits;
      after = first.new;
      run = subst (λ (some : List (List ℕ)). Run state some (replies ++ reply_text committed ∷ [])
          (so_far.commits ++ first.commits) first.new) (sym front) once;
      mid = first.made.after;
      made = record {
        after = first.made.after;
        told = refl;
        made = made-more state so_far.after so_far.commits first.commits events so_far.made.after first.made.after held
            so_far.made.made first.made.made;
      };
      stops = subst (λ (some : List (List ℕ)). StopsBefore first.new some first.made.after history) (sym back)
          (stops-line first.new (codes "show") [] first.made.after history line);
    })

-- while the text is made, or put: all lines were answered
pub stopped-told : (state : State) (seed count : ℕ) (text : List ℕ) {events : List Event}
    {history : History} → IsLoaded state seed count text events history
    → StopsWithin state (asked_lines seed count) events history
stopped-told state seed count text {events} {history} loaded =
    let lines = asked_lines seed count in record {
      count = length lines;
      within = omega arith;
      replies = map reply_text loaded.tells.answers ++ loaded.tells.committed ∷ loaded.tells.shown ∷ [];
      commits = loaded.commits;
      after = loaded.tells.after;
      run = subst (λ (some : List (List ℕ)). Run state some (map reply_text loaded.tells.answers
          ++ loaded.tells.committed ∷ loaded.tells.shown ∷ []) loaded.commits loaded.tells.after)
          (sym (take_all (length lines) lines (omega arith))) loaded.tells.run;
      mid = loaded.made.after;
      made = record { after = loaded.made.after; told = refl; made = loaded.made.made };
      stops = inl loaded.made.told;
    }

-- ---- how it ends

loads-all : {state : State} {seed count : ℕ} {events opened : List Event} {history : History}
    {text : List ℕ} → IsOpened events (Recorded opened)
    → IsLoaded state seed count text opened history → GeneratesAll state seed count events history text
loads-all opens loaded = record {
  commits = loaded.commits;
  tells = loaded.tells;
  made = made-all opens loaded.made.told loaded.made.made;
}

-- the text was put
generates-put : {state : State} {seed count : ℕ} {events opened : List Event} {history : History}
    (text : List ℕ) {old new : Option (List ℕ)}
    → IsOpened events (Recorded opened) → IsLoaded state seed count text opened history → new ≡ append_known old text
    → Generates status.Done state seed count events history old new
generates-put text opens loaded put = record { text = text; generates = loads-all opens loaded; put = put }

generates-until : {state : State} {lines : List (List ℕ)} {events opened : List Event} {history : History}
    {old new : Option (List ℕ)}
    → IsOpened events (Recorded opened) → StopsWithin state lines opened history → new ≡ old
    → GeneratesUntil state lines events history old new
generates-until opens stops silent = record {
  count = stops.count;
  replies = stops.replies;
  commits = stops.commits;
  after = stops.after;
  run = stops.run;
  silent = silent;
  mid = stops.mid;
  made = made-all opens stops.made.told stops.made.made;
  stops = stops.stops;
}

-- the text was not put whole
generates-unput : (end : Status) {state : State} {seed count : ℕ} {events opened : List Event}
    {history : History} (text : List ℕ) (old new : Option (List ℕ))
    → IsOpened events (Recorded opened) → IsLoaded state seed count text opened history → FailsToPut end text old new
    → Generates end state seed count events history old new
generates-unput status.Sink text old new opens loaded fails = record {
  text = text;
  generates = loads-all opens loaded;
  put = fails;
}
generates-unput status.NoMemory {state} {seed} {count} text old new opens loaded fails =
    inr (generates-until opens (stopped-told state seed count text loaded) fails)
generates-unput status.Done text old new opens loaded fails = absurd fails
generates-unput status.Words text old new opens loaded fails = absurd fails
generates-unput status.Image text old new opens loaded fails = absurd fails
generates-unput status.Source text old new opens loaded fails = absurd fails
generates-unput status.Disk text old new opens loaded fails = absurd fails
generates-unput status.Found text old new opens loaded fails = absurd fails
generates-unput status.Sizes text old new opens loaded fails = absurd fails
generates-unput status.TooLong text old new opens loaded fails = absurd fails

-- the text was to be put
pub generates-ended : (end : Status) {state : State} {seed count : ℕ} {events opened : List Event}
    {history : History} (text : List ℕ) (old new : Option (List ℕ))
    → IsOpened events (Recorded opened) → IsLoaded state seed count text opened history
    → PutsAndEnds status.Done end text old new
    → Generates end state seed count events history old new
generates-ended end {state} {seed} {count} {events} {opened} {history} text old new opens loaded (inl put) =
    subst (λ (end : Status). Generates end state seed count events history old new) (sym put.0)
    (generates-put text opens loaded put.1)
generates-ended end text old new opens loaded (inr fails) = generates-unput end text old new opens loaded fails

-- it stopped before that
pub generates-stopped : (end : Status) {state : State} (seed count : ℕ) {events opened : List Event}
    {history : History} {old new : Option (List ℕ)}
    → IsOpened events (Recorded opened) → StopsWithin state (asked_lines seed count) opened history → new ≡ old
    → IsTrue (is_stop end) → end ≢ status.Image
    → Generates end state seed count events history old new
generates-stopped status.NoMemory seed count opens stops silent is sound = inr (generates-until opens stops silent)
generates-stopped status.Disk seed count opens stops silent is sound = inr (generates-until opens stops silent)
generates-stopped status.Image seed count opens stops silent is sound = absurd (sound refl)
generates-stopped status.Done seed count opens stops silent is sound = absurd cc
generates-stopped status.Words seed count opens stops silent is sound = absurd cc
generates-stopped status.Source seed count opens stops silent is sound = absurd cc
generates-stopped status.Sink seed count opens stops silent is sound = absurd cc
generates-stopped status.Found seed count opens stops silent is sound = absurd cc
generates-stopped status.Sizes seed count opens stops silent is sound = absurd cc
generates-stopped status.TooLong seed count opens stops silent is sound = absurd cc

-- and that was handed on
pub generates-handed : (end result : Status) (state : State) (seed count : ℕ) (events : List Event)
    (history : History) (old new : Option (List ℕ)) → result ≡ end
    → Generates end state seed count events history old new → Generates result state seed count events history old new
generates-handed end result state seed count events history old new same generates =
    subst (λ (end : Status). Generates end state seed count events history old new) (sym same) generates

-- the image was not opened
pub generates-unopened : (end : Status) (state : State) (seed count : ℕ) {events : List Event}
    {history : History} {old new : Option (List ℕ)}
    → (end ≡ status.Disk) ⊎ (end ≡ status.NoMemory) → IsOpening events history → new ≡ old
    → Generates end state seed count events history old new
generates-unopened end state seed count {events} {history} {old} {new} (inl is) touched same =
    subst (λ (end : Status). Generates end state seed count events history old new) (sym is)
    (inl (record { touched = touched; silent = same }))
generates-unopened end state seed count {events} {history} {old} {new} (inr is) touched same =
    subst (λ (end : Status). Generates end state seed count events history old new) (sym is)
    (inl (record { touched = touched; silent = same }))

-- ---- and which ends it has

pub stop-generates : (end : Status) → IsTrue (is_stop end) → IsTrue (is_generators end) × (end ≢ status.Sizes)
stop-generates status.NoMemory is = (refl, λ same. absurd cc)
stop-generates status.Image is = (refl, λ same. absurd cc)
stop-generates status.Disk is = (refl, λ same. absurd cc)
stop-generates status.Done is = absurd cc
stop-generates status.Words is = absurd cc
stop-generates status.Source is = absurd cc
stop-generates status.Sink is = absurd cc
stop-generates status.Found is = absurd cc
stop-generates status.Sizes is = absurd cc
stop-generates status.TooLong is = absurd cc

pub ends-by-generators : (end wanted : Status) → IsTrue (is_generators wanted) → wanted ≢ status.Sizes
    → (end ≡ wanted) ⊎ IsPutFault end
    → IsTrue (is_generators end) × (end ≢ status.Sizes)
ends-by-generators end wanted is other (inl same) = (rw same is, λ sizes. other (sym same ∙ sizes))
ends-by-generators end wanted is other (inr (inl sink)) = (rw sink refl, λ sizes. absurd cc)
ends-by-generators end wanted is other (inr (inr memory)) = (rw memory refl, λ sizes. absurd cc)

pub refuse-generates : (end : Status) → IsTrue (is_refusers end) → IsTrue (is_generators end)
refuse-generates status.NoMemory is = refl
refuse-generates status.Image is = refl
refuse-generates status.Sink is = refl
refuse-generates status.Disk is = refl
refuse-generates status.Done is = absurd cc
refuse-generates status.Words is = absurd cc
refuse-generates status.Source is = absurd cc
refuse-generates status.Found is = absurd cc
refuse-generates status.Sizes is = absurd cc
refuse-generates status.TooLong is = absurd cc
