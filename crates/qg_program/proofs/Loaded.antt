-- The generator's lines were answered so far, line by line, and what follows at the end.
use Rattle.std.proofs.Common.{◌≡◌, inl, inr, ℕ, zero, suc, ◌+◌, Bool, true, false, List, [], ◌∷◌, ◌++◌, length}
use Rattle.std.proofs.Common.{map, drop, refl, sym, ap, ◌∙◌, subst, cond, arith, append_assoc}
use Rattle.std.specs.Prelude.{not}
use Rattle.std.specs.List.{count_by}
use Rattle.std.proofs.Math.Seq.{drop-append_seam, take-append_seam}
use Rattle.std.proofs.lemmas.List.{append-nil, drop-append-le, length-append, map-append, take-append-le}
use Rattle.std.proofs.lemmas.List.Sums.{sum_by_push}
use Rattle.qg_device.specs.History.{Event, History, Recorded}
use Rattle.qg_num.specs.declared.answer.Answer.{Answer}
use Rattle.qg_num.specs.declared.command.Command.{Command}
use Rattle.qg_grammar.specs.ReplyText.{reply_text}
use Rattle.qg_grammar.specs.ScriptText.{command_text}
use Rattle.qg_image.specs.State.{Committed, State}
use Rattle.qg_machine.specs.Run.{Run}
use Rattle.qg_store.specs.Stored.{Stored, IsStoreOf}
use Rattle.qg_generator.specs.GeneratedScript.{generated_script, line_drawn, lines_drawn}
use Rattle.qg_store.proofs.HeldAfter.{held_after-append, turn-held}
use Rattle.qg_store.proofs.Synced.{held_after}
use Rattle.qg_program.specs.declared.generate.Tally.{Tally}
use Rattle.qg_program.specs.Following.{StopsBefore}
use Rattle.qg_program.specs.Generating.{is_refused, lines_of}
use Rattle.qg_program.specs.Loading.{AreRun, IsAnswered, StopsWithin, counted}
use Rattle.qg_program.specs.Turning.{IsLineSoFar}
use Rattle.qg_program.proofs.Answered.{made-more}
use Rattle.qg_program.proofs.Steps.{run-snoc}

-- ---- what the last commit holds

pub run-held : (old : State) (lines replies : List (List ℕ)) (commits : List State) (new : State)
    → Run old lines replies commits new
    → held_after old.held commits ≡ new.held
run-held old [] [] commits new run = ap (held_after old.held) run.1 ∙ sym (ap (λ (state : State). state.held) run.0)
run-held old (line ∷ lines) (reply ∷ replies) commits new run =
    ap (held_after old.held) run.5
    ∙ held_after-append old.held run.1 run.2
    ∙ ap (λ (held : Committed). held_after held run.2) (turn-held old line reply run.1 run.0 run.3)
    ∙ run-held run.0 lines replies run.2 new run.4
run-held old [] (reply ∷ replies) commits new run = absurd run
run-held old (line ∷ lines) [] commits new run = absurd run

-- ---- counts

abbrev pub is_done : Answer → Bool
is_done answer = not (is_refused answer)

abbrev one : (Answer → Bool) → Answer → ℕ
one test answer = cond (test answer) 1 0

one-is : (test : Answer → Bool) (answer : Answer) (b : Bool) → test answer ≡ b → one test answer ≡ cond b 1 0
one-is test answer b is = ap (λ (b : Bool). cond b 1 0) is

count-snoc : (test : Answer → Bool) (answers : List Answer) (answer : Answer) (b : Bool) → test answer ≡ b
    → count_by test (answers ++ answer ∷ []) ≡ count_by test answers + cond b 1 0
count-snoc test answers answer b is =
    let all = sum_by_push (one test) answers answer in
    let value = one-is test answer b is in
    omega (arith, all, value)

counted-done : (tally : Tally) (answers : List Answer) (answer : Answer) (done : Bool) → is_refused answer ≡ not done
    → tally.done ≡ count_by is_done answers → (counted done tally).done ≡ count_by is_done (answers ++ answer ∷ [])
counted-done tally answers answer true judged is =
    let more : count_by is_done (answers ++ answer ∷ []) ≡ count_by is_done answers + 1 =
    count-snoc is_done answers answer true (ap not judged) in
    omega (arith, is, more)
counted-done tally answers answer false judged is =
    let more : count_by is_done (answers ++ answer ∷ []) ≡ count_by is_done answers + 0 =
    count-snoc is_done answers answer false (ap not judged) in
    omega (arith, is, more)

counted-refused : (tally : Tally) (answers : List Answer) (answer : Answer) (done : Bool) → is_refused answer ≡ not done
    → tally.refused ≡ count_by is_refused answers
    → (counted done tally).refused ≡ count_by is_refused (answers ++ answer ∷ [])
counted-refused tally answers answer true judged is =
    let more : count_by is_refused (answers ++ answer ∷ []) ≡ count_by is_refused answers + 0 =
    count-snoc is_refused answers answer false judged in
    omega (arith, is, more)
counted-refused tally answers answer false judged is =
    let more : count_by is_refused (answers ++ answer ∷ []) ≡ count_by is_refused answers + 1 =
    count-snoc is_refused answers answer true judged in
    omega (arith, is, more)

pub counted-one : (tally : Tally) (done : Bool) → (counted done tally).done + (counted done tally).refused
    ≡ tally.done + tally.refused + 1
counted-one tally true = omega arith
counted-one tally false = omega arith

-- ---- how many lines there are

lines-length : (count seed : ℕ) → length (lines_drawn count seed) ≡ count
lines-length zero seed = refl
lines-length (suc count) seed = ap suc (lines-length count (line_drawn seed).behind)

pub script-length : (seed count : ℕ) → length (generated_script seed count) ≡ 5 + count
script-length seed count = let drawn = lines-length count seed in omega (arith, drawn)

-- ---- line by line

-- of all commands some are given, which were run, and the rest is still to come
pub record HasRun (state : State) (all rest : List Command) (tally : Tally) (store : Stored) (events : List Event)
    (history : History) : Type 0 where
  pub given : List Command
  pub parted : all ≡ given ++ rest
  pub run : AreRun state (lines_of given) tally store events history

-- at the beginning
pub run-none : (state : State) (all : List Command) (store : Stored) (events : List Event)
    (history : History) → IsStoreOf store state history
    → history ≡ Recorded events → HasRun state all all (record { done = 0; refused = 0 }) store events history
run-none state all store events history stands told = record {
  given = [];
  parted = refl;
  run = record {
    answers = [];
    commits = [];
    after = state;
    run = (refl, refl);
    done = refl;
    refused = refl;
    stands = stands;
    made = record { after = events; told = told; made = refl };
  };
}

-- the lines of commands, and of one more
lines-snoc : (given : List Command) (command : Command) → lines_of (given ++ command ∷ []) ≡ lines_of given
    ++ command_text command ∷ []
lines-snoc given command = map-append command_text given (command ∷ [])

replies-snoc : (answers : List Answer) (answer : Answer)
    → map reply_text (answers ++ answer ∷ []) ≡ map reply_text answers ++ reply_text answer ∷ []
replies-snoc answers answer = map-append reply_text answers (answer ∷ [])

-- one line more
run-answered : (state : State) (lines : List (List ℕ)) (line : List ℕ) (tally : Tally)
    (done : Bool) {before store : Stored} {events : List Event} {mid history : History}
    → (so_far : AreRun state lines tally before events mid)
    → IsAnswered so_far.after so_far.made.after line done store history
    → AreRun state (lines ++ line ∷ []) (counted done tally) store events history
run-answered state lines line tally done {before} {store} {events} {mid} {history} so_far is =
    let held = run-held state lines (map reply_text so_far.answers) so_far.commits so_far.after so_far.run in
    let snoc = run-snoc state so_far.after is.answered.new lines (map reply_text so_far.answers) line
    (reply_text is.answer) so_far.commits is.answered.commits so_far.run is.answered.turn in
    record {
      answers = so_far.answers ++ is.answer ∷ [];
      commits = so_far.commits ++ is.answered.commits;
      after = is.answered.new;
      run = subst (λ (replies : List (List ℕ)). Run state (lines ++ line ∷ []) replies
          (so_far.commits ++ is.answered.commits) is.answered.new)
          (sym (replies-snoc so_far.answers is.answer)) snoc;
      done = counted-done tally so_far.answers is.answer done is.judged so_far.done;
      refused = counted-refused tally so_far.answers is.answer done is.judged so_far.refused;
      stands = is.answered.stands;
      made = record {
        after = is.answered.made.after;
        told = is.answered.made.told;
        made = made-more state so_far.after so_far.commits is.answered.commits events so_far.made.after
            is.answered.made.after held so_far.made.made is.answered.made.made;
      };
    }

pub run-more : (state : State) (all rest : List Command) (command : Command) (later : List Command) (tally : Tally)
    (done : Bool) {before store : Stored} {events : List Event}
    {mid history : History} → rest ≡ command ∷ later
    → (so_far : HasRun state all rest tally before events mid)
    → IsAnswered so_far.run.after so_far.run.made.after (command_text command) done store history
    → HasRun state all later (counted done tally) store events history
run-more state all rest command later tally done {before} {store} {events} {mid} {history} is so_far answered = record {
  given = so_far.given ++ command ∷ [];
  parted = so_far.parted ∙ ap (λ (more : List Command). so_far.given ++ more) is
      ∙ sym (append_assoc so_far.given (command ∷ []) later);
  run = subst (λ (lines : List (List ℕ)). AreRun state lines (counted done tally) store events history)
      (sym (lines-snoc so_far.given command))
      (run-answered state (lines_of so_far.given) (command_text command) tally done so_far.run answered);
}

-- all lines
pub run-all : (state : State) (all rest : List Command) (tally : Tally) {store : Stored} {events : List Event}
    {history : History} → rest ≡ []
    → HasRun state all rest tally store events history → AreRun state (lines_of all) tally store events history
run-all state all rest tally {store} {events} {history} none so_far =
    let same : so_far.given ≡ all = sym (append-nil so_far.given)
    ∙ sym (ap (λ (more : List Command). so_far.given ++ more) none) ∙ sym so_far.parted in
    subst (λ (commands : List Command). AreRun state (lines_of commands) tally store events history) same so_far.run

-- ---- where it stops

-- behind some lines
pub stops-behind : (state : State) (lines later : List (List ℕ)) (tally : Tally) {store : Stored} {events : List Event}
    {mid history : History}
    → (so_far : AreRun state lines tally store events mid) → StopsBefore so_far.after later so_far.made.after history
    → StopsWithin state (lines ++ later) events history
stops-behind state lines later tally {store} {events} {mid} {history} so_far stops = record {
  count = length lines;
  within = omega (arith, length-append lines later);
  replies = map reply_text so_far.answers;
  commits = so_far.commits;
  after = so_far.after;
  run = subst (λ (some : List (List ℕ)). Run state some (map reply_text so_far.answers) so_far.commits so_far.after)
      (sym (take-append_seam lines later)) so_far.run;
  mid = so_far.made.after;
  made = record { after = so_far.made.after; told = refl; made = so_far.made.made };
  stops = subst (λ (some : List (List ℕ)). StopsBefore so_far.after some so_far.made.after history)
      (sym (drop-append_seam lines later)) stops;
}

-- before a line, in whose midst it stops
pub stops-line : (state : State) (line : List ℕ) (later : List (List ℕ)) (events : List Event)
    (history : History) → IsLineSoFar state line events history
    → StopsBefore state (line ∷ later) events history
stops-line state line later events history (inl none) = inl none
stops-line state line later events history (inr starts) =
    inr (record { line = line; later = later; first = refl; starts = starts })

pub run-stopped : (state : State) (all rest : List Command) (command : Command) (later : List Command)
    (tally : Tally) {store : Stored} {events : List Event}
    {mid : History} (history : History) → rest ≡ command ∷ later
    → (so_far : HasRun state all rest tally store events mid)
    → IsLineSoFar so_far.run.after (command_text command) so_far.run.made.after history
    → StopsWithin state (lines_of all) events history
run-stopped state all rest command later tally {store} {events} {mid} history is so_far line =
    let lines : lines_of so_far.given ++ lines_of rest ≡ lines_of all = sym (map-append command_text so_far.given rest)
    ∙ sym (ap lines_of so_far.parted) in
    let first : lines_of rest ≡ command_text command ∷ lines_of later = ap lines_of is in
    subst (λ (all : List (List ℕ)). StopsWithin state all events history) lines
    (stops-behind state (lines_of so_far.given) (lines_of rest) tally so_far.run
    (subst (λ (some : List (List ℕ)). StopsBefore so_far.run.after some so_far.run.made.after history) (sym first)
    (stops-line so_far.run.after (command_text command) (lines_of later) so_far.run.made.after history line)))

-- within some lines it stops within these and more
stops-longer : (state : State) (lines more : List (List ℕ)) (events : List Event) (history : History)
    → StopsBefore state lines events history
    → StopsBefore state (lines ++ more) events history
stops-longer state lines more events history (inl none) = inl none
stops-longer state lines more events history (inr breaks) = inr (record {
  line = breaks.line;
  later = breaks.later ++ more;
  first = ap (λ (some : List (List ℕ)). some ++ more) breaks.first;
  starts = breaks.starts;
})

pub stopped-early : (state : State) (lines more : List (List ℕ)) (events : List Event) (history : History)
    → StopsWithin state lines events history
    → StopsWithin state (lines ++ more) events history
stopped-early state lines more events history stops = record {
  count = stops.count;
  within = omega (arith, stops.within, length-append lines more);
  replies = stops.replies;
  commits = stops.commits;
  after = stops.after;
  run = subst (λ (some : List (List ℕ)). Run state some stops.replies stops.commits stops.after)
      (sym (take-append-le stops.count lines more stops.within)) stops.run;
  mid = stops.mid;
  made = stops.made;
  stops = subst (λ (some : List (List ℕ)). StopsBefore stops.after some stops.mid history)
      (sym (drop-append-le stops.count lines more stops.within))
      (stops-longer stops.after (drop stops.count lines) more stops.mid history stops.stops);
}
