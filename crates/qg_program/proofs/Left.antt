-- What a run leaves behind, by how it ended; of the generator's lines `Drawn` says the rest.
use Rattle.std.proofs.Common.{◌≡◌, ◌∙◌, ◌⊎◌, inl, inr, ℕ, ◌+◌, List, [], ◌∷◌, ◌++◌, length, take, false, Option, Some}
use Rattle.std.proofs.Common.{refl, sym, subst, arith}
use Rattle.qg_device.specs.History.{Event, History, Recorded, IfRecorded}
use Rattle.qg_device.specs.Crash.{Leaves}
use Rattle.qg_device.specs.CrashSince.{LeavesSince}
use Rattle.qg_device.proofs.Histories.{same_Recorded}
use Rattle.qg_edge.specs.Appended.{AppendsFront}
use Rattle.qg_grammar.specs.ScriptText.{script_lines}
use Rattle.qg_script.specs.Feeding.{Feeding, IsTooLong, IsWithinLimit}
use Rattle.qg_script.specs.Lines.{CountsTaken, pending}
use Rattle.qg_image.specs.State.{State}
use Rattle.qg_machine.specs.Run.{Run}
use Rattle.qg_crashes.specs.Outcomes.{Rests, Survives}
use Rattle.qg_store.specs.Answering.{IsDoneSoFar}
use Rattle.qg_store.specs.Making.{Makes}
use Rattle.qg_store.specs.Stored.{Stored}
use Rattle.qg_store.proofs.Chained.{MakesSoFar}
use Rattle.qg_store.proofs.LastCommits.{last-itself}
use Rattle.qg_store.proofs.Outlived.{begun-so-far}
use Rattle.qg_program.specs.declared.status.Status.{Status}
use Rattle.qg_program.specs.declared.status.Status.TheVariants as status
use Rattle.qg_program.specs.Leaving.{AreAnswered, AreOfAsked, ArePut, ArePutAsAsked, Asked, Begins, BeginsNext, Input}
use Rattle.qg_program.specs.Leaving.{LeavesBehind}
use Rattle.qg_program.specs.Turning.{FailsToTurn, IsTurn, StopsLine, TurnsPart}
use Rattle.qg_program.proofs.Acknowledged.{acknowledged-stay}
use Rattle.qg_program.proofs.Answered.{HasAnswered, all-lines, answered-limit, first-lines, made-more, next-line}
use Rattle.qg_program.proofs.Answered.{script-line, script-told}
use Rattle.qg_program.proofs.Grown.{leaves-then}
use Rattle.qg_program.proofs.Outlived.{AreBehind, HasOpened, lines-kept, opened-grown, opened-leaves, run-behind}
use Rattle.qg_program.proofs.Steps.{append_known-nil, run-snoc}

-- what an image that was opened rests in, where the disk tells
pub rests-told : (history : History) (opened : List Event) (state : State) → history ≡ Recorded opened
    → IfRecorded history (Rests state) → Rests state opened
rests-told history opened state told rests = subst (λ (h : History). IfRecorded h (Rests state)) told rests

-- ---- an image that was not opened

-- of no commits none is the first
none-first : (first : List State) (commit : State) (later : List State) → [] ≡ first ++ commit ∷ later → ⊥
none-first [] commit later none = absurd cc
none-first (state ∷ first) commit later none = absurd cc

module _ (state : State) (events after : List Event) (old new : Option (List ℕ))
    (survives : Survives (length events + 1) state [] after)
    (early : (image : List ℕ) → LeavesSince (length events) after image (length events) → Leaves events image) where
  pub unopened : (end : Status) (asked : Asked) → AreOfAsked end asked [] → ArePutAsAsked end asked [] old new
      → Begins end state asked [] [] → LeavesBehind end state asked events after old new
  unopened end asked answered put begins = record {
    lines = [];
    replies = [];
    commits = [];
    final = state;
    run = (refl, refl);
    answered = answered;
    put = put;
    begun = [];
    begins = begins;
    leaves = inl (refl, survives);
    acknowledged = λ first commit later moment none. absurd (none-first first commit later none);
    early = early;
    tied = λ count below. absurd (omega arith);
  }

  module _ (input : Option (List ℕ)) (same : new ≡ old) where
    pub leaves-unopened : (end : Status) → (end ≡ status.Disk) ⊎ (end ≡ status.NoMemory)
        → LeavesBehind end state (Input input) events after old new
    leaves-unopened end (inl is) =
        subst (λ (end : Status). LeavesBehind end state (Input input) events after old new) (sym is)
        (unopened status.Disk (Input input) (λ bytes told. refl) (same ∙ append_known-nil old) (inl refl))
    leaves-unopened end (inr is) =
        subst (λ (end : Status). LeavesBehind end state (Input input) events after old new) (sym is)
        (unopened status.NoMemory (Input input) (λ bytes told. refl) (same ∙ append_known-nil old) (inl refl))

-- ---- an image that was opened

-- some lines were answered in the end, and the next one perhaps began commits
pub record HasEnded (end : Status) (state : State) (asked : Asked) (opened after : List Event)
    (old new : Option (List ℕ)) : Type 0 where
  pub lines : List (List ℕ)
  pub replies : List (List ℕ)
  pub commits : List State
  pub final : State
  pub run : Run state lines replies commits final
  pub answered : AreOfAsked end asked lines
  pub put : ArePutAsAsked end asked replies old new
  pub now : List Event
  pub made : Makes state.held commits opened now
  pub begun : List State
  pub begins : Begins end final asked lines begun
  pub next : AreBehind final begun now after

pub leaves-ended : (end : Status) (state : State) (asked : Asked) (events opened after : List Event)
    (old new : Option (List ℕ)) → HasEnded end state asked opened after old new → HasOpened state events opened
    → LeavesBehind end state asked events after old new
leaves-ended end state asked events opened after old new is opening =
    let all =
    run-behind state state is.final is.lines is.replies is.commits is.begun opened is.now after
    (last-itself state) is.run
    is.made is.next in
    record {
      lines = is.lines;
      replies = is.replies;
      commits = is.commits;
      final = is.final;
      run = is.run;
      answered = is.answered;
      put = is.put;
      begun = is.begun;
      begins = is.begins;
      leaves = inr (opened-leaves state events opened after (is.commits ++ is.begun) opening all);
      acknowledged = acknowledged-stay state events opened after (is.commits ++ is.begun) opening all;
      early = λ image leaves.
          leaves-then events after image (opened-grown state events opened after (is.commits ++ is.begun) opening all)
          leaves;
      tied = λ count below.
          lines-kept state is.final is.lines is.replies is.commits is.begun events opened is.now after opening is.run
          is.made is.next (count + 1);
    }

-- ---- by what was answered

module _ (state : State) (input : Option (List ℕ)) (opened : List Event) (pend : Option (List ℕ)) (store : Stored)
    (history : History) (old mid : Option (List ℕ))
    (so_far : HasAnswered state input opened pend store history old mid) (after : List Event) where
  -- nothing more was done
  ended-there : (end : Status) (new : Option (List ℕ)) → after ≡ so_far.events
      → ((bytes : List ℕ) → input ≡ Some bytes → AreAnswered end bytes so_far.lines)
      → ArePut end so_far.replies old new → Begins end so_far.present (Input input) so_far.lines []
      → HasEnded end state (Input input) opened after old new
  ended-there end new same answered put begins = record {
    lines = so_far.lines;
    replies = so_far.replies;
    commits = so_far.commits;
    final = so_far.present;
    run = so_far.run;
    answered = answered;
    put = put;
    now = so_far.events;
    made = so_far.made;
    begun = [];
    begins = begins;
    next = record { later = tt; made = same };
  }

  -- the first lines
  first-answered : (bytes : List ℕ) → input ≡ Some bytes
      → so_far.lines ≡ take (length so_far.lines) (script_lines bytes)
  first-answered bytes told = first-lines bytes so_far.lines pend (script-told so_far bytes told)

  -- and perhaps calls of the next one's commits
  ended-before : (end : Status) (new : Option (List ℕ)) → StopsLine so_far.present pend so_far.events (Recorded after)
      → ((bytes : List ℕ) → input ≡ Some bytes → AreAnswered end bytes so_far.lines) → ArePut end so_far.replies old new
      → ((begun : List State) → (begun ≡ []) ⊎ BeginsNext so_far.present (Input input) so_far.lines begun
      → Begins end so_far.present (Input input) so_far.lines begun)
      → HasEnded end state (Input input) opened after old new
  ended-before end new (inl none) answered put begins =
      ended-there end new (same_Recorded after so_far.events none) answered put (begins [] (inl refl))
  ended-before end new (inr breaks) answered put begins =
      let given = breaks.starts.command in
      let done : IsDoneSoFar so_far.present given so_far.events (Recorded after) = inr breaks.starts.starts in
      let begun = begun-so-far so_far.present given so_far.present so_far.events (Recorded after)
      (last-itself so_far.present) done in
      let same : begun.after ≡ after = sym (same_Recorded after begun.after begun.told) in
      record {
        lines = so_far.lines;
        replies = so_far.replies;
        commits = so_far.commits;
        final = so_far.present;
        run = so_far.run;
        answered = answered;
        put = put;
        now = so_far.events;
        made = so_far.made;
        begun = begun.commits;
        begins = begins begun.commits (inr (record {
          line = breaks.line;
          next = λ bytes told.
              let script = script-told so_far bytes told in
              let following = next-line bytes so_far.lines pend breaks.after breaks.line script breaks.takes in
              (following.later, following.are);
          command = given;
          asks = breaks.starts.asked;
          are = begun.are;
        }));
        next = record {
          later = begun.later;
          made =
              subst (λ (events : List Event). MakesSoFar so_far.present.held begun.commits so_far.events events) same
              begun.made;
        };
      }

  -- the sink failed: one line more, and a front of its reply
  ended-sink : (next : Stored) (new : Option (List ℕ))
      → TurnsPart so_far.present so_far.events pend next (Recorded after) mid new
      → HasEnded status.Sink state (Input input) opened after old new
  ended-sink next new turns =
      let line = turns.replies.line in
      let is = turns.replies.answered in
      let lines = so_far.lines ++ line ∷ [] in
      let same : after ≡ is.made.after = same_Recorded after is.made.after is.made.told in
      record {
        lines = so_far.lines ++ line ∷ [];
        replies = so_far.replies ++ turns.reply ∷ [];
        commits = so_far.commits ++ is.commits;
        final = is.new;
        run =
            run-snoc state so_far.present is.new so_far.lines so_far.replies line turns.reply so_far.commits is.commits
            so_far.run is.turn;
        answered = λ bytes told.
            let script = script-told so_far bytes told in
            first-lines bytes lines turns.after
            (script-line (Some bytes) pend turns.after so_far.lines line script turns.replies.takes);
        put = record {
          whole = so_far.replies;
          last = turns.reply;
          are = refl;
          put = subst (λ (held : Option (List ℕ)). AppendsFront held new turns.reply) so_far.put turns.put;
        };
        now = is.made.after;
        made =
            made-more state so_far.present so_far.commits is.commits opened so_far.events is.made.after so_far.held
            so_far.made is.made.made;
        begun = [];
        begins = refl;
        next = record { later = tt; made = same };
      }

  -- what a turn that fails ends
  ended-failed : (end : Status) (feeding : Feeding) (left : Option (List ℕ)) (next : Stored) (new : Option (List ℕ))
      → CountsTaken input left 0 feeding.taken → IsWithinLimit feeding → (end ≡ status.TooLong → IsTooLong feeding)
      → FailsToTurn end so_far.present so_far.events pend (pending feeding left) next (Recorded after) mid new
      → HasEnded end state (Input input) opened after old new
  ended-failed status.Sink feeding left next new counted within too_long fails = ended-sink next new fails
  ended-failed status.Source feeding left next new counted within too_long fails =
      ended-there status.Source new (same_Recorded after so_far.events fails.1) first-answered (fails.2
      ∙ so_far.put) refl
  ended-failed status.NoMemory feeding left next new counted within too_long fails =
      ended-before status.NoMemory new fails.0 first-answered (fails.1 ∙ so_far.put) (λ begun begins. begins)
  ended-failed status.Disk feeding left next new counted within too_long fails =
      ended-before status.Disk new fails.0 first-answered (fails.1 ∙ so_far.put) (λ begun begins. begins)
  ended-failed status.TooLong feeding left next new counted within too_long fails =
      let taken : (bytes : List ℕ) → input ≡ Some bytes → CountsTaken (Some bytes) left 0 feeding.taken =
      λ bytes told. subst (λ (i : Option (List ℕ)). CountsTaken i left 0 feeding.taken) told counted in
      ended-there status.TooLong new (same_Recorded after so_far.events fails.1)
      (λ bytes told.
      answered-limit bytes feeding left so_far told fails.0 (record { counted = taken bytes told; within = within })
      (too_long refl))
      (fails.2 ∙ so_far.put) refl
  ended-failed status.Done feeding left next new counted within too_long fails = absurd fails
  ended-failed status.Words feeding left next new counted within too_long fails = absurd fails
  ended-failed status.Image feeding left next new counted within too_long fails = absurd fails
  ended-failed status.Found feeding left next new counted within too_long fails = absurd fails
  ended-failed status.Sizes feeding left next new counted within too_long fails = absurd fails

-- ---- the end

-- the turn that finds nothing left
pub leaves-all : {state : State} {input : Option (List ℕ)} {events opened after : List Event} {pend : Option (List ℕ)}
    {before : Stored} {history told : History} {old mid new : Option (List ℕ)}
    → (left : Option (List ℕ)) (store : Stored) → (so_far : HasAnswered state input opened pend before history old mid)
    → HasOpened state events opened → told ≡ Recorded after
    → IsTurn false so_far.present so_far.events pend left store told mid new
    → LeavesBehind status.Done state (Input input) events after old new
leaves-all {state} {input} {events} {opened} {after} {pend} {before} {history} {told} {old} {mid} {new} left store
    so_far opening now over =
    let same : after ≡ so_far.events = same_Recorded after so_far.events (sym now ∙ over.2) in
    let ended = ended-there state input opened pend before history old mid so_far after status.Done new same
    (λ bytes is. all-lines bytes so_far.lines pend (script-told so_far bytes is) over.0) (over.3 ∙ so_far.put) refl in
    leaves-ended status.Done state (Input input) events opened after old new ended opening

-- a turn that fails
pub leaves-failed : {state : State} {input : Option (List ℕ)} {events opened after : List Event}
    {pend : Option (List ℕ)}
    {before : Stored} {history told : History} {old mid new : Option (List ℕ)}
    → (end : Status) (feeding : Feeding) (left : Option (List ℕ)) (store : Stored)
    → (so_far : HasAnswered state input opened pend before history old mid)
    → HasOpened state events opened → told ≡ Recorded after → CountsTaken input left 0 feeding.taken
    → IsWithinLimit feeding
    → (end ≡ status.TooLong → IsTooLong feeding)
    → FailsToTurn end so_far.present so_far.events pend (pending feeding left) store told mid new
    → LeavesBehind end state (Input input) events after old new
leaves-failed {state} {input} {events} {opened} {after} {pend} {before} {history} {told} {old} {mid} {new} end feeding
    left
    store so_far opening now counted within too_long fails =
    let known =
    subst
    (λ (h : History). FailsToTurn end so_far.present so_far.events pend (pending feeding left) store h mid
    new)
    now fails in
    leaves-ended end state (Input input) events opened after old new
    (ended-failed state input opened pend before history old mid so_far after end feeding left store new counted within
    too_long known) opening
