-- What was answered so far, turn by turn, and what follows at the end.
use Rattle.std.proofs.Common.{◌≡◌, ◌⊎◌, inl, inr, ℕ, ◌+◌, ◌-◌, ◌≤◌, List, [], ◌∷◌, ◌++◌, length, take, drop, true}
use Rattle.std.proofs.Common.{false, Option, Some, None, refl, sym, ap, ◌∙◌, subst, arith, append_assoc}
use Rattle.std.specs.Prelude.{⊤}
use Rattle.std.specs.List.{concat}
use Rattle.std.specs.Io.KnownBytes.{append_known, IsAtEnd}
use Rattle.std.proofs.Math.Seq.{drop-append_seam, take-append_seam, take-append-add}
use Rattle.std.proofs.lemmas.List.{append-nil, length-append, nil_from_length, take-append-le}
use Rattle.qg_device.specs.History.{Event, History, Recorded}
use Rattle.qg_edge.specs.Appended.{AppendsFront}
use Rattle.qg_grammar.specs.ScriptText.{script_lines, longest_script}
use Rattle.qg_script.specs.Feeding.{Feeding, HoldsNoNewline, IsTooLong, IsWithinLimit}
use Rattle.qg_script.specs.Lines.{LosesLine, TakesLine, pending, CountsTaken}
use Rattle.qg_image.specs.State.{Committed, State}
use Rattle.qg_machine.specs.Run.{Run}
use Rattle.qg_store.specs.CommitOpened.{IsOpened}
use Rattle.qg_store.specs.Making.{Makes}
use Rattle.qg_store.specs.Stored.{Stored, IsStoreOf}
use Rattle.qg_store.proofs.Synced.{Makes-append, held_after, synced-Makes}
use Rattle.qg_program.specs.declared.status.Status.{Status}
use Rattle.qg_program.specs.declared.status.Status.TheVariants as status
use Rattle.qg_program.specs.Following.{Follows, FollowsAll, FollowsPart, FollowsTaken, FollowsUntil, MakesAll}
use Rattle.qg_program.specs.Following.{StopsBefore}
use Rattle.qg_program.specs.Running.{AreLinesTaken, IsTaken, ended_lines}
use Rattle.qg_program.specs.Turning.{TurnsPart, IsTurn, FailsToTurn, StopsLine}
use Rattle.qg_program.proofs.EndedLines.{ended_lines-line, ended_lines-none}
use Rattle.qg_store.proofs.HeldAfter.{held_after-append, turn-held}
use Rattle.qg_program.proofs.Steps.{append_known-nil, put-snoc, run-snoc}

-- these lines ended in front of what is left
pub record IsEndedFront (input : List ℕ) (lines : List (List ℕ)) (left : List ℕ) : Type 0 where
  pub front : List ℕ
  pub parted : input ≡ front ++ left
  pub ended : (tail : List ℕ) → ended_lines (front ++ tail) ≡ lines ++ ended_lines tail

-- these lines are the first of an input of which so much is left
pub record IsAhead (input : List ℕ) (lines : List (List ℕ)) (left : List ℕ) : Type 0 where
  pub ahead : script_lines input ≡ lines ++ script_lines left
  pub limit : IsEndedFront input lines left ⊎ (left ≡ [])

-- so they are where the input is told, and what is left is told exactly there
abbrev pub IsScript : Option (List ℕ) → List (List ℕ) → Option (List ℕ) → Type 0
IsScript None lines None = ⊤
IsScript None lines (Some left) = ⊥
IsScript (Some input) lines None = ⊥
IsScript (Some input) lines (Some left) = IsAhead input lines left

-- some lines of the input were answered and their replies put; so much of it is left. The store stands for the present
-- state, and since it was opened the disk was made to hold what was committed
pub record HasAnswered (state : State) (input : Option (List ℕ)) (opened : List Event) (pend : Option (List ℕ))
    (store : Stored) (history : History) (old new : Option (List ℕ)) : Type 0 where
  pub lines : List (List ℕ)
  pub replies : List (List ℕ)
  pub commits : List State
  pub present : State
  pub run : Run state lines replies commits present
  pub put : new ≡ append_known old (concat replies)
  pub script : IsScript input lines pend
  pub stands : IsStoreOf store present history
  pub events : List Event
  pub known : history ≡ Recorded events
  pub made : Makes state.held commits opened events
  pub held : held_after state.held commits ≡ present.held

-- at the beginning
script-none : (input : Option (List ℕ)) → IsScript input [] input
script-none None = tt
script-none (Some input) =
    record { ahead = refl; limit = inl (record { front = []; parted = refl; ended = λ tail. refl }) }

pub answered-none : (state : State) (input : Option (List ℕ)) (opened : List Event) (pend : Option (List ℕ))
    (store : Stored) (history : History) (old : Option (List ℕ))
    → pend ≡ input → IsStoreOf store state history → history ≡ Recorded opened
    → HasAnswered state input opened pend store history old old
answered-none state input opened pend store history old all stands known = record {
  lines = [];
  replies = [];
  commits = [];
  present = state;
  run = (refl, refl);
  put = append_known-nil old;
  script = subst (λ (left : Option (List ℕ)). IsScript input [] left) (sym all) (script-none input);
  stands = stands;
  events = opened;
  known = known;
  made = refl;
  held = refl;
}

-- a feed that has taken nothing holds nothing
pub pending-none : (left : Option (List ℕ)) → pending (record { taken = 0; rest = [] }) left ≡ left
pending-none None = refl
pending-none (Some left) = refl

-- a line that ended is one more in front
front-line : {input line after : List ℕ} {lines : List (List ℕ)} {before : List ℕ} → IsEndedFront input lines before
    → LosesLine before after line
    → before ≡ line ++ 10 ∷ after → IsEndedFront input (lines ++ line ∷ []) after
front-line {input} {line} {after} {lines} {before} is loses parted =
    let turned : (tail : List ℕ) → (is.front ++ (line ++ 10 ∷ [])) ++ tail ≡ is.front ++ (line ++ 10 ∷ tail) =
    λ tail. append_assoc is.front (line ++ 10 ∷ []) tail
    ∙ ap (λ (bytes : List ℕ). is.front ++ bytes) (append_assoc line (10 ∷ []) tail) in
    record {
      front = is.front ++ (line ++ 10 ∷ []);
      parted = is.parted ∙ ap (λ (bytes : List ℕ). is.front ++ bytes) parted ∙ sym (turned after);
      ended = λ tail.
          ap ended_lines (turned tail) ∙ is.ended (line ++ 10 ∷ tail)
          ∙ ap (λ (more : List (List ℕ)). lines ++ more) (ended_lines-line line tail loses.plain)
          ∙ sym (append_assoc lines (line ∷ []) (ended_lines tail));
    }

-- nothing is left, so nothing more is lost
nothing-lost : {after line : List ℕ} → LosesLine [] after line → ⊥
nothing-lost {after} {line} loses = absurd cc

limit-line : {input line before after : List ℕ} {lines : List (List ℕ)}
    → IsEndedFront input lines before ⊎ (before ≡ []) → LosesLine before after line
    → IsEndedFront input (lines ++ line ∷ []) after ⊎ (after ≡ [])
limit-line {input} {line} {before} {after} (inl is) loses = elim loses.parted [
  | inl parted ↦ inl (front-line is loses parted)
  | inr all ↦ inr all.1
]
limit-line {input} {line} {before} {after} (inr nothing) loses =
    absurd (nothing-lost (subst (λ (bytes : List ℕ). LosesLine bytes after line) nothing loses))

-- one line more
ahead-line : (input : List ℕ) (lines : List (List ℕ)) {line before after : List ℕ}
    → script_lines input ≡ lines ++ script_lines before → LosesLine before after line
    → script_lines input ≡ (lines ++ line ∷ []) ++ script_lines after
ahead-line input lines {line} {before} {after} ahead loses =
    ahead ∙ ap (λ (more : List (List ℕ)). lines ++ more) loses.first
    ∙ sym (append_assoc lines (line ∷ []) (script_lines after))

pub script-line : (input before after : Option (List ℕ)) (lines : List (List ℕ)) (line : List ℕ)
    → IsScript input lines before → TakesLine before after line
    → IsScript input (lines ++ line ∷ []) after
script-line None None None lines line script takes = tt
script-line None None (Some after) lines line script takes = absurd takes
script-line None (Some before) after lines line script takes = absurd script
script-line (Some input) None after lines line script takes = absurd script
script-line (Some input) (Some before) None lines line script takes = absurd takes
script-line (Some input) (Some before) (Some after) lines line script takes =
    record { ahead = ahead-line input lines script.ahead takes; limit = limit-line script.limit takes }

-- commits of the present state behind those that led to it
pub made-more : (state present : State) (first more : List State) (before mid after : List Event)
    → held_after state.held first ≡ present.held
    → Makes state.held first before mid → Makes present.held more mid after
    → Makes state.held (first ++ more) before after
made-more state present first more before mid after held made later =
    Makes-append state.held first more before mid after made (subst (λ (held : Committed). Makes held more mid after)
    (sym held) later)

-- a turn that goes on
pub answered-more : {state : State} {input : Option (List ℕ)} {opened : List Event} {pend : Option (List ℕ)}
    {before store : Stored} {history told : History} {old mid new : Option (List ℕ)}
    → (after : Option (List ℕ)) → (so_far : HasAnswered state input opened pend before history old mid)
    → IsTurn true so_far.present so_far.events pend after store told mid new
    → HasAnswered state input opened after store told old new
answered-more {state} {input} {opened} {pend} {before} {store} {history} {told} {old} {mid} {new} after so_far turns =
    let line = turns.replies.line in
    let is = turns.replies.answered in
    record {
      lines = so_far.lines ++ line ∷ [];
      replies = so_far.replies ++ turns.reply ∷ [];
      commits = so_far.commits ++ is.commits;
      present = is.new;
      run = run-snoc state so_far.present is.new so_far.lines so_far.replies line turns.reply so_far.commits is.commits
          so_far.run is.turn;
      put = turns.put ∙ ap (λ (told : Option (List ℕ)). append_known told turns.reply) so_far.put
          ∙ put-snoc old so_far.replies turns.reply;
      script = script-line input pend after so_far.lines line so_far.script turns.replies.takes;
      stands = is.stands;
      events = is.made.after;
      known = is.made.told;
      made = made-more state so_far.present so_far.commits is.commits opened so_far.events is.made.after so_far.held
          so_far.made is.made.made;
      held = held_after-append state.held so_far.commits is.commits
          ∙ ap (λ (held : Committed). held_after held is.commits) so_far.held
          ∙ turn-held so_far.present line turns.reply is.commits is.new is.turn;
    }

-- ---- which lines were answered

-- all of them, where nothing is left
pub all-lines : (input : List ℕ) (lines : List (List ℕ)) (left : Option (List ℕ)) → IsScript (Some input) lines left
    → IsAtEnd left → lines ≡ script_lines input
all-lines input lines None script end = absurd script
all-lines input lines (Some left) script end =
    sym (script.ahead ∙ ap (λ (bytes : List ℕ). lines ++ script_lines bytes) end ∙ append-nil lines)

-- the first ones
pub first-lines : (input : List ℕ) (lines : List (List ℕ)) (left : Option (List ℕ)) → IsScript (Some input) lines left
    → lines ≡ take (length lines) (script_lines input)
first-lines input lines None script = absurd script
first-lines input lines (Some left) script =
    sym (ap (take (length lines)) script.ahead ∙ take-append_seam lines (script_lines left))

-- and the next one behind them
pub record HasNext (input : List ℕ) (lines : List (List ℕ)) (line : List ℕ) : Type 0 where
  pub later : List (List ℕ)
  pub are : script_lines input ≡ lines ++ line ∷ later

pub next-line : (input : List ℕ) (lines : List (List ℕ)) (left after : Option (List ℕ)) (line : List ℕ)
    → IsScript (Some input) lines left
    → TakesLine left after line → HasNext input lines line
next-line input lines None after line script takes = absurd script
next-line input lines (Some left) None line script takes = absurd takes
next-line input lines (Some left) (Some after) line script takes = record {
  later = script_lines after;
  are = script.ahead ∙ ap (λ (more : List (List ℕ)). lines ++ more) takes.first;
}

-- what stops before the next line
stops-script : (state : State) (input : List ℕ) (lines : List (List ℕ)) (left : Option (List ℕ)) (events : List Event)
    (history : History)
    → IsScript (Some input) lines left → StopsLine state left events history
    → StopsBefore state (drop (length lines) (script_lines input)) events history
stops-script state input lines left events history script (inl none) = inl none
stops-script state input lines left events history script (inr breaks) =
    let next = next-line input lines left breaks.after breaks.line script breaks.takes in
    inr (record {
      line = breaks.line;
      later = next.later;
      first = ap (drop (length lines)) next.are ∙ drop-append_seam lines (breaks.line ∷ next.later);
      starts = breaks.starts;
    })

-- where the source tells its input
pub script-told : {state : State} {input : Option (List ℕ)} {opened : List Event} {pend : Option (List ℕ)}
    {before : Stored} {history : History} {old mid : Option (List ℕ)}
    → (so_far : HasAnswered state input opened pend before history old mid) (bytes : List ℕ) → input ≡ Some bytes
    → IsScript (Some bytes) so_far.lines pend
script-told {pend = pend} so_far bytes told =
    subst (λ (input : Option (List ℕ)). IsScript input so_far.lines pend) told so_far.script

-- ---- the end

-- what was committed, and nothing else, was done to the disk
pub made-all : {held : Committed} {commits : List State} {events opened after : List Event}
    {history : History} → IsOpened events (Recorded opened)
    → history ≡ Recorded after → Makes held commits opened after → MakesAll held commits events history
made-all {held} {commits} {events} {opened} {after} {history} opens told made = record {
  opened = opened;
  opens = opens;
  made = record { after = after; told = told; made = made };
  synced = synced-Makes held commits opened after made;
}

-- the turn that finds nothing left
pub answered-all : {state : State} {input : Option (List ℕ)} {events opened : List Event} {pend : Option (List ℕ)}
    {before : Stored} {history told : History} {old mid new : Option (List ℕ)}
    → (bytes : List ℕ) (after : Option (List ℕ)) (store : Stored)
    → (so_far : HasAnswered state input opened pend before history old mid) → input ≡ Some bytes
    → IsOpened events (Recorded opened) → IsTurn false so_far.present so_far.events pend after store told mid new
    → FollowsAll state (script_lines bytes) events told old new
answered-all {state} {input} {events} {opened} {pend} {before} {history} {told} {old} {mid} {new} bytes after store
    so_far is opens over =
    let all = all-lines bytes so_far.lines pend (script-told so_far bytes is) over.0 in
    record {
      replies = so_far.replies;
      commits = so_far.commits;
      after = so_far.present;
      run = subst (λ (lines : List (List ℕ)). Run state lines so_far.replies so_far.commits so_far.present) all
          so_far.run;
      put = over.3 ∙ so_far.put;
      made = made-all opens over.2 so_far.made;
    }

-- where no line is held whole, those that were answered are the lines of what was taken
taken-lines : (input : List ℕ) (lines : List (List ℕ)) (feeding : Feeding) (left : Option (List ℕ))
    → IsScript (Some input) lines (pending feeding left) → HoldsNoNewline feeding → AreLinesTaken input left lines
taken-lines input lines feeding None script none = absurd script
taken-lines input lines feeding (Some left) script none = elim script.limit [
  | inl is ↦
      record {
        taken = is.front ++ feeding.rest;
        parted = ap Some (is.parted ∙ sym (append_assoc is.front feeding.rest left));
        are = inl (sym (is.ended feeding.rest
            ∙ ap (λ (more : List (List ℕ)). lines ++ more) (ended_lines-none feeding.rest none)
            ∙ append-nil lines));
      }
  | inr nothing ↦
      let end : left ≡ [] = nil_from_length left
      (omega (arith, sym (length-append feeding.rest left) ∙ ap length nothing)) in
      record {
        taken = input;
        parted = ap Some (sym (ap (λ (bytes : List ℕ). input ++ bytes) end ∙ append-nil input));
        are = inr (ap Some end, all-lines input lines (pending feeding (Some left)) script nothing);
      }
]

-- whole replies up to a fault of the source
answered-taken : {state : State} {input : Option (List ℕ)} {events opened : List Event} {pend : Option (List ℕ)}
    {before : Stored} {history told : History} {old mid new : Option (List ℕ)}
    → (bytes : List ℕ) (feeding : Feeding) (left : Option (List ℕ))
    (so_far : HasAnswered state input opened pend before history old mid) → input ≡ Some bytes
    → IsOpened events (Recorded opened) → HoldsNoNewline feeding → pending feeding left ≡ pend
    → told ≡ Recorded so_far.events → new ≡ mid → FollowsTaken state bytes left events told old new
answered-taken bytes feeding left so_far is opens none pends told same = record {
  lines = so_far.lines;
  are = taken-lines bytes so_far.lines feeding left
      (subst (λ (told : Option (List ℕ)). IsScript (Some bytes) so_far.lines told) (sym pends)
      (script-told so_far bytes is)) none;
  follows = record {
    replies = so_far.replies;
    commits = so_far.commits;
    after = so_far.present;
    run = so_far.run;
    put = same ∙ so_far.put;
    made = made-all opens told so_far.made;
  };
}

-- and then perhaps calls of the next line's commits
answered-until : {state : State} {input : Option (List ℕ)} {events opened : List Event} {pend : Option (List ℕ)}
    {before : Stored} {history told : History} {old mid new : Option (List ℕ)}
    → (bytes : List ℕ) (so_far : HasAnswered state input opened pend before history old mid) → input ≡ Some bytes
    → IsOpened events (Recorded opened)
    → StopsLine so_far.present pend so_far.events told × (new ≡ mid)
    → FollowsUntil state (script_lines bytes) events told old new
answered-until {state} {input} {events} {opened} {pend} {before} {history} {told} bytes so_far is opens stops =
    let script = script-told so_far bytes is in
    let front = first-lines bytes so_far.lines pend script in
    record {
      count = length so_far.lines;
      replies = so_far.replies;
      commits = so_far.commits;
      after = so_far.present;
      run = subst (λ (lines : List (List ℕ)). Run state lines so_far.replies so_far.commits so_far.present) front
          so_far.run;
      put = stops.1 ∙ so_far.put;
      mid = so_far.events;
      made = made-all opens refl so_far.made;
      stops = stops-script so_far.present bytes so_far.lines pend so_far.events told script stops.0;
    }

-- the sink failed: a front of the last reply
failed-sink : {state : State} {input : Option (List ℕ)} {events opened : List Event} {pend : Option (List ℕ)}
    {before store : Stored} {history told : History} {old mid new : Option (List ℕ)}
    → (bytes : List ℕ) (so_far : HasAnswered state input opened pend before history old mid) → input ≡ Some bytes
    → IsOpened events (Recorded opened)
    → TurnsPart so_far.present so_far.events pend store told mid new
    → FollowsPart state (script_lines bytes) events told old new
failed-sink {state} {input} {events} {opened} {pend} {before} {store} {history} {told} {old} {mid} {new} bytes so_far
    told-as opens turns =
    let line = turns.replies.line in
    let is = turns.replies.answered in
    let lines = so_far.lines ++ line ∷ [] in
    let script = script-line (Some bytes) pend turns.after so_far.lines line (script-told so_far bytes told-as)
    turns.replies.takes in
    let front = first-lines bytes lines turns.after script in
    let run = run-snoc state so_far.present is.new so_far.lines so_far.replies line turns.reply so_far.commits
    is.commits so_far.run is.turn in
    record {
      count = length lines;
      replies = so_far.replies;
      last = turns.reply;
      commits = so_far.commits ++ is.commits;
      after = is.new;
      run = subst (λ (answered : List (List ℕ)). Run state answered (so_far.replies ++ turns.reply ∷ [])
          (so_far.commits ++ is.commits) is.new) front run;
      put = subst (λ (held : Option (List ℕ)). AppendsFront held new turns.reply) so_far.put turns.put;
      made = made-all opens is.made.told
          (made-more state so_far.present so_far.commits is.commits opened so_far.events is.made.after so_far.held
          so_far.made is.made.made);
    }

-- ---- a script that is too long

-- how far a feed has come with an input
pub record HasFed (input : List ℕ) (feeding : Feeding) (left : Option (List ℕ)) : Type 0 where
  pub counted : CountsTaken (Some input) left 0 feeding.taken
  pub within : IsWithinLimit feeding

pub ended-at_limit : {input rest : List ℕ} (left : List ℕ) {lines : List (List ℕ)} {taken : ℕ}
    → IsEndedFront input lines (rest ++ left)
    → length input + 0 ≡ length left + taken → IsTooLong (record { taken = taken; rest = rest })
    → taken ≤ longest_script + length rest
    → ended_lines (take longest_script input) ≡ lines
ended-at_limit {input} {rest} left {lines} {taken} is counted too_long held =
    let parts : length input ≡ length is.front + (length rest + length left) =
    ap length is.parted ∙ length-append is.front (rest ++ left)
    ∙ ap (λ (n : ℕ). length is.front + n) (length-append rest left) in
    let handed : taken ≡ length is.front + length rest = omega (arith, parts, counted) in
    let limit : longest_script ≡ length is.front + (longest_script - (taken - length rest)) =
    omega (arith, handed, held) in
    let room : longest_script - (taken - length rest) ≤ length rest = omega (arith, handed, held, too_long.taken) in
    let window = take (longest_script - (taken - length rest)) rest in
    let cut : take longest_script input ≡ is.front ++ window =
    ap (take longest_script) is.parted
    ∙ ap (λ (n : ℕ). take n (is.front ++ (rest ++ left))) limit
    ∙ take-append-add is.front (rest ++ left) (longest_script - (taken - length rest))
    ∙ ap (λ (bytes : List ℕ). is.front ++ bytes)
    (take-append-le (longest_script - (taken - length rest)) rest left room) in
    ap ended_lines cut ∙ is.ended window
    ∙ ap (λ (more : List (List ℕ)). lines ++ more) (ended_lines-none window too_long.no_newline)
    ∙ append-nil lines

-- the lines within the limit, where the input is too long
pub limit-lines : (input : List ℕ) (lines : List (List ℕ)) (feeding : Feeding) (left : Option (List ℕ))
    → IsScript (Some input) lines (pending feeding left)
    → HasFed input feeding left → IsTooLong feeding → lines ≡ ended_lines (take longest_script input)
limit-lines input lines feeding None script fed too_long = absurd fed.counted
limit-lines input lines feeding (Some left) script fed too_long = elim script.limit [
  | inl front ↦ sym (ended-at_limit left front fed.counted too_long fed.within.handed_out)
  | inr nothing ↦
      let none : length feeding.rest + length left ≡ 0 = sym (length-append feeding.rest left) ∙ ap length nothing in
      absurd (omega (arith, none, fed.within.handed_out, too_long.taken))
]

pub answered-limit : {state : State} {input : Option (List ℕ)} {opened : List Event} {pend : Option (List ℕ)}
    {before : Stored} {history : History} {old mid : Option (List ℕ)}
    → (bytes : List ℕ) (feeding : Feeding) (left : Option (List ℕ))
    (so_far : HasAnswered state input opened pend before history old mid) → input ≡ Some bytes
    → pending feeding left ≡ pend → HasFed bytes feeding left → IsTooLong feeding
    → so_far.lines ≡ ended_lines (take longest_script bytes)
answered-limit bytes feeding left so_far is same fed too_long =
    limit-lines bytes so_far.lines feeding left
    (subst (λ (told : Option (List ℕ)). IsScript (Some bytes) so_far.lines told) (sym same)
    (script-told so_far bytes is)) fed too_long

-- a turn that fails
pub answered-failed : {state : State} {input : Option (List ℕ)} {events opened : List Event} {pend : Option (List ℕ)}
    {before : Stored} {history : History} {old mid : Option (List ℕ)}
    → (end : Status) (bytes : List ℕ) (feeding : Feeding) (left : Option (List ℕ)) (store : Stored)
    (told : History) (new : Option (List ℕ))
    → (so_far : HasAnswered state input opened pend before history old mid) → input ≡ Some bytes
    → IsOpened events (Recorded opened) → HasFed bytes feeding left → (end ≡ status.TooLong → IsTooLong feeding)
    → (end ≡ status.Source → HoldsNoNewline feeding)
    → FailsToTurn end so_far.present so_far.events pend (pending feeding left) store told mid new
    → Follows end state bytes left events told old new
answered-failed status.Sink bytes feeding left store told new so_far is opens fed too_long none fails =
    failed-sink bytes so_far is opens fails
answered-failed status.Source bytes feeding left store told new so_far is opens fed too_long none fails =
    answered-taken bytes feeding left so_far is opens (none refl) fails.0 fails.1 fails.2
answered-failed status.NoMemory bytes feeding left store told new so_far is opens fed too_long none fails =
    inr (answered-until bytes so_far is opens fails)
answered-failed status.Disk bytes feeding left store told new so_far is opens fed too_long none fails =
    inr (answered-until bytes so_far is opens fails)
answered-failed {state} status.TooLong bytes feeding left store told new so_far is opens fed too_long none fails =
    let lines = answered-limit bytes feeding left so_far is fails.0 fed (too_long refl) in
    record {
      replies = so_far.replies;
      commits = so_far.commits;
      after = so_far.present;
      run = subst (λ (lines : List (List ℕ)). Run state lines so_far.replies so_far.commits so_far.present) lines
          so_far.run;
      put = fails.2 ∙ so_far.put;
      made = made-all opens fails.1 so_far.made;
    }
answered-failed status.Done bytes feeding left store told new so_far is opens fed too_long none fails = absurd fails
answered-failed status.Words bytes feeding left store told new so_far is opens fed too_long none fails = absurd fails
answered-failed status.Image bytes feeding left store told new so_far is opens fed too_long none fails = absurd fails
answered-failed status.Found bytes feeding left store told new so_far is opens fed too_long none fails = absurd fails
answered-failed status.Sizes bytes feeding left store told new so_far is opens fed too_long none fails = absurd fails

-- ---- how many bytes were taken

-- the count of what was taken, from the beginning on
pub counted-on : (input mid left : Option (List ℕ)) (taken now : ℕ) → CountsTaken input mid 0 taken
    → CountsTaken mid left taken now → CountsTaken input left 0 now
counted-on None None None taken now first then = tt
counted-on None None (Some left) taken now first then = absurd then
counted-on None (Some mid) left taken now first then = absurd first
counted-on (Some input) None left taken now first then = absurd first
counted-on (Some input) (Some mid) None taken now first then = absurd then
counted-on (Some input) (Some mid) (Some left) taken now first then = omega (arith, first, then)

pub counted-none : (input : Option (List ℕ)) → CountsTaken input input 0 0
counted-none None = tt
counted-none (Some input) = refl

-- a run that ends otherwise than at its input's end
pub taken-by : (end : Status) (feeding : Feeding) (input left : Option (List ℕ))
    → CountsTaken input left 0 feeding.taken → IsWithinLimit feeding
    → (end ≡ status.TooLong → IsTooLong feeding) → (end ≡ status.Done → ⊥) → IsTaken end input left
taken-by end feeding None None counted within too_long not_done = tt
taken-by end feeding None (Some left) counted within too_long not_done = absurd counted
taken-by end feeding (Some input) None counted within too_long not_done = absurd counted
taken-by end feeding (Some input) (Some left) counted within too_long not_done = record {
  count = feeding.taken;
  taken = omega (arith, counted);
  at_most = within.taken;
  too_long = λ is. (too_long is).taken;
  read_to_its_end = λ is. absurd (not_done is);
}

-- a run that reads its input to the end
pub taken-whole : (feeding : Feeding) (input left : Option (List ℕ)) → CountsTaken input left 0 feeding.taken
    → IsWithinLimit feeding
    → feeding.rest ≡ [] → IsAtEnd left → IsTaken status.Done input left
taken-whole feeding None None counted within nothing end = tt
taken-whole feeding None (Some left) counted within nothing end = absurd counted
taken-whole feeding (Some input) None counted within nothing end = absurd counted
taken-whole feeding (Some input) (Some left) counted within nothing end = record {
  count = feeding.taken;
  taken = omega (arith, counted);
  at_most = within.taken;
  too_long = λ is. absurd cc;
  read_to_its_end = λ is. (end, omega (arith, within.handed_out, ap length nothing));
}

pub within-none : IsWithinLimit (record { taken = 0; rest = [] })
within-none = record { taken = omega arith; held = omega arith; handed_out = omega arith }
