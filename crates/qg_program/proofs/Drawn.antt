-- What a run of the generator's lines leaves behind, by how it ended.
use Rattle.std.proofs.Common.{◌≡◌, ◌≢◌, ◌⊎◌, ◌∙◌, inl, inr, ℕ, ◌+◌, ◌≤◌, List, [], ◌∷◌, ◌++◌, length, map, take, drop}
use Rattle.std.proofs.Common.{Option, IsTrue, refl, sym, ap, subst}
use Rattle.std.specs.Io.KnownBytes.{append_known}
use Rattle.std.proofs.lemmas.List.{length-take-le, take-append-drop}
use Rattle.qg_device.specs.History.{Event, History, Recorded}
use Rattle.qg_device.specs.Crash.{Leaves}
use Rattle.qg_device.specs.CrashSince.{LeavesSince}
use Rattle.qg_device.proofs.Histories.{same_Recorded}
use Rattle.qg_edge.specs.Appended.{AppendsFront}
use Rattle.qg_grammar.specs.ReplyText.{reply_text}
use Rattle.qg_image.specs.State.{State}
use Rattle.qg_crashes.specs.Outcomes.{Survives}
use Rattle.qg_store.specs.Answering.{IsDoneSoFar}
use Rattle.qg_store.proofs.Chained.{MakesSoFar}
use Rattle.qg_store.proofs.LastCommits.{last-itself}
use Rattle.qg_store.proofs.Outlived.{begun-so-far}
use Rattle.qg_program.specs.declared.status.Status.{Status}
use Rattle.qg_program.specs.declared.status.Status.TheVariants as status
use Rattle.qg_program.specs.Ends.{is_stop}
use Rattle.qg_program.specs.Following.{StopsBefore}
use Rattle.qg_program.specs.Generating.{asked_lines}
use Rattle.qg_program.specs.Leaving.{AreDrawn, Begins, BeginsNext, Drawn, IsNext, IsTold, LeavesBehind, MakeText}
use Rattle.qg_program.specs.Loading.{IsLoaded, StopsWithin}
use Rattle.qg_program.specs.Putting.{FailsToPut, PutsAndEnds}
use Rattle.qg_program.proofs.Generated.{stopped-told}
use Rattle.qg_program.proofs.Left.{HasEnded, leaves-ended, unopened}
use Rattle.qg_program.proofs.Outlived.{AreBehind, HasOpened}

-- ---- the image was not opened

pub lines-unopened : (state : State) (seed count : ℕ) (events after : List Event) (old new : Option (List ℕ))
    → Survives (length events + 1) state [] after
    → ((image : List ℕ) → LeavesSince (length events) after image (length events) → Leaves events image) → new ≡ old
    → (end : Status) → (end ≡ status.Disk) ⊎ (end ≡ status.NoMemory)
    → LeavesBehind end state (Drawn seed count) events after old new
lines-unopened state seed count events after old new survives early same end (inl is) =
    subst (λ (end : Status). LeavesBehind end state (Drawn seed count) events after old new) (sym is)
    (unopened state events after old new survives early status.Disk (Drawn seed count) refl same (inl refl))
lines-unopened state seed count events after old new survives early same end (inr is) =
    subst (λ (end : Status). LeavesBehind end state (Drawn seed count) events after old new) (sym is)
    (unopened state events after old new survives early status.NoMemory (Drawn seed count) refl same (inl refl))

-- ---- all lines were answered

module _ (state : State) (seed count : ℕ) (opened after : List Event) (text : List ℕ)
    (loaded : IsLoaded state seed count text opened (Recorded after)) where
  abbrev replies : List (List ℕ)
  replies = map reply_text loaded.tells.answers ++ loaded.tells.committed ∷ loaded.tells.shown ∷ []

  text-made : MakeText count replies text
  text-made = record {
    answers = loaded.tells.answers;
    committed = loaded.tells.committed;
    shown = loaded.tells.shown;
    are = refl;
    told = loaded.tells.told;
  }

  -- and it ends so
  ended-loaded : (end : Status) (old new : Option (List ℕ))
      → AreDrawn end (asked_lines seed count) (asked_lines seed count)
      → IsTold end count replies old new → Begins end loaded.tells.after (Drawn seed count) (asked_lines seed count) []
      → HasEnded end state (Drawn seed count) opened after old new
  ended-loaded end old new answered put begins = record {
    lines = asked_lines seed count;
    replies = replies;
    commits = loaded.commits;
    final = loaded.tells.after;
    run = loaded.tells.run;
    answered = answered;
    put = put;
    now = loaded.made.after;
    made = loaded.made.made;
    begun = [];
    begins = begins;
    next = record { later = tt; made = same_Recorded after loaded.made.after loaded.made.told };
  }

  -- the text was put, or a front of it
  ended-put : (old new : Option (List ℕ)) → new ≡ append_known old text
      → HasEnded status.Done state (Drawn seed count) opened after old new
  ended-put old new put = ended-loaded status.Done old new refl (record { text = text; made = text-made; put = put })
      refl

  ended-front : (old new : Option (List ℕ)) → AppendsFront old new text
      → HasEnded status.Sink state (Drawn seed count) opened after old new
  ended-front old new put = ended-loaded status.Sink old new refl (record { text = text; made = text-made; put = put })
      refl

-- ---- it stopped before some line

-- the first of some lines, as many as were taken of them
taken-again : (count : ℕ) (lines : List (List ℕ)) → count ≤ length lines
    → take count lines ≡ take (length (take count lines)) lines
taken-again count lines within = ap (λ (n : ℕ). take n lines) (sym (length-take-le count lines within))

-- and the next one behind them
next-taken : (count : ℕ) (lines : List (List ℕ)) (line : List ℕ) (later : List (List ℕ))
    → drop count lines ≡ line ∷ later
    → IsNext lines (take count lines) line
next-taken count lines line later first =
    (later, sym (take-append-drop count lines) ∙ ap (λ (more : List (List ℕ)). take count lines ++ more) first)

module _ (state : State) (seed count : ℕ) (opened after : List Event)
    (stops : StopsWithin state (asked_lines seed count) opened (Recorded after)) where
  abbrev lines : List (List ℕ)
  lines = take stops.count (asked_lines seed count)

  -- the next line had begun these commits
  ended-begun : (end : Status) (old new : Option (List ℕ)) (begun : List State)
      → AreDrawn end (asked_lines seed count) lines
      → IsTold end count stops.replies old new → Begins end stops.after (Drawn seed count) lines begun
      → AreBehind stops.after begun stops.made.after after → HasEnded end state (Drawn seed count) opened after old new
  ended-begun end old new begun answered put begins next = record {
    lines = lines;
    replies = stops.replies;
    commits = stops.commits;
    final = stops.after;
    run = stops.run;
    answered = answered;
    put = put;
    now = stops.made.after;
    made = stops.made.made;
    begun = begun;
    begins = begins;
    next = next;
  }

  -- so the disk had the calls of the lines that were answered, and no others
  mid-made : stops.mid ≡ stops.made.after
  mid-made = same_Recorded stops.mid stops.made.after stops.made.told

  ended-by : (end : Status) (old new : Option (List ℕ)) → AreDrawn end (asked_lines seed count) lines
      → IsTold end count stops.replies old new
      → ((begun : List State) → (begun ≡ []) ⊎ BeginsNext stops.after (Drawn seed count) lines begun
      → Begins end stops.after (Drawn seed count) lines begun)
      → StopsBefore stops.after (drop stops.count (asked_lines seed count)) stops.made.after (Recorded after)
      → HasEnded end state (Drawn seed count) opened after old new
  ended-by end old new answered put begins (inl none) =
      ended-begun end old new [] answered put (begins [] (inl refl))
      (record { later = tt; made = same_Recorded after stops.made.after none })
  ended-by end old new answered put begins (inr breaks) =
      let given = breaks.starts.command in
      let done : IsDoneSoFar stops.after given stops.made.after (Recorded after) = inr breaks.starts.starts in
      let begun = begun-so-far stops.after given stops.after stops.made.after (Recorded after)
      (last-itself stops.after) done in
      let same : begun.after ≡ after = sym (same_Recorded after begun.after begun.told) in
      ended-begun end old new begun.commits answered put
      (begins begun.commits (inr (record {
        line = breaks.line;
        next = next-taken stops.count (asked_lines seed count) breaks.line breaks.later breaks.first;
        command = given;
        asks = breaks.starts.asked;
        are = begun.are;
      })))
      (record {
        later = begun.later;
        made =
            subst (λ (events : List Event). MakesSoFar stops.after.held begun.commits stops.made.after events) same
            begun.made;
      })

  stopped-there : StopsBefore stops.after (drop stops.count (asked_lines seed count)) stops.made.after (Recorded after)
  stopped-there =
      subst (λ (mid : List Event). StopsBefore stops.after (drop stops.count (asked_lines seed count)) mid
      (Recorded after))
      mid-made
      stops.stops

  again : lines ≡ take (length lines) (asked_lines seed count)
  again = taken-again stops.count (asked_lines seed count) stops.within

  ended-stopped : (end : Status) (old new : Option (List ℕ)) → new ≡ old → IsTrue (is_stop end) → end ≢ status.Image
      → HasEnded end state (Drawn seed count) opened after old new
  ended-stopped status.NoMemory old new silent is sound =
      ended-by status.NoMemory old new again silent (λ begun begins. begins) stopped-there
  ended-stopped status.Disk old new silent is sound =
      ended-by status.Disk old new again silent (λ begun begins. begins) stopped-there
  ended-stopped status.Image old new silent is sound = absurd (sound refl)
  ended-stopped status.Done old new silent is sound = absurd cc
  ended-stopped status.Words old new silent is sound = absurd cc
  ended-stopped status.Source old new silent is sound = absurd cc
  ended-stopped status.Sink old new silent is sound = absurd cc
  ended-stopped status.Found old new silent is sound = absurd cc
  ended-stopped status.Sizes old new silent is sound = absurd cc
  ended-stopped status.TooLong old new silent is sound = absurd cc

-- ---- the end

module _ (state : State) (seed count : ℕ) (events opened after : List Event)
    (opening : HasOpened state events opened) where
  leaves-by : (end : Status) (old new : Option (List ℕ)) → HasEnded end state (Drawn seed count) opened after old new
      → LeavesBehind end state (Drawn seed count) events after old new
  leaves-by end old new ended = leaves-ended end state (Drawn seed count) events opened after old new ended opening

  -- the text was not put whole
  leaves-unput : (end : Status) (text : List ℕ) (old new : Option (List ℕ))
      → IsLoaded state seed count text opened (Recorded after)
      → FailsToPut end text old new → LeavesBehind end state (Drawn seed count) events after old new
  leaves-unput status.Sink text old new loaded fails =
      leaves-by status.Sink old new (ended-front state seed count opened after text loaded old new fails)
  leaves-unput status.NoMemory text old new loaded fails =
      leaves-by status.NoMemory old new
      (ended-stopped state seed count opened after (stopped-told state seed count text loaded) status.NoMemory old new
      fails refl
      (λ is. absurd cc))
  leaves-unput status.Done text old new loaded fails = absurd fails
  leaves-unput status.Words text old new loaded fails = absurd fails
  leaves-unput status.Image text old new loaded fails = absurd fails
  leaves-unput status.Source text old new loaded fails = absurd fails
  leaves-unput status.Disk text old new loaded fails = absurd fails
  leaves-unput status.Found text old new loaded fails = absurd fails
  leaves-unput status.Sizes text old new loaded fails = absurd fails
  leaves-unput status.TooLong text old new loaded fails = absurd fails

  -- it was to be put
  leaves-put : (end : Status) (text : List ℕ) (old new : Option (List ℕ))
      → IsLoaded state seed count text opened (Recorded after)
      → PutsAndEnds status.Done end text old new → LeavesBehind end state (Drawn seed count) events after old new
  leaves-put end text old new loaded (inl put) =
      subst (λ (end : Status). LeavesBehind end state (Drawn seed count) events after old new) (sym put.0)
      (leaves-by status.Done old new (ended-put state seed count opened after text loaded old new put.1))
  leaves-put end text old new loaded (inr fails) = leaves-unput end text old new loaded fails

  -- over what the disk tells in the end
  pub lines-loaded : (history : History) (end : Status) (text : List ℕ) (old new : Option (List ℕ))
      → history ≡ Recorded after → IsLoaded state seed count text opened history
      → PutsAndEnds status.Done end text old new
      → LeavesBehind end state (Drawn seed count) events after old new
  lines-loaded history end text old new now loaded puts =
      leaves-put end text old new
      (subst (λ (h : History). IsLoaded state seed count text opened h) now loaded) puts

  pub lines-stopped : (history : History) (end result : Status) (old new : Option (List ℕ))
      → history ≡ Recorded after
      → StopsWithin state (asked_lines seed count) opened history → result ≡ end → new ≡ old → IsTrue (is_stop end)
      → end ≢ status.Image → LeavesBehind result state (Drawn seed count) events after old new
  lines-stopped history end result old new now stops same silent is sound =
      let told = subst (λ (h : History). StopsWithin state (asked_lines seed count) opened h) now stops in
      subst (λ (end : Status). LeavesBehind end state (Drawn seed count) events after old new) (sym same)
      (leaves-by end old new (ended-stopped state seed count opened after told end old new silent is sound))
