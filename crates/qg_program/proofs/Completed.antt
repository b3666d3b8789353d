-- How what was asked ends where nothing fails.
use Rattle.std.proofs.Common.{◌≡◌, inl, inr, ℕ, ◌≤◌, List, length, Option, Some, None, IsTrue, refl, sym, ◌∙◌, arith}
use Rattle.std.proofs.Common.{String, Global}
use Rattle.qg_device.specs.History.{Event, History, Recorded, content}
use Rattle.qg_device.proofs.Causes.{end-rose}
use Rattle.qg_grammar.specs.ScriptText.{longest_script}
use Rattle.qg_image.specs.State.{State}
use Rattle.qg_image.specs.Verdict.{IsSound, verdict}
use Rattle.qg_image.specs.declared.failure.Failure.{Failure}
use Rattle.qg_store.specs.Report.{IsReportOn}
use Rattle.qg_store.specs.Types.{Report}
use Rattle.qg_store.specs.Types.{Sound, Broken, Differs}
use Rattle.qg_program.specs.declared.status.Status.{Status}
use Rattle.qg_program.specs.declared.status.Status.TheVariants as status
use Rattle.qg_program.specs.Checking.{Checks, report_end}
use Rattle.qg_program.specs.Complete.{EndsForCause, IsComplete, NothingFails}
use Rattle.qg_program.specs.Ends.{EndsIn, HasCauses, is_makers}
use Rattle.qg_program.specs.Following.{Follows}
use Rattle.qg_program.specs.Generating.{Generates}
use Rattle.qg_program.specs.Putting.{Refuses}
use Rattle.qg_program.specs.Running.{IsTaken}

-- what ends for a cause, and is done where there is none
pub for-cause : {words : List (String Global)} {end : Status} {before : History} {left : Option (List ℕ)}
    {source_before source_now sink_before sink_now disk_before disk_now : ℕ}
    → HasCauses end source_before source_now sink_before sink_now disk_before disk_now
    → (HasCauses end source_before source_now sink_before sink_now disk_before disk_now
    → (events : List Event) → before ≡ Recorded events
    → NothingFails source_before source_now sink_before sink_now disk_before disk_now
    → IsComplete words end (content events) left)
    → EndsForCause words end before left source_before source_now sink_before sink_now disk_before disk_now
for-cause causes complete = record { causes = causes; complete = complete causes }

-- an image that is not sound has a failure
found : (first : Option Failure) → (first ≡ None → ⊥) → (failure : Failure) × (first ≡ Some failure)
found None unsound = absurd (unsound refl)
found (Some failure) unsound = (failure, refl)

pub failure-found : (image : List ℕ) → (IsSound image → ⊥) → (failure : Failure) × (verdict image ≡ Some failure)
failure-found image unsound = found (verdict image) unsound

-- an input that is a script is never too long
script-taken : (input : List ℕ) (after : Option (List ℕ)) → IsTaken status.TooLong (Some input) after
    → length input ≤ longest_script → ⊥
script-taken input None taken within = absurd taken
script-taken input (Some left) taken within =
    let count = taken.too_long refl in
    absurd (omega (arith, taken.taken, count, within))

-- no failure is told of a sound image
none-found : (image : List ℕ) (report : Report) → IsSound image → IsReportOn image report
    → report_end report ≡ status.Found → ⊥
none-found image (Sound generation) sound is ends = absurd cc
none-found image (Broken rule address) sound is ends = let same = sym sound ∙ is in absurd cc
none-found image (Differs group which stored counted) sound is ends = let same = sym sound ∙ is in absurd cc

-- nor of another that it is sound
none-done : (image : List ℕ) (report : Report) → (IsSound image → ⊥) → IsReportOn image report
    → report_end report ≡ status.Done → ⊥
none-done image (Sound generation) unsound is ends = unsound is.sound
none-done image (Broken rule address) unsound is ends = absurd cc
none-done image (Differs group which stored counted) unsound is ends = absurd cc

module _ {source_before source_now sink_before sink_now disk_before disk_now : ℕ}
    (nothing : NothingFails source_before source_now sink_before sink_now disk_before disk_now) where
  -- it ends for its causes
  abbrev pub Caused : Status → Type 0
  Caused end = HasCauses end source_before source_now sink_before sink_now disk_before disk_now

  no-source : Caused status.Source → ⊥
  no-source causes =
      nothing.source (end-rose status.Source source_before source_now status.Source refl causes.source)

  no-sink : Caused status.Sink → ⊥
  no-sink causes = nothing.sink (end-rose status.Sink sink_before sink_now status.Sink refl causes.sink)

  no-disk : Caused status.Disk → ⊥
  no-disk causes = nothing.disk (end-rose status.Disk disk_before disk_now status.Disk refl causes.disk)

  -- a run over a sound image
  pub follows-ends : (end : Status) (state : State) (input : List ℕ) (events : List Event)
      (history : History) (old new after : Option (List ℕ))
      → Caused end → Follows end state input after events history old new → IsTaken end (Some input) after
      → length input ≤ longest_script → EndsIn status.Done end
  follows-ends status.Done state input events history old new after causes follows taken within = inl refl
  follows-ends status.NoMemory state input events history old new after causes follows taken within = inr refl
  follows-ends status.TooLong state input events history old new after causes follows taken within =
      absurd (script-taken input after taken within)
  follows-ends status.Source state input events history old new after causes follows taken within =
      absurd (no-source causes)
  follows-ends status.Sink state input events history old new after causes follows taken within =
      absurd (no-sink causes)
  follows-ends status.Disk state input events history old new after causes follows taken within =
      absurd (no-disk causes)
  follows-ends status.Words state input events history old new after causes follows taken within = absurd follows
  follows-ends status.Image state input events history old new after causes follows taken within = absurd follows
  follows-ends status.Found state input events history old new after causes follows taken within = absurd follows
  follows-ends status.Sizes state input events history old new after causes follows taken within = absurd follows

  -- one of the generator's lines
  pub generates-ends : (end : Status) (state : State) (seed count : ℕ) (events : List Event)
      (history : History) (old new : Option (List ℕ))
      → Caused end → Generates end state seed count events history old new → EndsIn status.Done end
  generates-ends status.Done state seed count events history old new causes generates = inl refl
  generates-ends status.NoMemory state seed count events history old new causes generates = inr refl
  generates-ends status.Sink state seed count events history old new causes generates =
      absurd (no-sink causes)
  generates-ends status.Disk state seed count events history old new causes generates =
      absurd (no-disk causes)
  generates-ends status.Source state seed count events history old new causes generates = absurd generates
  generates-ends status.TooLong state seed count events history old new causes generates = absurd generates
  generates-ends status.Words state seed count events history old new causes generates = absurd generates
  generates-ends status.Image state seed count events history old new causes generates = absurd generates
  generates-ends status.Found state seed count events history old new causes generates = absurd generates
  generates-ends status.Sizes state seed count events history old new causes generates = absurd generates

  -- either over another image
  pub refuses-ends : (end : Status) (text : List ℕ) (old new : Option (List ℕ)) → Caused end
      → Refuses end text old new → EndsIn status.Image end
  refuses-ends status.Image text old new causes refuses = inl refl
  refuses-ends status.NoMemory text old new causes refuses = inr refl
  refuses-ends status.Sink text old new causes refuses = absurd (no-sink causes)
  refuses-ends status.Disk text old new causes refuses = absurd (no-disk causes)
  refuses-ends status.Done text old new causes refuses = absurd refuses
  refuses-ends status.Source text old new causes refuses = absurd refuses
  refuses-ends status.TooLong text old new causes refuses = absurd refuses
  refuses-ends status.Words text old new causes refuses = absurd refuses
  refuses-ends status.Found text old new causes refuses = absurd refuses
  refuses-ends status.Sizes text old new causes refuses = absurd refuses

  -- a check
  pub checks-done : (end : Status) (events : List Event) (history : History) (old new : Option (List ℕ))
      → Caused end
      → history ≡ Recorded events → Checks end history old new → IsSound (content events) → EndsIn status.Done end
  checks-done status.Done events history old new causes told checks sound = inl refl
  checks-done status.NoMemory events history old new causes told checks sound = inr refl
  checks-done status.Found events history old new causes told checks sound =
      absurd (none-found (content events) checks.report sound (checks.right events told) checks.ends)
  checks-done status.Sink events history old new causes told checks sound = absurd (no-sink causes)
  checks-done status.Disk events history old new causes told checks sound = absurd (no-disk causes)
  checks-done status.Source events history old new causes told checks sound = absurd checks
  checks-done status.TooLong events history old new causes told checks sound = absurd checks
  checks-done status.Words events history old new causes told checks sound = absurd checks
  checks-done status.Image events history old new causes told checks sound = absurd checks
  checks-done status.Sizes events history old new causes told checks sound = absurd checks

  pub checks-found : (end : Status) (events : List Event) (history : History) (old new : Option (List ℕ))
      → Caused end
      → history ≡ Recorded events → Checks end history old new → (IsSound (content events) → ⊥)
      → EndsIn status.Found end
  checks-found status.Found events history old new causes told checks unsound = inl refl
  checks-found status.NoMemory events history old new causes told checks unsound = inr refl
  checks-found status.Done events history old new causes told checks unsound =
      absurd (none-done (content events) checks.report unsound (checks.right events told) checks.ends)
  checks-found status.Sink events history old new causes told checks unsound = absurd (no-sink causes)
  checks-found status.Disk events history old new causes told checks unsound = absurd (no-disk causes)
  checks-found status.Source events history old new causes told checks unsound = absurd checks
  checks-found status.TooLong events history old new causes told checks unsound = absurd checks
  checks-found status.Words events history old new causes told checks unsound = absurd checks
  checks-found status.Image events history old new causes told checks unsound = absurd checks
  checks-found status.Sizes events history old new causes told checks unsound = absurd checks

  -- an image is made
  pub makes-done : (end : Status) → Caused end → IsTrue (is_makers end) → (end ≡ status.Sizes → ⊥)
      → EndsIn status.Done end
  makes-done status.Done causes is served = inl refl
  makes-done status.NoMemory causes is served = inr refl
  makes-done status.Sink causes is served = absurd (no-sink causes)
  makes-done status.Disk causes is served = absurd (no-disk causes)
  makes-done status.Sizes causes is served = absurd (served refl)
  makes-done status.Source causes is served = absurd cc
  makes-done status.TooLong causes is served = absurd cc
  makes-done status.Words causes is served = absurd cc
  makes-done status.Image causes is served = absurd cc
  makes-done status.Found causes is served = absurd cc
