-- What is said of an image that was judged.
use Rattle.std.proofs.Common.{◌≡◌, ◌≢◌, inl, inr, ℕ, Bool, true, false, List, Option, IsTrue, refl, sym, ap, ◌∙◌, subst}
use Rattle.std.specs.Io.KnownBytes.{append_known}
use Rattle.std.proofs.lemmas.Bool.{true≢false}
use Rattle.qg_device.specs.History.{History}
use Rattle.qg_store.specs.Types.{Report}
use Rattle.qg_store.specs.Types.{Sound, Broken, Differs}
use Rattle.qg_program.specs.declared.status.Status.{Status}
use Rattle.qg_program.specs.declared.status.Status.TheVariants as status
use Rattle.qg_edge.specs.Appended.{AppendsFront}
use Rattle.qg_program.specs.Putting.{FailsToPut, PutsAndEnds}
use Rattle.qg_program.specs.Ends.{is_checkers}
use Rattle.qg_program.specs.Checking.{Checks, IsRightOver, Says, report_end, report_text}

-- the two statuses that go with a report
abbrev goes_with : Status → Bool
goes_with status.Done = true
goes_with status.Found = true
goes_with _ = false

report-goes : (report : Report) → goes_with (report_end report) ≡ true
report-goes (Sound generation) = refl
report-goes (Broken rule address) = refl
report-goes (Differs group which stored counted) = refl

-- no other does
other-end : (end : Status) (report : Report) → goes_with end ≡ false → report_end report ≡ end → ⊥
other-end end report other is = true≢false (sym (report-goes report) ∙ ap goes_with is ∙ other)

-- its line was put
pub says-put : (report : Report) (old new : Option (List ℕ)) (text : List ℕ) → text ≡ report_text report
    → new ≡ append_known old text
    → Says (report_end report) report old new
says-put (Sound generation) old new text is put = (refl, put ∙ ap (append_known old) is)
says-put (Broken rule address) old new text is put = (refl, put ∙ ap (append_known old) is)
says-put (Differs group which stored counted) old new text is put = (refl, put ∙ ap (append_known old) is)

-- it was not put whole
pub says-unput : (end : Status) (report : Report) (old new : Option (List ℕ)) (text : List ℕ)
    → text ≡ report_text report → FailsToPut end text old new
    → Says end report old new
says-unput status.Sink report old new text is fails = subst (AppendsFront old new) is fails
says-unput status.NoMemory report old new text is fails = fails
says-unput status.Done report old new text is fails = absurd fails
says-unput status.Words report old new text is fails = absurd fails
says-unput status.Image report old new text is fails = absurd fails
says-unput status.Source report old new text is fails = absurd fails
says-unput status.Disk report old new text is fails = absurd fails
says-unput status.Found report old new text is fails = absurd fails
says-unput status.Sizes report old new text is fails = absurd fails
says-unput status.TooLong report old new text is fails = absurd fails

-- its line was to be put
pub says-ended : (report : Report) (end result : Status) (old new : Option (List ℕ)) (text : List ℕ)
    → text ≡ report_text report → end ≡ report_end report
    → PutsAndEnds end result text old new → Says result report old new
says-ended report end result old new text is ends (inl put) =
    subst (λ (s : Status). Says s report old new) (sym (put.0 ∙ ends)) (says-put report old new text is put.1)
says-ended report end result old new text is ends (inr fails) = says-unput result report old new text is fails

-- nothing that is said ends as the disk's faults do
says-at-disk : (report : Report) (old new : Option (List ℕ)) → Says status.Disk report old new → ⊥
says-at-disk report old new says = other-end status.Disk report refl says.0

pub says-no-disk : (end : Status) (report : Report) (old new : Option (List ℕ)) → Says end report old new
    → end ≢ status.Disk
says-no-disk end report old new says is =
    says-at-disk report old new (subst (λ (s : Status). Says s report old new) is says)

pub says-no-sink : (report : Report) (end : Status) → end ≡ report_end report → end ≢ status.Sink
says-no-sink report end ends = λ is. other-end status.Sink report refl (sym ends ∙ is)

-- a right report was said
pub checks-said : (end : Status) (report : Report) (history : History) (old new : Option (List ℕ))
    → IsRightOver history report
    → Says end report old new → Checks end history old new
checks-said status.Done report history old new right says = record {
  report = report;
  right = right;
  ends = says.0;
  put = says.1;
}
checks-said status.Found report history old new right says = record {
  report = report;
  right = right;
  ends = says.0;
  put = says.1;
}
checks-said status.Sink report history old new right says = record { report = report; right = right; put = says }
checks-said status.NoMemory report history old new right says = says
checks-said status.Disk report history old new right says = absurd (other-end status.Disk report refl says.0)
checks-said status.Words report history old new right says = absurd (other-end status.Words report refl says.0)
checks-said status.Image report history old new right says = absurd (other-end status.Image report refl says.0)
checks-said status.Source report history old new right says = absurd (other-end status.Source report refl says.0)
checks-said status.Sizes report history old new right says = absurd (other-end status.Sizes report refl says.0)
checks-said status.TooLong report history old new right says = absurd (other-end status.TooLong report refl says.0)

-- and so it ends
pub checks-ends : (end : Status) (history : History) (old new : Option (List ℕ))
    → Checks end history old new → IsTrue (is_checkers end)
checks-ends status.Done history old new checks = refl
checks-ends status.Found history old new checks = refl
checks-ends status.Sink history old new checks = refl
checks-ends status.NoMemory history old new checks = refl
checks-ends status.Disk history old new checks = refl
checks-ends status.Words history old new checks = absurd checks
checks-ends status.Image history old new checks = absurd checks
checks-ends status.Source history old new checks = absurd checks
checks-ends status.Sizes history old new checks = absurd checks
checks-ends status.TooLong history old new checks = absurd checks
