-- Memory for the words was refused, and nothing was done.
use Rattle.std.proofs.Common.{◌≡◌, ◌+◌, ◌-◌, ℕ, List, [], arith, length, refl, inl, subst, Option, Some, None}
use Rattle.std.specs.Prelude.{drop}
use Rattle.qg_device.specs.History.{Event}
use Rattle.qg_device.specs.Crash.{Leaves}
use Rattle.qg_device.specs.CrashSince.{LeavesSince}
use Rattle.qg_crashes.specs.Outcomes.{Survives}
use Rattle.qg_image.specs.State.{State}
use Rattle.qg_program.specs.declared.status.Status.TheVariants as status
use Rattle.qg_program.specs.Leaving.{AreOfAsked, ArePutAsAsked, Asked, Drawn, Input, LeavesBehind}
use Rattle.qg_program.specs.Running.{IsTaken}
use Rattle.qg_program.proofs.Left.{unopened}
use Rattle.qg_program.proofs.Steps.{append_known-nil}

-- a crash since nothing was done leaves what it could before
survives-nothing : (state : State) (events : List Event) → Survives (length events + 1) state [] events
survives-nothing state events = record {
  each = λ image moment leaves chance. absurd (omega (arith, leaves.no_earlier, leaves.no_later));
}

leaves-nothing : (events : List Event) (image : List ℕ) → LeavesSince (length events) events image (length events)
    → Leaves events image
leaves-nothing events image since =
    let none : length events - length events ≡ 0 = omega arith in
    subst (λ (gone : ℕ). Leaves (drop gone events) image) none since.leaves

-- no line was answered, whichever were asked
answered-none : (asked : Asked) → AreOfAsked status.NoMemory asked []
answered-none (Input input) = λ bytes told. refl
answered-none (Drawn seed count) = refl

put-none : (asked : Asked) (held : Option (List ℕ)) → ArePutAsAsked status.NoMemory asked [] held held
put-none (Input input) held = append_known-nil held
put-none (Drawn seed count) held = refl

pub unread-leaves : (state : State) (asked : Asked) (events : List Event) (held : Option (List ℕ))
    → LeavesBehind status.NoMemory state asked events events held held
unread-leaves state asked events held = unopened state events events held held (survives-nothing state events)
    (leaves-nothing events) status.NoMemory asked (answered-none asked) (put-none asked held) (inl refl)

-- and nothing was taken
pub unread-taken : (left : Option (List ℕ)) → IsTaken status.NoMemory left left
unread-taken None = tt
unread-taken (Some input) = record {
  count = 0;
  taken = omega arith;
  at_most = omega arith;
  too_long = λ is. absurd cc;
  read_to_its_end = λ is. absurd cc;
}
