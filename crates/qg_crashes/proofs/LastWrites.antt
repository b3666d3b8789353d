-- The last write to a place, where that is the last event.
use Rattle.std.proofs.Common.{◌≡◌, ◌∙◌, ℕ, ◌+◌, ◌-◌, ◌≤◌, ◌<◌, Bool, true, List, ◌∷◌, length, drop, max, min, ap, arith}
use Rattle.std.proofs.Common.{Option, Some, None}
use Rattle.std.specs.Prelude.{◌&&◌, nat_lt}
use Rattle.std.specs.List.{find}
use Rattle.std.proofs.lemmas.Bool.{and_from, lt-ltb, cond-true}
use Rattle.qg_device.specs.History.{Event, Wrote, Tore, Begun, begun, content, overlay, range}
use Rattle.qg_device.specs.CrashSince.{events_by}
use Rattle.qg_device.specs.LastWrite.{meets, Rewriting, rewriting_by, unwritten}
use Rattle.qg_crashes.specs.Crashes.{IsRewriting}
use Rattle.qg_crashes.proofs.Ranges.{range-overlay}

-- the write that began with the last event
abbrev pub newest : ℕ → List ℕ → List Event → Begun
newest place bytes older = record { at = place; bytes = bytes; moment = length older + 1 }

-- it is to the place that it writes
is_to_its_place : (place since : ℕ) (bytes : List ℕ) (older : List Event) → 0 < length bytes → since ≤ length older
    → (nat_lt since (length older + 1) && meets place (length bytes) place (length bytes)) ≡ true
is_to_its_place place since bytes older some later =
    and_from (nat_lt since (length older + 1)) (meets place (length bytes) place (length bytes))
    (lt-ltb since (length older + 1) (omega arith))
    (lt-ltb (max place place) (min (place + length bytes) (place + length bytes)) (omega arith))

-- the events before the last one
pub events_by-older : (event : Event) (older : List Event) → events_by (length older + 1 - 1) (event ∷ older) ≡ older
events_by-older event older =
    let one : length (event ∷ older) - (length older + 1 - 1) ≡ 1 = omega arith in
    ap (λ (n : ℕ). drop n (event ∷ older)) one

-- what the newest write makes of its place
rewriting_by-newest : (place : ℕ) (bytes : List ℕ) (event : Event) (older : List Event)
    → rewriting_by place (length bytes) (event ∷ older) (newest place bytes older)
    ≡ record { old = range place (length bytes) (content older); new = bytes }
rewriting_by-newest place bytes event older =
    let make : List Event → Rewriting = λ events. record {
      old = range place (length bytes) (content events);
      new = range place (length bytes) (overlay place bytes (content events));
    } in
    let made : List ℕ → Rewriting = λ new. record { old = range place (length bytes) (content older); new = new } in
    ap make (events_by-older event older) ∙ ap made (range-overlay place bytes (content older))

-- of the last write that was found
abbrev pub of_write : ℕ → ℕ → ℕ → List Event → Option Begun → Rewriting
of_write place n since events found = elim found [
  | None ↦ unwritten place n since events
  | Some write ↦ rewriting_by place n events write
]

pub IsRewriting-newest : (place since : ℕ) (bytes : List ℕ) (older : List Event) → 0 < length bytes
    → since ≤ length older
    → IsRewriting place since bytes older
IsRewriting-newest place since bytes older some later =
    let n = length bytes in
    let test : Begun → Bool = λ write. nat_lt since write.moment && meets place n write.at (length write.bytes) in
    let found : find test (newest place bytes older ∷ begun older) ≡ Some (newest place bytes older) =
    cond-true (test (newest place bytes older)) (Some (newest place bytes older)) (find test (begun older))
    (is_to_its_place place since bytes older some later) in
    record {
      done = ap (of_write place n since (Wrote place bytes ∷ older)) found
          ∙ rewriting_by-newest place bytes (Wrote place bytes) older;
      failed = λ left. ap (of_write place n since (Tore place bytes left ∷ older)) found
          ∙ rewriting_by-newest place bytes (Tore place bytes left) older;
    }
