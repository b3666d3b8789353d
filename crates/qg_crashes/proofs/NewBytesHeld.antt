-- What a disk holds at a place is the new bytes of the last write to it, where each write was done.
use Rattle.std.proofs.Common.{◌≡◌, ◌∙◌, inl, inr, ℕ, suc, ◌+◌, ◌-◌, ◌≤◌, min, max, Bool, true, false, List, [], ◌∷◌}
use Rattle.std.proofs.Common.{◌++◌, length, drop, refl, sym, ap, arith, length-append, Option, Some, None}
use Rattle.std.specs.Prelude.{All, nat_lt, ◌&&◌}
use Rattle.std.specs.List.{find}
use Rattle.std.proofs.lemmas.Bool.{cases_Bool, cond-true, cond-false, le-ltb, ltb-false, and_left, and_cases}
use Rattle.qg_device.specs.History.{Event, Wrote, Tore, Cut, CutShort, Synced, Begun, begun, content, overlay, range}
use Rattle.qg_device.specs.CrashSince.{events_by}
use Rattle.qg_device.specs.LastWrite.{meets, Rewriting, last_rewriting}
use Rattle.qg_disk.proofs.Images.{Torn-overlay}
use Rattle.qg_disk.proofs.Sizes.{length-overlay}
use Rattle.qg_super.specs.Places.{first_place, second_place}
use Rattle.qg_super.specs.NoChance.{super_bytes}
use Rattle.qg_crashes.specs.Premise.{IsDone, HoldsTheNew, MeetsThePremise}
use Rattle.qg_crashes.proofs.Ranges.{range-torn}
use Rattle.qg_crashes.proofs.LastWrites.{newest, events_by-older, of_write}
use Rattle.qg_crashes.proofs.Moments.{events_by-all}

-- the test of the last write to a place since a moment
abbrev is_found : ℕ → ℕ → ℕ → Begun → Bool
is_found place n since write = nat_lt since write.moment && meets place n write.at (length write.bytes)

-- the writes of a history began within it
pub record WithinFound (events : List Event) (found : Option Begun) : Type 0 where
  pub within : (write : Begun) → found ≡ Some write → write.moment ≤ length events

found_newest : (test : Begun → Bool) (at : ℕ) (bytes : List ℕ) (event : Event) (older : List Event)
    → WithinFound older (find test (begun older))
    → WithinFound (event ∷ older) (find test (newest at bytes older ∷ begun older))
found_newest test at bytes event older below = elim (cases_Bool (test (newest at bytes older))) [
  | inl passes ↦ record {
    within = λ write is.
        let found : Some (newest at bytes older) ≡ Some write =
        sym (cond-true (test (newest at bytes older)) (Some (newest at bytes older)) (find test (begun older)) passes)
        ∙ is in
        let same : newest at bytes older ≡ write = cc in
        omega (arith, ap (λ (w : Begun). w.moment) same);
  }
  | inr fails ↦ record {
    within = λ write is.
        let found : find test (begun older) ≡ Some write =
        sym (cond-false (test (newest at bytes older)) (Some (newest at bytes older)) (find test (begun older)) fails)
        ∙ is in
        omega (arith, below.within write found);
  }
]

found_within : (test : Begun → Bool) (events : List Event) → WithinFound events (find test (begun events))
found_within test [] = record { within = λ write is. cc }
found_within test (Wrote at bytes ∷ older) = found_newest test at bytes (Wrote at bytes) older (found_within test older)
found_within test (Tore at asked left ∷ older) =
    found_newest test at asked (Tore at asked left) older (found_within test older)
found_within test (Cut len ∷ older) =
    record { within = λ write is. omega (arith, (found_within test older).within write is) }
found_within test (CutShort len left ∷ older) =
    record { within = λ write is. omega (arith, (found_within test older).within write is) }
found_within test (Synced ∷ older) =
    record { within = λ write is. omega (arith, (found_within test older).within write is) }

-- a moment within a history is one within it and one event more
events_by-earlier : (moment : ℕ) (event : Event) (older : List Event) → moment ≤ length older
    → events_by moment (event ∷ older) ≡ events_by moment older
events_by-earlier moment event older there =
    let more : length (event ∷ older) - moment ≡ suc (length older - moment) = omega arith in
    ap (λ (k : ℕ). drop k (event ∷ older)) more

-- so are the old and the new bytes, where the last write stays the same
of_write-earlier : (place n since : ℕ) (event : Event) (older : List Event) (found : Option Begun)
    → since ≤ length older → WithinFound older found
    → of_write place n since (event ∷ older) found ≡ of_write place n since older found
of_write-earlier place n since event older None later below =
    let make : List Event → Rewriting = λ events. record {
      old = range place n (content events);
      new = range place n (content events);
    } in
    ap make (events_by-earlier since event older later)
of_write-earlier place n since event older (Some write) later below =
    let make : List Event → Rewriting = λ events. record {
      old = range place n (content events);
      new = range place n (overlay write.at write.bytes (content events));
    } in
    ap make (events_by-earlier (write.moment - 1) event older (omega (arith, below.within write refl)))

-- the newest write is none that has begun since a later moment
newest_not : (place n since at : ℕ) (bytes : List ℕ) (older : List Event) → length older + 1 ≤ since
    → find (is_found place n since) (newest at bytes older ∷ begun older) ≡ find (is_found place n since) (begun older)
newest_not place n since at bytes older past =
    let fails = and_left (nat_lt since (length older + 1)) (meets place n at (length bytes))
    (le-ltb since (length older + 1) past) in
    cond-false (is_found place n since (newest at bytes older)) (Some (newest at bytes older))
    (find (is_found place n since) (begun older)) fails

-- no write has begun since the end
none_since : (place n since : ℕ) (events : List Event) → length events ≤ since
    → find (is_found place n since) (begun events) ≡ None
none_since place n since [] all = refl
none_since place n since (Wrote at bytes ∷ older) all = newest_not place n since at bytes older (omega arith)
    ∙ none_since place n since older (omega arith)
none_since place n since (Tore at asked left ∷ older) all = newest_not place n since at asked older (omega arith)
    ∙ none_since place n since older (omega arith)
none_since place n since (Cut len ∷ older) all = none_since place n since older (omega arith)
none_since place n since (CutShort len left ∷ older) all = none_since place n since older (omega arith)
none_since place n since (Synced ∷ older) all = none_since place n since older (omega arith)

-- ---- what is held

grows : (newer older : List Event) → All IsDone newer → length (content older) ≤ length (content (newer ++ older))
grows [] older done = omega arith
grows (Wrote at bytes ∷ newer) older done =
    let rest : All IsDone newer = λ i d below. done (suc i) d (omega arith) in
    omega (arith, grows newer older rest, length-overlay at bytes (content (newer ++ older)))
grows (Tore at asked left ∷ newer) older done = absurd (done 0 (Tore at asked left) (omega arith))
grows (Cut len ∷ newer) older done = absurd (done 0 (Cut len) (omega arith))
grows (CutShort len left ∷ newer) older done = absurd (done 0 (CutShort len left) (omega arith))
grows (Synced ∷ newer) older done = let rest : All IsDone newer = λ i d below. done (suc i) d (omega arith) in
    grows newer older rest

-- a write that is to the place
held_written : (place n since at : ℕ) (bytes : List ℕ) (older : List Event)
    → is_found place n since (newest at bytes older) ≡ true
    → range place n (overlay at bytes (content older)) ≡ (last_rewriting place n since (Wrote at bytes ∷ older)).new
held_written place n since at bytes older passes =
    let events = Wrote at bytes ∷ older in
    let found : find (is_found place n since) (begun events) ≡ Some (newest at bytes older) =
    cond-true (is_found place n since (newest at bytes older)) (Some (newest at bytes older))
    (find (is_found place n since) (begun older)) passes in
    sym (ap (λ (f : Option Begun). (of_write place n since events f).new) found
    ∙ ap (λ (es : List Event). range place n (overlay at bytes (content es))) (events_by-older (Wrote at bytes) older))

-- an event that is no write to the place
last_rewriting-apart : (place n since : ℕ) (event : Event) (older : List Event) → since ≤ length older
    → find (is_found place n since) (begun (event ∷ older)) ≡ find (is_found place n since) (begun older)
    → last_rewriting place n since (event ∷ older) ≡ last_rewriting place n since older
last_rewriting-apart place n since event older later same =
    ap (of_write place n since (event ∷ older)) same
    ∙ of_write-earlier place n since event older (find (is_found place n since) (begun older)) later
    (found_within (is_found place n since) older)

-- a write that is not to the place has no byte in common with it
apart_of : (place n since at : ℕ) (bytes : List ℕ) (older : List Event) → since ≤ length older
    → is_found place n since (newest at bytes older) ≡ false
    → min (place + n) (at + length bytes) ≤ max place at
apart_of place n since at bytes older later fails =
    elim (and_cases (nat_lt since (length older + 1)) (meets place n at (length bytes)) fails) [
      | inl early ↦ absurd (omega (arith, ltb-false since (length older + 1) early))
      | inr apart ↦ ltb-false (max place at) (min (place + n) (at + length bytes)) apart
    ]

pub holds_the_new : HoldsTheNew
holds_the_new place n [] older done long =
    ap (λ (es : List Event). range place n (content es)) (sym (events_by-all (length older) older (omega arith)))
    ∙ sym (ap (λ (f : Option Begun). (of_write place n (length older) older f).new)
    (none_since place n (length older) older (omega arith)))
holds_the_new place n (Wrote at bytes ∷ newer) older done long =
    let rest : All IsDone newer = λ i d below. done (suc i) d (omega arith) in
    let since = length older in
    let before = newer ++ older in
    let later : since ≤ length before = omega (arith, length-append newer older) in
    elim (cases_Bool (is_found place n since (newest at bytes before))) [
      | inl passes ↦ held_written place n since at bytes before passes
      | inr fails ↦
          let apart = apart_of place n since at bytes before later fails in
          let same : find (is_found place n since) (begun (Wrote at bytes ∷ before)) ≡ find (is_found place n since)
          (begun before) =
          cond-false (is_found place n since (newest at bytes before)) (Some (newest at bytes before))
          (find (is_found place n since) (begun before)) fails in
          range-torn at (length bytes) place n (content before) (overlay at bytes (content before))
          (Torn-overlay at (length bytes) bytes (content before) (omega arith)) (omega (arith, grows newer older rest))
          apart
          ∙ holds_the_new place n newer older rest long
          ∙ sym (ap (λ (r : Rewriting). r.new) (last_rewriting-apart place n since (Wrote at bytes) before later same))
    ]
holds_the_new place n (Tore at asked left ∷ newer) older done long = absurd (done 0 (Tore at asked left) (omega arith))
holds_the_new place n (Cut len ∷ newer) older done long = absurd (done 0 (Cut len) (omega arith))
holds_the_new place n (CutShort len left ∷ newer) older done long = absurd (done 0 (CutShort len left) (omega arith))
holds_the_new place n (Synced ∷ newer) older done long =
    let rest : All IsDone newer = λ i d below. done (suc i) d (omega arith) in
    let later : length older ≤ length (newer ++ older) = omega (arith, length-append newer older) in
    holds_the_new place n newer older rest long
    ∙ sym (ap (λ (r : Rewriting). r.new)
    (last_rewriting-apart place n (length older) Synced (newer ++ older) later refl))

-- at a superblock place
new_there : (place : ℕ) (newer older : List Event) → All IsDone newer → place + super_bytes ≤ length (content older)
    → range place super_bytes (content (newer ++ older))
    ≡ (last_rewriting place super_bytes (length older) (events_by (length (newer ++ older)) (newer ++ older))).new
new_there place newer older done long =
    let events = newer ++ older in
    holds_the_new place super_bytes newer older done long
    ∙ ap (λ (es : List Event). (last_rewriting place super_bytes (length older) es).new)
    (sym (events_by-all (length events) events (omega arith)))

pub meets_the_premise : MeetsThePremise
meets_the_premise newer older done long = record {
  at_first = λ not_old not_new. absurd (not_new (new_there first_place newer older done (omega arith)));
  at_second = λ not_old not_new. absurd (not_new (new_there second_place newer older done long));
}
