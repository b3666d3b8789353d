-- The moments of a commit: at each the commit has come some way.
use Rattle.std.proofs.Common.{◌≡◌, ◌∙◌, ◌⊎◌, inl, inr, ℕ, ◌+◌, ◌-◌, ◌≤◌, List, [], ◌∷◌, length, drop, sym, ap, subst}
use Rattle.std.proofs.Common.{arith}
use Rattle.std.proofs.lemmas.Bool.{cases_lt}
use Rattle.std.proofs.lemmas.List.{drop-drop, length-drop}
use Rattle.qg_device.specs.History.{Event, Wrote, Tore, Cut, CutShort, Synced}
use Rattle.qg_device.specs.CrashSince.{events_by}
use Rattle.qg_crashes.specs.Committing.{FailsAfter, IsFrontOfEvents}

-- all events, by the moment of the last
pub events_by-all : (moment : ℕ) (events : List Event) → length events ≤ moment → events_by moment events ≡ events
events_by-all moment events all = let none : length events - moment ≡ 0 = omega arith in
    ap (λ (n : ℕ). drop n events) none

-- how many events there are by a moment
pub length-events_by : (moment : ℕ) (events : List Event) → moment ≤ length events
    → length (events_by moment events) ≡ moment
length-events_by moment events there = omega (arith, length-drop (length events - moment) events)

-- one event more
events_by-last : (event : Event) (events : List Event) → events_by (length events) (event ∷ events) ≡ events
events_by-last event events =
    let one : length (event ∷ events) - length events ≡ 1 = omega arith in ap (λ (n : ℕ). drop n (event ∷ events)) one

-- the events before the last by a moment
events_by-before : (event : Event) (events after : List Event) → length (event ∷ events) ≤ length after
    → events_by (length (event ∷ events)) after ≡ event ∷ events → events_by (length events) after ≡ events
events_by-before event events after there is =
    let more : length after - length (event ∷ events) + 1 ≡ length after - length events = omega arith in
    sym (ap (λ (n : ℕ). drop n after) more) ∙ sym (drop-drop 1 (length after - length (event ∷ events)) after)
    ∙ ap (drop 1) is

-- an event that failed is one event more, or none
fails_once : (event : Event) (events after : List Event) → FailsAfter event events after
    → (after ≡ events) ⊎ ((one : Event) × (after ≡ one ∷ events))
fails_once (Wrote at bytes) events after fails = inr (Tore at bytes fails.0, fails.2)
fails_once (Tore at asked left) events after fails = absurd fails
fails_once (Cut len) events after fails = absurd fails
fails_once (CutShort len left) events after fails = absurd fails
fails_once Synced events after fails = inl fails

-- what was done adds events to those before
pub front_grows : (steps events after : List Event) → IsFrontOfEvents steps events after → length events ≤ length after
front_grows [] events after is = omega (arith, ap length is)
front_grows (step ∷ steps) events after (inl is) = omega (arith, ap length is)
front_grows (step ∷ steps) events after (inr (inl fails)) = elim (fails_once step events after fails) [
  | inl is ↦ omega (arith, ap length is)
  | inr one ↦ omega (arith, ap length one.1)
]
front_grows (step ∷ steps) events after (inr (inr front)) =
    let more : length (step ∷ events) ≤ length after = front_grows steps (step ∷ events) after front in omega arith

-- those before are the first
pub front_begins : (steps events after : List Event) → IsFrontOfEvents steps events after
    → events_by (length events) after ≡ events
front_begins [] events after is = events_by-all (length events) after (omega (arith, ap length is)) ∙ is
front_begins (step ∷ steps) events after (inl is) = events_by-all (length events) after (omega (arith, ap length is))
    ∙ is
front_begins (step ∷ steps) events after (inr (inl fails)) = elim (fails_once step events after fails) [
  | inl is ↦ events_by-all (length events) after (omega (arith, ap length is)) ∙ is
  | inr one ↦ ap (events_by (length events)) one.1 ∙ events_by-last one.0 events
]
front_begins (step ∷ steps) events after (inr (inr front)) =
    events_by-before step events after (front_grows steps (step ∷ events) after front)
    (front_begins steps (step ∷ events) after front)

-- the events by the moment at which they began
begins_by : (step : Event) (steps events after : List Event) (moment : ℕ) → IsFrontOfEvents (step ∷ steps) events after
    → moment ≡ length events
    → events_by moment after ≡ events
begins_by step steps events after moment front same = ap (λ (m : ℕ). events_by m after) same
    ∙ front_begins (step ∷ steps) events after front

-- how many events there are after one that failed
pub fails_once-length : (event : Event) (events after : List Event) → FailsAfter event events after
    → length after ≤ length events + 1
fails_once-length event events after fails = elim (fails_once event events after fails) [
  | inl is ↦ omega (arith, ap length is)
  | inr one ↦ omega (arith, ap length one.1)
]

-- at each moment some of the steps were done, or all
pub front_by : (steps events after : List Event) (moment : ℕ) → IsFrontOfEvents steps events after
    → length events ≤ moment → moment ≤ length after
    → IsFrontOfEvents steps events (events_by moment after)
front_by [] events after moment is begun there = events_by-all moment after (omega (arith, ap length is)) ∙ is
front_by (step ∷ steps) events after moment (inl is) begun there =
    inl (events_by-all moment after (omega (arith, ap length is)) ∙ is)
front_by (step ∷ steps) events after moment (inr (inl fails)) begun there = elim (cases_lt moment (length after)) [
  | inl less ↦ inl (begins_by step steps events after moment (inr (inl fails))
      (omega (arith, fails_once-length step events after fails)))
  | inr all ↦ inr (inl (subst (FailsAfter step events) (sym (events_by-all moment after all)) fails))
]
front_by (step ∷ steps) events after moment (inr (inr front)) begun there = elim (cases_lt (length events) moment) [
  | inl later ↦ inr (inr (front_by steps (step ∷ events) after moment front (omega arith) there))
  | inr early ↦ inl (begins_by step steps events after moment (inr (inr front)) (omega arith))
]
