-- What is known of what was done to a disk, step by step.
use Rattle.std.proofs.Common.{◌≡◌, ℕ, List, [], ◌∷◌, ◌++◌, refl, sym, ap, ◌∙◌, append_assoc}
use Rattle.qg_device.specs.History.{Event, History, Recorded, Unrecorded, history_after, with_change, with_changes}
use Rattle.qg_device.specs.History.{with_event}

-- the same events are recorded
pub same_Recorded : (events other : List Event) → Recorded events ≡ Recorded other → events ≡ other
same_Recorded events other same = cc

-- ---- steps that add events alone

abbrev pub Adds : (List Event → List Event) → Type 0
Adds steps = (events : List Event) → steps events ≡ steps [] ++ events

-- one after the other
pub adds-both : (first second : List Event → List Event) → Adds first → Adds second
    → Adds (λ events. second (first events))
adds-both first second adds later events =
    later (first events) ∙ ap (λ (list : List Event). second [] ++ list) (adds events)
    ∙ sym (append_assoc (second []) (first []) events)
    ∙ ap (λ (list : List Event). list ++ events) (sym (later (first [])))

-- ---- how many calls may have changed a disk

pub with_changes-append : (events older : List Event) (changes : ℕ)
    → with_changes (events ++ older) changes ≡ with_changes events (with_changes older changes)
with_changes-append [] older changes = refl
with_changes-append (event ∷ events) older changes =
    ap (with_change event) (with_changes-append events older changes)

-- ---- steps after others

pub after-both : (first second : List Event → List Event) → Adds second → (history : History)
    → history_after second (history_after first history) ≡ history_after (λ events. second (first events)) history
after-both first second adds (Recorded events) = refl
after-both first second adds (Unrecorded changes) =
    ap (λ (n : ℕ). Unrecorded n) (sym (with_changes-append (second []) (first []) changes)
    ∙ ap (λ (list : List Event). with_changes list changes) (sym (adds (first []))))

-- steps after an event
pub after-event : (event : Event) (steps : List Event → List Event) → Adds steps → (history : History)
    → history_after steps (with_event event history) ≡ history_after (λ events. steps (event ∷ events)) history
after-event event steps adds (Recorded events) = refl
after-event event steps adds (Unrecorded changes) =
    ap (λ (n : ℕ). Unrecorded n) (sym (with_changes-append (steps []) (event ∷ []) changes)
    ∙ ap (λ (list : List Event). with_changes list changes) (sym (adds (event ∷ []))))

-- steps that come to the same
pub after-same : (one other : List Event → List Event) → ((events : List Event) → one events ≡ other events)
    → (history : History) → history_after one history ≡ history_after other history
after-same one other same (Recorded events) = ap (λ (list : List Event). Recorded list) (same events)
after-same one other same (Unrecorded changes) =
    ap (λ (list : List Event). Unrecorded (with_changes list changes)) (same [])
