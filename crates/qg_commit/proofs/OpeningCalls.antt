-- The device calls of opening as a write and a sync, of a place that is not the only one to hold the superblock that
-- counts; and what a crash leaves.
use Rattle.std.proofs.Common.{◌≡◌, ◌∙◌, ◌⊎◌, ◌≤◌, inl, inr, ℕ, true, List, [], ◌∷◌, length, refl, sym, ap, subst, arith}
use Rattle.std.proofs.Common.{Option, Some, None, cond}
use Rattle.std.specs.Prelude.{nat_lt, ◌==◌, ◌&&◌, IsErr, Result, Ok}
use Rattle.std.proofs.lemmas.Bool.{and_parts, cases_Bool, cond-true, cond-false, eqb-true}
use Rattle.std.proofs.lemmas.Result.{IfOk-from_err}
use Rattle.qg_device.specs.History.{Event, History, Recorded, Wrote, Tore, Synced, IfRecorded, content}
use Rattle.qg_device.specs.Crash.{Leaves}
use Rattle.qg_device.specs.CrashSince.{events_by, LeavesSince}
use Rattle.qg_super.specs.declared.superblock.Super.{Super}
use Rattle.qg_super.specs.Places.{first_place, second_place, total_bytes}
use Rattle.qg_super.specs.SuperText.{super_text, choose, same_super, sizes_of}
use Rattle.qg_image.specs.State.{State}
use Rattle.qg_image.specs.ImageState.{super_in, super_of}
use Rattle.qg_image.specs.StateOf.{StateOf}
use Rattle.qg_walk.specs.declared.fault.OpenFault.{OpenFault}
use Rattle.qg_other_trees.specs.Stale.{stale_place}
use Rattle.qg_crashes.specs.Committing.{IsFrontOfEvents, begin_of}
use Rattle.qg_crashes.specs.Repairing.{Repairing}
use Rattle.qg_crashes.specs.States.{with_place}
use Rattle.qg_crashes.specs.Outcomes.{Rests, Survives}
use Rattle.qg_crashes.proofs.Chosen.{choose-same, super_of-both}
use Rattle.qg_crashes.proofs.Moments.{front_begins}
use Rattle.qg_crashes.proofs.SameStates.{sound_places}
use Rattle.qg_crashes.proofs.Outcomes.{opening_survives}
use Rattle.qg_crashes.proofs.Repairs.{repair_mirrors}
use Rattle.qg_commit.specs.Opening.{IsWriting, with_repair}
use Rattle.qg_commit.specs.Opened.{IsOpening, OutlivesCrashes, stale_of}
use Rattle.qg_commit.specs.CallEvents.{NoneStaleMirrors, OpeningRepairs}

-- the place that is stale, and the superblock at the other one
abbrev Stands : Option Super → Option Super → Super → ℕ → Type 0
Stands first second super place = ((place ≡ first_place) × (second ≡ Some super))
    ⊎ ((place ≡ second_place) × (first ≡ Some super))

stale_of_two : (a b super : Super) (place : ℕ) → choose (Some a) (Some b) ≡ Some super
    → stale_place (Some a) (Some b) ≡ Some place → Stands (Some a) (Some b) super place
stale_of_two a b super place counts stale = elim (cases_Bool (same_super a b)) [
  | inl same ↦
      let none : Some place ≡ None =
      sym stale ∙ cond-true (same_super a b) None (cond (nat_lt a.generation b.generation) (Some first_place)
      (Some second_place)) same in
      cc
  | inr other ↦
      let some : cond (nat_lt a.generation b.generation) (Some first_place) (Some second_place) ≡ Some place =
      sym (cond-false (same_super a b) None (cond (nat_lt a.generation b.generation) (Some first_place)
      (Some second_place)) other) ∙ stale in
      elim (cases_Bool (nat_lt a.generation b.generation)) [
        | inl less ↦
            let at : Some first_place ≡ Some place =
            sym (cond-true (nat_lt a.generation b.generation) (Some first_place) (Some second_place) less) ∙ some in
            let there : place ≡ first_place = cc in
            inl (there, sym (cond-true (nat_lt a.generation b.generation) (Some b) (Some a) less) ∙ counts)
        | inr not_less ↦
            let at : Some second_place ≡ Some place =
            sym (cond-false (nat_lt a.generation b.generation) (Some first_place) (Some second_place) not_less)
            ∙ some in
            let there : place ≡ second_place = cc in
            inr (there, sym (cond-false (nat_lt a.generation b.generation) (Some b) (Some a) not_less) ∙ counts)
      ]
]

stale_stands : (first second : Option Super) (super : Super) (place : ℕ) → choose first second ≡ Some super
    → stale_place first second ≡ Some place
    → Stands first second super place
stale_stands None None super place counts stale = cc
stale_stands None (Some b) super place counts stale = let there : place ≡ first_place = cc in inl (there, counts)
stale_stands (Some a) None super place counts stale = let there : place ≡ second_place = cc in inr (there, counts)
stale_stands (Some a) (Some b) super place counts stale = stale_of_two a b super place counts stale

-- how far the repair came
front_of_writing : (super : Super) (place : ℕ) (events after : List Event)
    → IsWriting super place events (Recorded after)
    → IsFrontOfEvents (Wrote place (super_text place super) ∷ Synced ∷ []) events after
front_of_writing super place events after (inl tore) =
    let is : after ≡ Tore place (super_text place super) tore.0 ∷ events = cc (tore.2) in inr (inl (tore.0, tore.1, is))
front_of_writing super place events after (inr (inl wrote)) =
    let is : after ≡ Wrote place (super_text place super) ∷ events = cc in inr (inr (inl is))
front_of_writing super place events after (inr (inr synced)) =
    let is : after ≡ Synced ∷ Wrote place (super_text place super) ∷ events = cc in inr (inr (inr (inr is)))

pub opening_repairs : OpeningRepairs
opening_repairs events after opening long =
    let first = super_in (content events) first_place in
    let second = super_in (content events) second_place in
    let counts : choose first second ≡ Some opening.super = sym (super_of-both (content events) first second refl refl)
    ∙ opening.chosen in
    let front = front_of_writing opening.super opening.place (Synced ∷ events) after opening.written in
    let front_at : ℕ → Type 0 = λ place. IsFrontOfEvents (Wrote place (super_text place opening.super) ∷ Synced ∷ [])
    (Synced ∷ events) after in
    elim (stale_stands first second opening.super opening.place counts opening.stale) [
      | inl is ↦ inl (record {
        long = omega (arith, long);
        counts = opening.chosen;
        stands = is.1;
        so_far = subst front_at is.0 front;
      })
      | inr is ↦ inr (record {
        long = omega (arith, long);
        counts = opening.chosen;
        stands = is.1;
        so_far = subst front_at is.0 front;
      })
    ]

-- ---- where no place is stale

-- superblocks that are the same but for the place and the checksum
same_fields : (a b : Super) → a.generation ≡ b.generation → a.root ≡ b.root → a.nodesize ≡ b.nodesize
    → a.slots ≡ b.slots → a.sectors ≡ b.sectors
    → a.format ≡ b.format → a ≡ b
same_fields a b generation root nodesize slots sectors format =
    λ i. record {
      generation = generation i;
      root = root i;
      nodesize = nodesize i;
      slots = slots i;
      sectors = sectors i;
      format = format i;
    }

same_told : (a b : Super) → same_super a b ≡ true → a ≡ b
same_told a b same =
    let two = (a.generation == b.generation) && (a.root == b.root) in
    let three = two && (a.nodesize == b.nodesize) in
    let four = three && (a.slots == b.slots) in
    let five = four && (a.sectors == b.sectors) in
    let to_five = and_parts five (a.format == b.format) same in
    let to_four = and_parts four (a.sectors == b.sectors) to_five.0 in
    let to_three = and_parts three (a.slots == b.slots) to_four.0 in
    let to_two = and_parts two (a.nodesize == b.nodesize) to_three.0 in
    let to_one = and_parts (a.generation == b.generation) (a.root == b.root) to_two.0 in
    same_fields a b (eqb-true a.generation b.generation to_one.0) (eqb-true a.root b.root to_one.1)
    (eqb-true a.nodesize b.nodesize to_two.1)
    (eqb-true a.slots b.slots to_three.1) (eqb-true a.sectors b.sectors to_four.1)
    (eqb-true a.format b.format to_five.1)

-- both places hold the superblock
record AreBoth (first second : Option Super) (super : Super) : Type 0 where
  at_first : first ≡ Some super
  at_second : second ≡ Some super

both_same : (a b super : Super) → a ≡ b → choose (Some a) (Some b) ≡ Some super → AreBoth (Some a) (Some b) super
both_same a b super is counts =
    let some = ap (λ (s : Super). Some s) (sym is) in
    let twice : choose (Some a) (Some a) ≡ Some super = subst (λ (s : Super). choose (Some a) (Some s) ≡ Some super)
    (sym is) counts in
    let first : Some a ≡ Some super = sym (choose-same a) ∙ twice in
    record { at_first = first; at_second = some ∙ first }

-- two that differ leave a stale place
differ_stale : (a b : Super) → stale_place (Some a) (Some b) ≡ None → same_super a b ≡ true
differ_stale a b none = elim (cases_Bool (same_super a b)) [
  | inl same ↦ same
  | inr other ↦
      let of_two = cond (nat_lt a.generation b.generation) (Some first_place) (Some second_place) in
      let is_none : of_two ≡ None = sym (cond-false (same_super a b) None of_two other) ∙ none in
      elim (cases_Bool (nat_lt a.generation b.generation)) [
        | inl less ↦
            let at : Some first_place ≡ None =
            sym (cond-true (nat_lt a.generation b.generation) (Some first_place) (Some second_place) less)
            ∙ is_none in
            absurd cc
        | inr not_less ↦
            let at : Some second_place ≡ None =
            sym (cond-false (nat_lt a.generation b.generation) (Some first_place) (Some second_place) not_less)
            ∙ is_none in
            absurd cc
      ]
]

none_stale : (first second : Option Super) (super : Super) → choose first second ≡ Some super
    → stale_place first second ≡ None → AreBoth first second super
none_stale None None super counts none = absurd cc
none_stale None (Some b) super counts none = absurd cc
none_stale (Some a) None super counts none = absurd cc
none_stale (Some a) (Some b) super counts none = both_same a b super (same_told a b (differ_stale a b none)) counts

pub none_stale_mirrors : NoneStaleMirrors
none_stale_mirrors image state stands none =
    let first = super_in image first_place in
    let second = super_in image second_place in
    let counts : choose first second ≡ Some stands.super = sym (super_of-both image first second refl refl)
    ∙ stands.chosen in
    let both = none_stale first second stands.super counts none in
    record { stands = stands; first = both.at_first; second = both.at_second }

-- ---- what a crash leaves

-- since the first sync
survives : (events after : List Event) (state : State) → IsOpening events (Recorded after)
    → StateOf (content events) state
    → Survives (begin_of events) state [] after
survives events after state (inl (inl is)) stands = let same : after ≡ events = cc in
    opening_survives state events after stands (inl same)
survives events after state (inl (inr is)) stands = let same : after ≡ Synced ∷ events = cc in
    opening_survives state events after stands (inr (inl same))
survives events after state (inr repairs) stands =
    let long = (sound_places (content events) repairs.super repairs.chosen repairs.sound).long in
    opening_survives state events after stands (inr (inr (repairs.super, opening_repairs events after repairs long)))

-- before it: what was done then are the events before
begins : (events after : List Event) → IsOpening events (Recorded after) → events_by (length events) after ≡ events
begins events after (inl (inl is)) = let same : after ≡ events = cc in
    front_begins (Synced ∷ []) events after (inl same)
begins events after (inl (inr is)) = let same : after ≡ Synced ∷ events = cc in
    front_begins (Synced ∷ []) events after (inr (inr same))
begins events after (inr repairs) =
    let text = super_text repairs.place repairs.super in
    let front = front_of_writing repairs.super repairs.place (Synced ∷ events) after repairs.written in
    front_begins (Synced ∷ Wrote repairs.place text ∷ Synced ∷ []) events after (inr (inr front))

left_before : (events after : List Event) (image : List ℕ) → IsOpening events (Recorded after)
    → LeavesSince (length events) after image (length events)
    → Leaves events image
left_before events after image opening leaves =
    subst (λ (es : List Event). Leaves es image) (begins events after opening) leaves.leaves

-- ---- where the disk rests

module _ (events : List Event) (state : State) (super : Super) (chosen : super_of (content events) ≡ Some super)
    (stands : StateOf (content events) state) where
  long : total_bytes (sizes_of super) ≤ length (content events)
  long = (sound_places (content events) super chosen stands.sound).long

  -- at a place that was written the disk is mirrored
  rests_first : super_in (content events) second_place ≡ Some super → Rests state (with_place first_place super events)
  rests_first there =
      let repair : Repairing events first_place second_place super (with_place first_place super events) =
      record { long = omega (arith, long); counts = chosen; stands = there; so_far = inr (inr (inr (inr refl))) } in
      record {
        before = Wrote first_place (super_text first_place super) ∷ Synced ∷ events;
        synced = refl;
        stands = (repair_mirrors state events super stands).0 repair;
      }

  rests_second : super_in (content events) first_place ≡ Some super → Rests state (with_place second_place super events)
  rests_second there =
      let repair : Repairing events second_place first_place super (with_place second_place super events) =
      record { long = omega (arith, long); counts = chosen; stands = there; so_far = inr (inr (inr (inr refl))) } in
      record {
        before = Wrote second_place (super_text second_place super) ∷ Synced ∷ events;
        synced = refl;
        stands = (repair_mirrors state events super stands).1 repair;
      }

  rests_at : (place : ℕ) → stale_of (content events) ≡ Some place → Rests state (with_place place super events)
  rests_at place stale =
      let first = super_in (content events) first_place in
      let second = super_in (content events) second_place in
      let counts : choose first second ≡ Some super = sym (super_of-both (content events) first second refl refl)
      ∙ chosen in
      let rests : ℕ → Type 0 = λ at. Rests state (with_place at super events) in
      elim (stale_stands first second super place counts stale) [
        | inl is ↦ subst rests (sym is.0) (rests_first is.1)
        | inr is ↦ subst rests (sym is.0) (rests_second is.1)
      ]

  rests_none : stale_of (content events) ≡ None → Rests state (Synced ∷ events)
  rests_none stale = record {
    before = events;
    synced = refl;
    stands = none_stale_mirrors (content events) state stands stale;
  }

  rests_by : (stale : Option ℕ) → stale ≡ stale_of (content events)
      → Rests state (with_repair super stale (Synced ∷ events))
  rests_by None is = rests_none (sym is)
  rests_by (Some place) is = rests_at place (sym is)

-- ---- all three

module _ (events : List Event) (history : History) (opening : IsOpening events history) where
  crashes_of : (after : List Event) (state : State) → history ≡ Recorded after → StateOf (content events) state
      → Survives (begin_of events) state [] after
  crashes_of after state told stands = survives events after state (subst (IsOpening events) told opening) stands

  early_of : (after : List Event) (image : List ℕ) → history ≡ Recorded after
      → LeavesSince (length events) after image (length events) → Leaves events image
  early_of after image told leaves = left_before events after image (subst (IsOpening events) told opening) leaves

  -- the image was not opened
  pub outlives_fault : {A : Type 0} (result : Result A OpenFault) → IsErr result → OutlivesCrashes events history result
  outlives_fault {A} result failed = record {
    crashes = crashes_of;
    early = early_of;
    rests = λ state stands. IfOk-from_err result (λ (opened : A). IfRecorded history (Rests state)) failed;
  }

  -- it was, and a place that was stale was written
  pub outlives_opened : {A : Type 0} (opened : A) (super : Super) (stale : Option ℕ)
      → super_of (content events) ≡ Some super
      → stale ≡ stale_of (content events) → history ≡ Recorded (with_repair super stale (Synced ∷ events))
      → OutlivesCrashes events history (Ok opened)
  outlives_opened opened super stale chosen is told = record {
    crashes = crashes_of;
    early = early_of;
    rests = λ state stands.
        subst (λ (o : History). IfRecorded o (Rests state)) (sym told)
        (rests_by events state super chosen stands stale is);
  }
