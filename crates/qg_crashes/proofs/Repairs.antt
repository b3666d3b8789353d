-- An image of which a stale place was repaired: both places hold the superblock that counts.
use Rattle.std.proofs.Common.{◌≡◌, ◌∙◌, ◌⊎◌, inl, inr, ℕ, suc, ◌+◌, ◌-◌, ◌≤◌, min, max, true, List, [], ◌∷◌, length}
use Rattle.std.proofs.Common.{drop, refl, sym, ap, subst, arith, Some}
use Rattle.std.specs.Prelude.{All}
use Rattle.std.proofs.lemmas.List.Elements.{All-cons}
use Rattle.std.proofs.lemmas.Option.{same_Some}
use Rattle.qg_device.specs.History.{Event, Wrote, Synced, content, overlay, range}
use Rattle.qg_device.specs.Crash.{Leaves}
use Rattle.qg_device.specs.CrashSince.{events_by}
use Rattle.qg_disk.proofs.Images.{Leaves-content, Torn-overlay}
use Rattle.qg_super.specs.declared.superblock.Super.{Super}
use Rattle.qg_super.specs.Places.{first_place, second_place}
use Rattle.qg_super.specs.SuperText.{super_text, super_read, is_super}
use Rattle.qg_super.specs.NoChance.{super_bytes, NoChanceSince}
use Rattle.qg_super.proofs.SuperTexts.{length-super_text, super_read-super_text, super_writes_back}
use Rattle.qg_image.specs.State.{State}
use Rattle.qg_image.specs.ImageState.{super_in, super_of}
use Rattle.qg_image.specs.StateOf.{StateOf}
use Rattle.qg_crashes.specs.Committing.{Crashing, begin_of}
use Rattle.qg_crashes.specs.Premise.{IsDone}
use Rattle.qg_crashes.specs.Repairing.{Repairing}
use Rattle.qg_crashes.specs.States.{IsMirrored, RepairMirrors, with_place}
use Rattle.qg_crashes.proofs.Ranges.{range-overlay, range-torn}
use Rattle.qg_crashes.proofs.Moments.{events_by-all}
use Rattle.qg_crashes.proofs.NewBytesHeld.{meets_the_premise}
use Rattle.qg_crashes.proofs.Repaired.{keeps_what_counts}
use Rattle.qg_crashes.proofs.States.{repair_leaves_the_state}

-- what the disk holds then is an image that a crash then may leave, and it meets the premise
module _ (before : List Event) (place : ℕ) (super : Super)
    (long : second_place + super_bytes ≤ length (content before)) where
  abbrev after : List Event
  after = with_place place super before

  all_done : All IsDone (Synced ∷ Wrote place (super_text place super) ∷ [])
  all_done =
      let last : All IsDone (Wrote place (super_text place super) ∷ []) =
      All-cons IsDone (Wrote place (super_text place super)) [] tt (λ k any below. absurd (omega arith)) in
      All-cons IsDone Synced (Wrote place (super_text place super) ∷ []) tt last

  premise : NoChanceSince (length before + 1) (with_place place super before) (content (with_place place super before))
      (length (with_place place super before))
  premise =
      let same : length (Synced ∷ before) ≡ length before + 1 = omega arith in
      subst (λ (since : ℕ). NoChanceSince since after (content after) (length after)) same
      (meets_the_premise (Synced ∷ Wrote place (super_text place super) ∷ []) (Synced ∷ before) all_done long)

  now : Crashing before (with_place place super before) (content (with_place place super before))
      (length (with_place place super before))
  now = record {
    leaves = record {
      no_earlier = omega arith;
      no_later = omega arith;
      leaves = subst (λ (events : List Event). Leaves events (content after))
          (sym (events_by-all (length after) after (omega arith))) (Leaves-content after);
    };
    no_chance = premise;
  }

read_fits : (place : ℕ) (bytes : List ℕ) (super : Super) → super_read place bytes ≡ Some super → is_super super ≡ true
read_fits place bytes super is = (super_writes_back place bytes super is).served

-- the place that was written
place_written : (place : ℕ) (super : Super) (old : List ℕ) → is_super super ≡ true
    → super_read place (range place super_bytes (overlay place (super_text place super) old)) ≡ Some super
place_written place super old fits =
    let text = super_text place super in
    let there : range place super_bytes (overlay place text old) ≡ text =
    sym (ap (λ (k : ℕ). range place k (overlay place text old)) (length-super_text place super))
    ∙ range-overlay place text old in
    ap (super_read place) there ∙ super_read-super_text place super fits

-- the superblock of a state is the one that counts
module _ (state : State) (before : List Event) (super : Super) (stands : StateOf (content before) state) where
  mirrored : (image : List ℕ) → StateOf image state → super_of image ≡ Some super
      → super_in image first_place ≡ Some super
      → super_in image second_place ≡ Some super → IsMirrored state image
  mirrored image is counts first second =
      let same : is.super ≡ super = same_Some is.super super (sym is.chosen ∙ counts) in
      let some = ap (λ (s : Super). Some s) (sym same) in
      record { stands = is; first = first ∙ some; second = second ∙ some }

  first_repaired : Repairing before first_place second_place super (with_place first_place super before)
      → IsMirrored state (content (with_place first_place super before))
  first_repaired repair =
      let after = with_place first_place super before in
      let image = content after in
      let old = content before in
      let text = super_text first_place super in
      let crash = now before first_place super repair.long in
      let is = repair_leaves_the_state state before after super image (length after) stands (inl repair) crash in
      let counts = keeps_what_counts before after super image (length after) (inl repair) crash in
      let fits = read_fits second_place (range second_place super_bytes old) super repair.stands in
      let size = length-super_text first_place super in
      let kept : range second_place super_bytes image ≡ range second_place super_bytes old =
      range-torn first_place (length text) second_place super_bytes old image
      (Torn-overlay first_place (length text) text old (omega arith)) repair.long
      (omega (arith, size)) in
      mirrored image is counts (place_written first_place super old fits) (ap (super_read second_place) kept
      ∙ repair.stands)

  second_repaired : Repairing before second_place first_place super (with_place second_place super before)
      → IsMirrored state (content (with_place second_place super before))
  second_repaired repair =
      let after = with_place second_place super before in
      let image = content after in
      let old = content before in
      let text = super_text second_place super in
      let crash = now before second_place super repair.long in
      let is = repair_leaves_the_state state before after super image (length after) stands (inr repair) crash in
      let counts = keeps_what_counts before after super image (length after) (inr repair) crash in
      let fits = read_fits first_place (range first_place super_bytes old) super repair.stands in
      let long = repair.long in
      let kept : range first_place super_bytes image ≡ range first_place super_bytes old =
      range-torn second_place (length text) first_place super_bytes old image
      (Torn-overlay second_place (length text) text old (omega arith))
      (omega (arith, long)) (omega arith) in
      mirrored image is counts (ap (super_read first_place) kept ∙ repair.stands)
      (place_written second_place super old fits)

pub repair_mirrors : RepairMirrors
repair_mirrors state before super stands =
    (first_repaired state before super stands, second_repaired state before super stands)
