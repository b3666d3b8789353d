-- What is read at both places of an image that a crash left in the midst of a commit, or of a repair: no two
-- superblocks of one generation that differ.
use Rattle.std.proofs.Common.{◌≡◌, ◌∙◌, ◌⊎◌, inl, inr, ℕ, ◌+◌, ◌<◌, Bool, true, false, List, length, refl, sym, ap}
use Rattle.std.proofs.Common.{subst, arith, Option, Some, None}
use Rattle.std.specs.Prelude.{◌&&◌, ◌||◌, ◌==◌, not}
use Rattle.std.proofs.lemmas.Bool.{and_from, eq-eqb, eqb-true, cases_Bool}
use Rattle.qg_device.specs.History.{Event, content, range}
use Rattle.qg_device.specs.CrashSince.{events_by}
use Rattle.qg_device.specs.LastWrite.{Rewriting}
use Rattle.qg_device.specs.NoChance.{NoChanceAt}
use Rattle.qg_super.specs.declared.superblock.Super.{Super}
use Rattle.qg_super.specs.Places.{first_place, second_place}
use Rattle.qg_super.specs.SuperText.{super_text, super_read, is_super, same_super}
use Rattle.qg_super.specs.NoChance.{super_bytes, is_valid}
use Rattle.qg_super.proofs.SuperTexts.{super_read-super_text}
use Rattle.qg_image.specs.ImageState.{super_in}
use Rattle.qg_image.specs.Verdict.{are_mirrored}
use Rattle.qg_crashes.specs.Committing.{Committing, Crashing, begin_of}
use Rattle.qg_crashes.specs.Superblocks.{Replaces}
use Rattle.qg_crashes.proofs.Stages.{IsMiddle, IsLate}
use Rattle.qg_crashes.proofs.Chosen.{held_first, held_second, read_of_rewriting, read_there, stage_at}

-- ---- two superblocks

same_itself : (super : Super) → same_super super super ≡ true
same_itself super =
    let each = λ (n : ℕ). eq-eqb n n refl in
    rw (
      each super.generation,
      each super.root,
      each super.nodesize,
      each super.slots,
      each super.sectors,
      each
          super.format,
    ) refl

pub mirrored_itself : (super : Super) → are_mirrored (Some super) (Some super) ≡ true
mirrored_itself super = rw (same_itself super, eq-eqb super.generation super.generation refl) refl

apart_generations : (a b : ℕ) (same : Bool) → (a == b) ≡ same → (a ≡ b → ⊥) → same ≡ false
apart_generations a b true is differ = absurd (differ (eqb-true a b is))
apart_generations a b false is differ = refl

mirrored_later : (old super : Super) → old.generation < super.generation → are_mirrored (Some super) (Some old) ≡ true
mirrored_later old super later =
    let differ : (super.generation == old.generation) ≡ false =
    apart_generations super.generation old.generation (super.generation == old.generation) refl
    (λ same. omega (arith, same)) in
    rw differ refl

-- one of two, or none
abbrev pub IsOneOf : Super → Super → Option Super → Type 0
IsOneOf old super found = (found ≡ Some old) ⊎ ((found ≡ Some super) ⊎ (found ≡ None))

-- the first place may be any of them where the second has the older one
mirrored_old : (old super : Super) (first second : Option Super) → old.generation < super.generation
    → IsOneOf old super first → second ≡ Some old
    → are_mirrored first second ≡ true
mirrored_old old super first second later (inl is) there = rw (is, there) (mirrored_itself old)
mirrored_old old super first second later (inr (inl is)) there = rw (is, there) (mirrored_later old super later)
mirrored_old old super first second later (inr (inr is)) there = rw is refl

-- and the second where the first has the newer one
mirrored_new : (old super : Super) (first second : Option Super) → old.generation < super.generation
    → first ≡ Some super → IsOneOf old super second
    → are_mirrored first second ≡ true
mirrored_new old super first second later there (inl is) = rw (there, is) (mirrored_later old super later)
mirrored_new old super first second later there (inr (inl is)) = rw (there, is) (mirrored_itself super)
mirrored_new old super first second later there (inr (inr is)) = rw (there, is) refl

-- ---- a crash in the midst of a commit

module _ (before nodes after : List Event) (old super : Super) (image : List ℕ) (moment : ℕ)
    (commit : Committing before nodes super after)
    (crash : Crashing before after image moment) (replaces : Replaces old super (content before)) where
  read_first : super_read first_place (super_text first_place super) ≡ Some super
  read_first = super_read-super_text first_place super commit.may_be_written

  read_second : super_read second_place (super_text second_place super) ≡ Some super
  read_second = super_read-super_text second_place super commit.may_be_written

  middle_mirrored : (since k : ℕ)
      → IsMiddle first_place second_place super_bytes since k (held_first before) (held_second before)
      (super_text first_place super) (events_by moment after) image
      → NoChanceAt (is_valid first_place) first_place super_bytes
      (record { old = held_first before; new = super_text first_place super }) image
      → are_mirrored (super_in image first_place) (super_in image second_place) ≡ true
  middle_mirrored since k middle no_chance =
      mirrored_old old super (super_in image first_place) (super_in image second_place) replaces.later
      (read_there first_place old super (range first_place super_bytes image) (held_first before)
      (super_text first_place super) replaces.first read_first
      (read_of_rewriting first_place (held_first before) (super_text first_place super) image no_chance))
      (ap (super_read second_place) middle.at_second ∙ replaces.second)

  late_mirrored : (since k : ℕ)
      → IsLate first_place second_place super_bytes since k (held_second before) (super_text first_place super)
      (super_text second_place super) (events_by moment after) image
      → (range second_place super_bytes image ≡ held_second before)
      ⊎ ((range second_place super_bytes image ≡ super_text second_place super)
      ⊎ (super_read second_place (range second_place super_bytes image) ≡ None))
      → are_mirrored (super_in image first_place) (super_in image second_place) ≡ true
  late_mirrored since k late there =
      mirrored_new old super (super_in image first_place) (super_in image second_place) replaces.later
      (ap (super_read first_place) late.at_first ∙ read_first)
      (read_there second_place old super (range second_place super_bytes image) (held_second before)
      (super_text second_place super) replaces.second read_second there)

  pub leaves_mirrored : are_mirrored (super_in image first_place) (super_in image second_place) ≡ true
  leaves_mirrored = elim (stage_at before nodes after super image moment commit crash) [
    | inl early ↦
        mirrored_old old super (super_in image first_place) (super_in image second_place) replaces.later
        (inl (ap (super_read first_place) early.holds.at_first ∙ replaces.first))
        (ap (super_read second_place) early.holds.at_second ∙ replaces.second)
    | inr more ↦ elim more [
      | inl middle ↦
          middle_mirrored (begin_of before) (begin_of before + length nodes) middle
          (subst (λ (r : Rewriting). NoChanceAt (is_valid first_place) first_place super_bytes r image) middle.rewriting
          crash.no_chance.at_first)
      | inr late ↦ late_mirrored (begin_of before) (begin_of before + length nodes) late (elim late.at_second [
        | inl is ↦ inl is
        | inr some ↦ elim some [
          | inl is ↦ inr (inl is)
          | inr rewriting ↦ read_of_rewriting second_place (held_second before) (super_text second_place super) image
              (subst (λ (r : Rewriting). NoChanceAt (is_valid second_place) second_place super_bytes r image) rewriting
              crash.no_chance.at_second)
        ]
      ])
    ]
  ]
