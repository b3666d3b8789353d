-- Which superblock counts in an image that a crash left in the midst of a commit.
use Rattle.std.proofs.Common.{◌≡◌, ◌∙◌, ◌⊎◌, inl, inr, ℕ, suc, ◌+◌, ◌≤◌, ◌<◌, true, false, List, [], ◌∷◌, ◌++◌, length}
use Rattle.std.proofs.Common.{refl, sym, ap, subst, arith, Option, Some, None}
use Rattle.std.specs.Prelude.{All, is_some, nat_lt, min, max}
use Rattle.std.proofs.lemmas.Bool.{cases_Bool, cond-true, cond-false, ltb-false, le-ltb, true≢false}
use Rattle.std.proofs.lemmas.Slice.Eq.{bytes_eq-Decides}
use Rattle.std.specs.Str.{bytes_eq}
use Rattle.qg_device.specs.History.{Event, Wrote, Tore, Cut, CutShort, Synced, content, range}
use Rattle.qg_device.specs.Crash.{Leaves}
use Rattle.qg_device.specs.CrashSince.{events_by}
use Rattle.qg_device.specs.LastWrite.{meets, Rewriting}
use Rattle.qg_device.specs.NoChance.{NoChanceAt}
use Rattle.qg_super.specs.declared.superblock.Super.{Super}
use Rattle.qg_super.specs.Places.{first_place, second_place}
use Rattle.qg_super.specs.SuperText.{super_text, super_read, choose, is_super}
use Rattle.qg_super.specs.NoChance.{super_bytes, is_valid}
use Rattle.qg_super.proofs.SuperTexts.{length-super_text, super_read-super_text}
use Rattle.qg_image.specs.ImageState.{super_in, super_of}
use Rattle.qg_crashes.specs.Committing.{IsApart, superblock_events, commit_events, IsFrontOfEvents, Committing}
use Rattle.qg_crashes.specs.Committing.{Crashing, begin_of}
use Rattle.qg_crashes.specs.Superblocks.{LeavesAValidOne, Replaces, LeavesOldOrNew, LeavesTheOld, LeavesTheNew}
use Rattle.qg_crashes.proofs.Places.{Holds, Settled, Apart, Settled-wrote, Settled-tore, Settled-synced}
use Rattle.qg_crashes.proofs.Moments.{front_by, length-events_by}
use Rattle.qg_crashes.proofs.Stages.{IsMiddle, IsLate, Stage, early_stage, superblock_stage}

-- ---- the nodes of a commit, and then both superblocks

-- a write that is to no byte of either place
Apart-meets : (p q n at m : ℕ) → meets p n at m ≡ false → meets q n at m ≡ false → Apart p q n at m
Apart-meets p q n at m first second = record {
  from_first = ltb-false (max p at) (min (p + n) (at + m)) first;
  from_second = ltb-false (max q at) (min (q + n) (at + m)) second;
}

commit_stage : (p q n since k : ℕ) (a b t u : List ℕ) (nodes events h : List Event) (image : List ℕ) (tail : List Event)
    → ((at : ℕ) (bytes : List ℕ) → IsApart (Wrote at bytes) → Apart p q n at (length bytes))
    → ((some : List Event) → since ≤ length some → length some ≡ k → Settled p q n a b some
    → IsFrontOfEvents tail some h → Leaves h image → Stage p q n since k a b t u h image)
    → All IsApart nodes → since ≤ length events → length events + length nodes ≡ k → Settled p q n a b events
    → IsFrontOfEvents (nodes ++ tail) events h → Leaves h image → Stage p q n since k a b t u h image
commit_stage p q n since k a b t u [] events h image tail apart last all later moment settled front left =
    last events later (omega arith) settled front left
commit_stage p q n since k a b t u (Wrote at bytes ∷ nodes) events h image tail apart last all later moment settled
    (inl is) left =
    early_stage p q n since k a b t u h image (omega (arith, ap length is)) (subst (Settled p q n a b) (sym is) settled)
    left
commit_stage p q n since k a b t u (Wrote at bytes ∷ nodes) events h image tail apart last all later moment settled
    (inr (inl fails)) left =
    let away = apart at bytes (all 0 (Wrote at bytes) (omega arith)) in
    early_stage p q n since k a b t u h image (omega (arith, ap length fails.2))
    (subst (Settled p q n a b) (sym fails.2) (Settled-tore p q n at bytes fails.0 a b events fails.1 away settled)) left
commit_stage p q n since k a b t u (Wrote at bytes ∷ nodes) events h image tail apart last all later moment settled
    (inr (inr front)) left =
    let away = apart at bytes (all 0 (Wrote at bytes) (omega arith)) in
    let rest : All IsApart nodes = λ i d below. all (suc i) d (omega arith) in
    commit_stage p q n since k a b t u nodes (Wrote at bytes ∷ events) h image tail apart last rest (omega arith)
    (omega arith)
    (Settled-wrote p q n at bytes a b events away settled) front left
commit_stage p q n since k a b t u (Tore at asked some ∷ nodes) events h image tail apart last all later moment settled
    front left =
    absurd (all 0 (Tore at asked some) (omega arith))
commit_stage p q n since k a b t u (Cut len ∷ nodes) events h image tail apart last all later moment settled front
    left = absurd (all 0 (Cut len) (omega arith))
commit_stage p q n since k a b t u (CutShort len some ∷ nodes) events h image tail apart last all later moment settled
    front left =
    absurd (all 0 (CutShort len some) (omega arith))
commit_stage p q n since k a b t u (Synced ∷ nodes) events h image tail apart last all later moment settled front left =
    absurd (all 0 Synced (omega arith))

-- ---- the stage of a crash

abbrev pub held_first : List Event → List ℕ
held_first before = range first_place super_bytes (content before)

abbrev pub held_second : List Event → List ℕ
held_second before = range second_place super_bytes (content before)

abbrev pub stage_of : List Event → List Event → Super → ℕ → List Event → List ℕ → Type 0
stage_of before nodes super moment after image =
    Stage first_place second_place super_bytes (begin_of before) (begin_of before + length nodes) (held_first before)
    (held_second before)
    (super_text first_place super) (super_text second_place super) (events_by moment after) image

-- all that the disk held was made sure of as the commit began
pub Settled-begin : (before : List Event) → second_place + super_bytes ≤ length (content before)
    → Settled first_place second_place super_bytes (held_first before) (held_second before) (Synced ∷ before)
Settled-begin before long = Settled-synced first_place second_place super_bytes (held_first before)
    (held_second before) before
    (record { order = omega arith; long = long; at_first = refl; at_second = refl })

pub stage_at : (before nodes after : List Event) (super : Super) (image : List ℕ) (moment : ℕ)
    → Committing before nodes super after
    → Crashing before after image moment → stage_of before nodes super moment after image
stage_at before nodes after super image moment commit crash =
    let since = begin_of before in
    let k = since + length nodes in
    let a = held_first before in
    let b = held_second before in
    let t = super_text first_place super in
    let u = super_text second_place super in
    let h = events_by moment after in
    commit_stage first_place second_place super_bytes since k a b t u nodes (Synced ∷ before) h image
    (superblock_events super)
    (λ at bytes apart. Apart-meets first_place second_place super_bytes at (length bytes) apart.0 apart.1)
    (λ some later there settled front left.
    superblock_stage first_place second_place super_bytes since k a b t u some h image
    (length-super_text first_place super) (length-super_text second_place super) (omega arith)
    later there settled front left)
    commit.apart (omega arith) (omega arith) (Settled-begin before commit.long)
    (front_by (commit_events nodes super) (Synced ∷ before) after moment commit.so_far
    (omega (arith, crash.leaves.no_earlier)) crash.leaves.no_later)
    crash.leaves.leaves

-- how many events there are by the moment
moment_of : (before after : List Event) (image : List ℕ) (moment : ℕ) → Crashing before after image moment
    → length (events_by moment after) ≡ moment
moment_of before after image moment crash = length-events_by moment after crash.leaves.no_later

-- ---- what is read at a place

-- of bytes that are neither the old ones nor the new ones no superblock is read
not_read : (place : ℕ) (bytes : List ℕ) → is_valid place bytes ≡ false → super_read place bytes ≡ None
not_read place bytes invalid = none_of (super_read place bytes) invalid where
  none_of : (found : Option Super) → is_some found ≡ false → found ≡ None
  none_of None is = refl
  none_of (Some super) is = absurd (true≢false is)

pub read_of_rewriting : (place : ℕ) (old new image : List ℕ)
    → NoChanceAt (is_valid place) place super_bytes (record { old = old; new = new }) image
    → (range place super_bytes image ≡ old)
    ⊎ ((range place super_bytes image ≡ new) ⊎ (super_read place (range place super_bytes image) ≡ None))
read_of_rewriting place old new image no_chance =
    let bytes = range place super_bytes image in
    elim (cases_Bool (bytes_eq bytes old)) [
      | inl same ↦ inl ((bytes_eq-Decides bytes old).0 same)
      | inr other ↦ elim (cases_Bool (bytes_eq bytes new)) [
        | inl same ↦ inr (inl ((bytes_eq-Decides bytes new).0 same))
        | inr neither ↦ inr (inr (not_read place bytes (no_chance
            (λ is. true≢false (sym ((bytes_eq-Decides bytes old).1 is) ∙ other))
            (λ is. true≢false (sym ((bytes_eq-Decides bytes new).1 is) ∙ neither)))))
      ]
    ]

-- ---- which of two counts

pub choose-same : (old : Super) → choose (Some old) (Some old) ≡ Some old
choose-same old = elim (cases_Bool (nat_lt old.generation old.generation)) [
  | inl less ↦ cond-true (nat_lt old.generation old.generation) (Some old) (Some old) less
  | inr not_less ↦ cond-false (nat_lt old.generation old.generation) (Some old) (Some old) not_less
]

choose-later : (old super : Super) → old.generation < super.generation → choose (Some super) (Some old) ≡ Some super
choose-later old super later =
    cond-false (nat_lt super.generation old.generation) (Some old) (Some super)
    (le-ltb super.generation old.generation (omega arith))

pub super_of-both : (image : List ℕ) (first second : Option Super) → super_in image first_place ≡ first
    → super_in image second_place ≡ second
    → super_of image ≡ choose first second
unfolding super_of
super_of-both image first second is_first is_second =
    ap (λ (found : Option Super). choose found (super_in image second_place)) is_first ∙ ap (choose first) is_second

-- ---- a crash by its stage

early_old : (before : List Event) (old super : Super) (image : List ℕ)
    → Holds first_place second_place super_bytes (held_first before) (held_second before) image
    → Replaces old super (content before) → super_of image ≡ Some old
early_old before old super image holds replaces =
    super_of-both image (Some old) (Some old) (ap (super_read first_place) holds.at_first ∙ replaces.first)
    (ap (super_read second_place) holds.at_second ∙ replaces.second)
    ∙ choose-same old

-- what counts where the first place holds one of two superblocks, or none, and the second the older one
with_old : (image : List ℕ) (old super : Super) → old.generation < super.generation
    → (super_in image first_place ≡ Some old)
    ⊎ ((super_in image first_place ≡ Some super) ⊎ (super_in image first_place ≡ None))
    → super_in image second_place ≡ Some old → (super_of image ≡ Some old) ⊎ (super_of image ≡ Some super)
with_old image old super later (inl is) second = inl (super_of-both image (Some old) (Some old) is second
    ∙ choose-same old)
with_old image old super later (inr (inl is)) second = inr (super_of-both image (Some super) (Some old) is second
    ∙ choose-later old super later)
with_old image old super later (inr (inr is)) second = inl (super_of-both image None (Some old) is second)

-- and where the first holds the newer one, and the second one of the two, or none
with_new : (image : List ℕ) (old super : Super) → old.generation < super.generation
    → super_in image first_place ≡ Some super
    → (super_in image second_place ≡ Some old)
    ⊎ ((super_in image second_place ≡ Some super) ⊎ (super_in image second_place ≡ None))
    → super_of image ≡ Some super
with_new image old super later first (inl is) = super_of-both image (Some super) (Some old) first is
    ∙ choose-later old super later
with_new image old super later first (inr (inl is)) = super_of-both image (Some super) (Some super) first is
    ∙ choose-same super
with_new image old super later first (inr (inr is)) = super_of-both image (Some super) None first is

-- what is read where the bytes are the old ones, or the new ones, or not valid
pub read_there : (place : ℕ) (old super : Super) (bytes held text : List ℕ) → super_read place held ≡ Some old
    → super_read place text ≡ Some super
    → (bytes ≡ held) ⊎ ((bytes ≡ text) ⊎ (super_read place bytes ≡ None))
    → (super_read place bytes ≡ Some old) ⊎ ((super_read place bytes ≡ Some super) ⊎ (super_read place bytes ≡ None))
read_there place old super bytes held text is_old is_new (inl is) = inl (ap (super_read place) is ∙ is_old)
read_there place old super bytes held text is_old is_new (inr (inl is)) = inr (inl (ap (super_read place) is ∙ is_new))
read_there place old super bytes held text is_old is_new (inr (inr is)) = inr (inr is)

middle_either : (before nodes after : List Event) (old super : Super) (image : List ℕ) (moment : ℕ)
    → is_super super ≡ true
    → Crashing before after image moment → Replaces old super (content before)
    → IsMiddle first_place second_place super_bytes (begin_of before) (begin_of before + length nodes)
    (held_first before) (held_second before)
    (super_text first_place super) (events_by moment after) image
    → (super_of image ≡ Some old) ⊎ (super_of image ≡ Some super)
middle_either before nodes after old super image moment fits crash replaces middle =
    let text = super_text first_place super in
    let no_chance = subst (λ (r : Rewriting). NoChanceAt (is_valid first_place) first_place super_bytes r image)
    middle.rewriting crash.no_chance.at_first in
    with_old image old super replaces.later
    (read_there first_place old super (range first_place super_bytes image) (held_first before) text replaces.first
    (super_read-super_text first_place super fits)
    (read_of_rewriting first_place (held_first before) text image no_chance))
    (ap (super_read second_place) middle.at_second ∙ replaces.second)

late_new : (before nodes after : List Event) (old super : Super) (image : List ℕ) (moment : ℕ) → is_super super ≡ true
    → Crashing before after image moment → Replaces old super (content before)
    → IsLate first_place second_place super_bytes (begin_of before) (begin_of before + length nodes)
    (held_second before)
    (super_text first_place super) (super_text second_place super) (events_by moment after) image
    → super_of image ≡ Some super
late_new before nodes after old super image moment fits crash replaces late =
    let text = super_text second_place super in
    let bytes = range second_place super_bytes image in
    let there : (bytes ≡ held_second before) ⊎ ((bytes ≡ text) ⊎ (super_read second_place bytes ≡ None)) =
    elim late.at_second [
      | inl is ↦ inl is
      | inr more ↦ elim more [
        | inl is ↦ inr (inl is)
        | inr rewriting ↦ read_of_rewriting second_place (held_second before) text image
            (subst (λ (r : Rewriting). NoChanceAt (is_valid second_place) second_place super_bytes r image) rewriting
            crash.no_chance.at_second)
      ]
    ] in
    with_new image old super replaces.later (ap (super_read first_place) late.at_first
    ∙ super_read-super_text first_place super fits)
    (read_there second_place old super bytes (held_second before) text replaces.second
    (super_read-super_text second_place super fits) there)

-- ---- the laws

pub leaves_a_valid_one : LeavesAValidOne
leaves_a_valid_one before nodes after super image moment commit crash second =
    elim (stage_at before nodes after super image moment commit crash) [
      | inl early ↦ inr (ap is_some (ap (super_read second_place) early.holds.at_second) ∙ second)
      | inr more ↦ elim more [
        | inl middle ↦ inr (ap is_some (ap (super_read second_place) middle.at_second) ∙ second)
        | inr late ↦ inl (ap is_some (ap (super_read first_place) late.at_first
            ∙ super_read-super_text first_place super commit.may_be_written))
      ]
    ]

pub leaves_old_or_new : LeavesOldOrNew
leaves_old_or_new before nodes after old super image moment commit crash replaces =
    elim (stage_at before nodes after super image moment commit crash) [
      | inl early ↦ inl (early_old before old super image early.holds replaces)
      | inr more ↦ elim more [
        | inl middle ↦ middle_either before nodes after old super image moment commit.may_be_written crash replaces
            middle
        | inr late ↦ inr (late_new before nodes after old super image moment commit.may_be_written crash replaces late)
      ]
    ]

pub leaves_the_old : LeavesTheOld
leaves_the_old before nodes after old super image moment commit crash replaces there =
    let many = moment_of before after image moment crash in
    elim (stage_at before nodes after super image moment commit crash) [
      | inl early ↦ early_old before old super image early.holds replaces
      | inr more ↦ elim more [
        | inl middle ↦ absurd (omega (arith, middle.moment))
        | inr late ↦ absurd (omega (arith, late.moment))
      ]
    ]

pub leaves_the_new : LeavesTheNew
leaves_the_new before nodes after old super image moment commit crash replaces there =
    let many = moment_of before after image moment crash in
    elim (stage_at before nodes after super image moment commit crash) [
      | inl early ↦ absurd (omega (arith, early.moment))
      | inr more ↦ elim more [
        | inl middle ↦ absurd (omega (arith, middle.moment))
        | inr late ↦ late_new before nodes after old super image moment commit.may_be_written crash replaces late
      ]
    ]
