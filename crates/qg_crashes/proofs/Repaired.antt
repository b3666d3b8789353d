-- What a crash leaves while the superblock that counts is written at the other place.
use Rattle.std.proofs.Common.{◌≡◌, ◌∙◌, ◌⊎◌, inl, inr, ℕ, ◌≤◌, ◌<◌, List, [], ◌∷◌, length, refl, sym, ap, subst, arith}
use Rattle.std.proofs.Common.{Option, Some, None, true}
use Rattle.qg_device.specs.History.{Event, Wrote, Tore, Synced, content, range}
use Rattle.qg_device.specs.Crash.{Leaves}
use Rattle.qg_device.specs.CrashSince.{events_by}
use Rattle.qg_device.specs.LastWrite.{Rewriting, last_rewriting}
use Rattle.qg_device.specs.NoChance.{NoChanceAt}
use Rattle.qg_super.specs.declared.superblock.Super.{Super}
use Rattle.qg_super.specs.Places.{first_place, second_place}
use Rattle.qg_super.specs.SuperText.{super_text, super_read, choose, is_super}
use Rattle.qg_super.specs.NoChance.{super_bytes, is_valid}
use Rattle.qg_super.proofs.SuperTexts.{length-super_text, super_read-super_text, super_writes_back}
use Rattle.qg_image.specs.ImageState.{super_in, super_of}
use Rattle.qg_crashes.specs.Committing.{IsFrontOfEvents, begin_of, Crashing}
use Rattle.qg_crashes.specs.Repairing.{Repairing, KeepsWhatCounts}
use Rattle.qg_crashes.proofs.Places.{Settled, Settled-content, Settled-synced, second_stays, first_stays, Holds-first}
use Rattle.qg_crashes.proofs.Places.{Holds-second}
use Rattle.qg_crashes.proofs.Moments.{front_by}
use Rattle.qg_crashes.proofs.Stages.{IsWriteOf, write_leaves, write_rewrites}
use Rattle.qg_crashes.proofs.Chosen.{held_first, held_second, Settled-begin, read_of_rewriting, choose-same}
use Rattle.qg_crashes.proofs.Chosen.{super_of-both}

-- ---- a place that is written, and another one that is not

-- The place holds what it held, or the bytes of the write, or they were being written; the other place is as it was.
pub record IsRepair (place other n since : ℕ) (held stands text : List ℕ) (h : List Event)
    (image : List ℕ) : Type 0 where
  pub at_other : range other n image ≡ stands
  pub at_place : (range place n image ≡ held)
      ⊎ ((range place n image ≡ text) ⊎ (last_rewriting place n since h ≡ record { old = held; new = text }))

same_repair : (place other n since : ℕ) (held stands text : List ℕ) (events h : List Event) (image : List ℕ)
    → h ≡ events
    → (Leaves events image → IsRepair place other n since held stands text events image) → Leaves h image
    → IsRepair place other n since held stands text h image
same_repair place other n since held stands text events h image is repair left =
    subst (λ (es : List Event). Leaves es image → IsRepair place other n since held stands text es image)
    (sym is) repair left

-- three histories: none of it was done, the write was, the sync too
repair_stage : (place other n since : ℕ) (held stands text : List ℕ) (events h : List Event) (image : List ℕ)
    → (Leaves events image → IsRepair place other n since held stands text events image)
    → ((event : Event) → IsWriteOf place text event → Leaves (event ∷ events) image
    → IsRepair place other n since held stands text (event ∷ events) image)
    → (Leaves (Synced ∷ Wrote place text ∷ events) image
    → IsRepair place other n since held stands text (Synced ∷ Wrote place text ∷ events) image)
    → IsFrontOfEvents (Wrote place text ∷ Synced ∷ []) events h → Leaves h image
    → IsRepair place other n since held stands text h image
repair_stage place other n since held stands text events h image none write all (inl is) =
    same_repair place other n since held stands text events h image is none
repair_stage place other n since held stands text events h image none write all (inr (inl fails)) =
    same_repair place other n since held stands text (Tore place text fails.0 ∷ events) h image fails.2
    (write (Tore place text fails.0) (inr (fails.0, fails.1, refl)))
repair_stage place other n since held stands text events h image none write all (inr (inr (inl is))) =
    same_repair place other n since held stands text (Wrote place text ∷ events) h image is
    (write (Wrote place text) (inl refl))
repair_stage place other n since held stands text events h image none write all (inr (inr (inr (inl is)))) =
    same_repair place other n since held stands text (Wrote place text ∷ events) h image is
    (write (Wrote place text) (inl refl))
repair_stage place other n since held stands text events h image none write all (inr (inr (inr (inr is)))) =
    same_repair place other n since held stands text (Synced ∷ Wrote place text ∷ events) h image is all

-- of the first place
first_repair : (p q n since : ℕ) (a b text : List ℕ) (events h : List Event) (image : List ℕ) → length text ≡ n → 0 < n
    → since ≤ length events
    → Settled p q n a b events → IsFrontOfEvents (Wrote p text ∷ Synced ∷ []) events h → Leaves h image
    → IsRepair p q n since a b text h image
first_repair p q n since a b text events h image long some later settled =
    let held = Settled-content p q n a b events settled in
    repair_stage p q n since a b text events h image
    (λ left. let holds = settled.each image left in
    record { at_other = holds.at_second; at_place = inl holds.at_first })
    (λ event is left.
    let said = write_leaves p text event events image is left in
    record {
      at_other = second_stays p q n (length text) a b said.0 image long said.2 (settled.each said.0 said.1);
      at_place = inr (inr (write_rewrites p n since text a event events is long some later held.at_first));
    })
    (λ left.
    let holds = (Settled-synced p q n text b (Wrote p text ∷ events)
    (Holds-first p q n text a b (content events) long held)).each image left in
    record { at_other = holds.at_second; at_place = inr (inl holds.at_first) })

-- of the second place
second_repair : (p q n since : ℕ) (a b text : List ℕ) (events h : List Event) (image : List ℕ) → length text ≡ n → 0 < n
    → since ≤ length events
    → Settled p q n a b events → IsFrontOfEvents (Wrote q text ∷ Synced ∷ []) events h → Leaves h image
    → IsRepair q p n since b a text h image
second_repair p q n since a b text events h image long some later settled =
    let held = Settled-content p q n a b events settled in
    repair_stage q p n since b a text events h image
    (λ left. let holds = settled.each image left in
    record { at_other = holds.at_first; at_place = inl holds.at_second })
    (λ event is left.
    let said = write_leaves q text event events image is left in
    record {
      at_other = first_stays p q n (length text) a b said.0 image long said.2 (settled.each said.0 said.1);
      at_place = inr (inr (write_rewrites q n since text b event events is long some later held.at_second));
    })
    (λ left.
    let holds = (Settled-synced p q n a text (Wrote q text ∷ events)
    (Holds-second p q n text a b (content events) long held)).each image left in
    record { at_other = holds.at_first; at_place = inr (inl holds.at_second) })

-- ---- what is read there

-- at the place that is repaired: what was read before, or the superblock, or none
read_repaired : (place other since : ℕ) (held stands : List ℕ) (super : Super) (h : List Event) (image : List ℕ)
    → is_super super ≡ true
    → NoChanceAt (is_valid place) place super_bytes (last_rewriting place super_bytes since h) image
    → IsRepair place other super_bytes since held stands (super_text place super) h image
    → let read = super_read place (range place super_bytes image) in (read ≡ super_read place held)
    ⊎ ((read ≡ Some super) ⊎ (read ≡ None))
read_repaired place other since held stands super h image fits no_chance repair =
    let text = super_text place super in
    let bytes = range place super_bytes image in
    let there : (bytes ≡ held) ⊎ ((bytes ≡ text) ⊎ (super_read place bytes ≡ None)) = elim repair.at_place [
      | inl is ↦ inl is
      | inr more ↦ elim more [
        | inl is ↦ inr (inl is)
        | inr rewriting ↦ read_of_rewriting place held text image
            (subst (λ (r : Rewriting). NoChanceAt (is_valid place) place super_bytes r image) rewriting no_chance)
      ]
    ] in
    elim there [
      | inl is ↦ inl (ap (super_read place) is)
      | inr more ↦ elim more [
        | inl is ↦ inr (inl (ap (super_read place) is ∙ super_read-super_text place super fits))
        | inr is ↦ inr (inr is)
      ]
    ]

-- what counts, by what is read at each place
counts_at_second : (image : List ℕ) (super : Super) (held : Option Super) → choose held (Some super) ≡ Some super
    → (super_in image first_place ≡ held)
    ⊎ ((super_in image first_place ≡ Some super) ⊎ (super_in image first_place ≡ None))
    → super_in image second_place ≡ Some super → super_of image ≡ Some super
counts_at_second image super held counts (inl is) second = super_of-both image held (Some super) is second ∙ counts
counts_at_second image super held counts (inr (inl is)) second = super_of-both image (Some super) (Some super) is second
    ∙ choose-same super
counts_at_second image super held counts (inr (inr is)) second = super_of-both image None (Some super) is second

counts_at_first : (image : List ℕ) (super : Super) (held : Option Super) → choose (Some super) held ≡ Some super
    → (super_in image second_place ≡ held)
    ⊎ ((super_in image second_place ≡ Some super) ⊎ (super_in image second_place ≡ None))
    → super_in image first_place ≡ Some super → super_of image ≡ Some super
counts_at_first image super held counts (inl is) first = super_of-both image (Some super) held first is ∙ counts
counts_at_first image super held counts (inr (inl is)) first = super_of-both image (Some super) (Some super) first is
    ∙ choose-same super
counts_at_first image super held counts (inr (inr is)) first = super_of-both image (Some super) None first is

-- a superblock that was read may be written
fits_as_read : (place : ℕ) (bytes : List ℕ) (super : Super) → super_read place bytes ≡ Some super
    → is_super super ≡ true
fits_as_read place bytes super is = (super_writes_back place bytes super is).served

-- what is read at both places while one of them is repaired: at the other one the superblock
pub record IsReadRepaired (before : List Event) (place other : ℕ) (super : Super) (image : List ℕ) : Type 0 where
  pub at_place : (super_in image place ≡ super_in (content before) place)
      ⊎ ((super_in image place ≡ Some super) ⊎ (super_in image place ≡ None))
  pub at_other : super_in image other ≡ Some super

pub first_read : (before after : List Event) (super : Super) (image : List ℕ) (moment : ℕ)
    → Repairing before first_place second_place super after
    → Crashing before after image moment → IsReadRepaired before first_place second_place super image
first_read before after super image moment repair crash =
    let since = begin_of before in
    let h = events_by moment after in
    let text = super_text first_place super in
    let fits = fits_as_read second_place (held_second before) super repair.stands in
    let front = front_by (Wrote first_place text ∷ Synced ∷ []) (Synced ∷ before) after moment repair.so_far
    (omega (arith, crash.leaves.no_earlier)) crash.leaves.no_later in
    let is = first_repair first_place second_place super_bytes since (held_first before) (held_second before) text
    (Synced ∷ before) h image
    (length-super_text first_place super) (omega arith) (omega arith) (Settled-begin before repair.long) front
    crash.leaves.leaves in
    record {
      at_place = read_repaired first_place second_place since (held_first before) (held_second before) super h image
          fits crash.no_chance.at_first is;
      at_other = ap (super_read second_place) is.at_other ∙ repair.stands;
    }

pub second_read : (before after : List Event) (super : Super) (image : List ℕ) (moment : ℕ)
    → Repairing before second_place first_place super after
    → Crashing before after image moment → IsReadRepaired before second_place first_place super image
second_read before after super image moment repair crash =
    let since = begin_of before in
    let h = events_by moment after in
    let text = super_text second_place super in
    let fits = fits_as_read first_place (held_first before) super repair.stands in
    let front = front_by (Wrote second_place text ∷ Synced ∷ []) (Synced ∷ before) after moment repair.so_far
    (omega (arith, crash.leaves.no_earlier)) crash.leaves.no_later in
    let is = second_repair first_place second_place super_bytes since (held_first before) (held_second before) text
    (Synced ∷ before) h image
    (length-super_text second_place super) (omega arith) (omega arith) (Settled-begin before repair.long) front
    crash.leaves.leaves in
    record {
      at_place = read_repaired second_place first_place since (held_second before) (held_first before) super h image
          fits crash.no_chance.at_second is;
      at_other = ap (super_read first_place) is.at_other ∙ repair.stands;
    }

repaired_first : (before after : List Event) (super : Super) (image : List ℕ) (moment : ℕ)
    → Repairing before first_place second_place super after
    → Crashing before after image moment → super_of image ≡ Some super
repaired_first before after super image moment repair crash =
    let read = first_read before after super image moment repair crash in
    let held = super_in (content before) first_place in
    let counts : choose held (Some super) ≡ Some super =
    ap (choose held) (sym repair.stands)
    ∙ sym (super_of-both (content before) held (super_in (content before) second_place) refl refl)
    ∙ repair.counts in
    counts_at_second image super held counts read.at_place read.at_other

repaired_second : (before after : List Event) (super : Super) (image : List ℕ) (moment : ℕ)
    → Repairing before second_place first_place super after
    → Crashing before after image moment → super_of image ≡ Some super
repaired_second before after super image moment repair crash =
    let read = second_read before after super image moment repair crash in
    let held = super_in (content before) second_place in
    let counts : choose (Some super) held ≡ Some super =
    ap (λ (found : Option Super). choose found held) (sym repair.stands)
    ∙ sym (super_of-both (content before) (super_in (content before) first_place) held refl refl) ∙ repair.counts in
    counts_at_first image super held counts read.at_place read.at_other

pub keeps_what_counts : KeepsWhatCounts
keeps_what_counts before after super image moment (inl repair) crash =
    repaired_first before after super image moment repair crash
keeps_what_counts before after super image moment (inr repair) crash =
    repaired_second before after super image moment repair crash
