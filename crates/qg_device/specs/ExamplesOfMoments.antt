-- A disk of four bytes, in two places of two bytes each, that were written one after the other; and the images that a
-- crash at each moment may have left. The bytes of a place are valid where both are the same.
use Rattle.std.specs.Prelude.{◌≡◌, ◌⊎◌, ℕ, zero, suc, ◌≤◌, ◌<◌, Bool, false, ◌==◌, List, [], ◌∷◌, slice_index, refl}
use Rattle.std.proofs.Common.{arith}
use Rattle.std.proofs.lemmas.Bool.{true≢false}
use Rattle.qg_device.specs.History.{Event, Wrote, Tore, Cut, Synced}
use Rattle.qg_device.specs.Crash.{Torn}
use Rattle.qg_device.specs.CrashSince.{events_by, LeavesSince}
use Rattle.qg_device.specs.LastWrite.{Rewriting, last_rewriting}
use Rattle.qg_device.specs.NoChance.{NoChanceAt}

-- four ones that a sync made sure of: moment 2
abbrev pub ones : List Event
ones = Synced ∷ Wrote 0 (1 ∷ 1 ∷ 1 ∷ 1 ∷ []) ∷ []

-- twos are written into the first place and made sure of, and then into the second: moments 3 to 6
abbrev pub renewed : List Event
renewed = Synced ∷ Wrote 2 (2 ∷ 2 ∷ []) ∷ Synced ∷ Wrote 0 (2 ∷ 2 ∷ []) ∷ ones

-- the same with no sync between the two writes, or one that failed, which is no event: moments 3 and 4
abbrev pub together : List Event
together = Wrote 2 (2 ∷ 2 ∷ []) ∷ Wrote 0 (2 ∷ 2 ∷ []) ∷ ones

-- ---- which write was the last, what was there before it, and what it was of

abbrev pub from_to : ℕ → ℕ → Rewriting
from_to old new = record { old = old ∷ old ∷ []; new = new ∷ new ∷ [] }

first_is_written : last_rewriting 0 2 2 (events_by 3 renewed) ≡ from_to 1 2
first_is_written = refl

second_is_not_written_yet : last_rewriting 2 2 2 (events_by 3 renewed) ≡ from_to 1 1
second_is_not_written_yet = refl

second_is_written : last_rewriting 2 2 2 (events_by 5 renewed) ≡ from_to 1 2
second_is_written = refl

-- the last write to the first place is still the last there
first_was_written : last_rewriting 0 2 2 (events_by 5 renewed) ≡ from_to 1 2
first_was_written = refl

-- since moment 4 none has begun there
first_is_not_written_again : last_rewriting 0 2 4 renewed ≡ from_to 2 2
first_is_not_written_again = refl

-- a write that failed, and left nothing, has begun
failed_write : last_rewriting 0 2 2 (Tore 0 (2 ∷ 2 ∷ []) [] ∷ ones) ≡ from_to 1 2
failed_write = refl

-- a write over the border is to both places
write_over_the_border : last_rewriting 0 2 2 (Wrote 1 (2 ∷ 2 ∷ []) ∷ ones) ≡ record {
  old = 1 ∷ 1 ∷ [];
  new = 1 ∷ 2 ∷ [];
}
write_over_the_border = refl

-- a write of no bytes is to no place, and neither is a cut
write_of_no_bytes : last_rewriting 0 2 2 (Wrote 1 [] ∷ ones) ≡ from_to 1 1
write_of_no_bytes = refl

cut_is_no_write : last_rewriting 2 2 2 (Cut 2 ∷ ones) ≡ from_to 1 1
cut_is_no_write = refl

-- ---- torn writes

-- a write to the first place may leave any bytes there, and leaves the others
torn_first : (x y a b c d : ℕ) → Torn 0 2 (x ∷ y ∷ c ∷ d ∷ []) (a ∷ b ∷ c ∷ d ∷ [])
torn_first x y a b c d = record { same = same; no_shorter = omega arith; no_longer = omega arith } where
  same : (place : ℕ) → place < 4 → (place < 0) ⊎ (2 ≤ place)
      → slice_index (a ∷ b ∷ c ∷ d ∷ []) place ≡ slice_index (x ∷ y ∷ c ∷ d ∷ []) place
  same zero inside apart = absurd (omega (arith, apart))
  same (suc zero) inside apart = absurd (omega (arith, apart))
  same (suc (suc zero)) inside apart = refl
  same (suc (suc (suc zero))) inside apart = refl
  same (suc (suc (suc (suc place)))) inside apart = absurd (omega (arith, inside))

-- so does a write to the second
torn_second : (a b x y c d : ℕ) → Torn 2 2 (a ∷ b ∷ x ∷ y ∷ []) (a ∷ b ∷ c ∷ d ∷ [])
torn_second a b x y c d = record { same = same; no_shorter = omega arith; no_longer = omega arith } where
  same : (place : ℕ) → place < 4 → (place < 2) ⊎ (4 ≤ place)
      → slice_index (a ∷ b ∷ c ∷ d ∷ []) place ≡ slice_index (a ∷ b ∷ x ∷ y ∷ []) place
  same zero inside apart = refl
  same (suc zero) inside apart = refl
  same (suc (suc zero)) inside apart = absurd (omega (arith, apart))
  same (suc (suc (suc zero))) inside apart = absurd (omega (arith, apart))
  same (suc (suc (suc (suc place)))) inside apart = absurd (omega (arith, inside))

-- at moment 3 any two bytes may stand in the first place, and the second has its ones
first_may_be_torn : (a b : ℕ) → LeavesSince 2 renewed (a ∷ b ∷ 1 ∷ 1 ∷ []) 3
first_may_be_torn a b = record {
  no_earlier = omega arith;
  no_later = omega arith;
  leaves = (1 ∷ 1 ∷ 1 ∷ 1 ∷ [], refl, torn_first 1 1 a b 1 1);
}

-- at moment 5 the first place has its twos, and any two bytes may stand in the second
second_may_be_torn : (c d : ℕ) → LeavesSince 2 renewed (2 ∷ 2 ∷ c ∷ d ∷ []) 5
second_may_be_torn c d = record {
  no_earlier = omega arith;
  no_later = omega arith;
  leaves = (2 ∷ 2 ∷ 1 ∷ 1 ∷ [], refl, torn_second 2 2 1 1 c d);
}

-- nothing is left that was before the moment from which on is asked
no_crash_before_that_moment : (image : List ℕ) → LeavesSince 4 renewed image 3 → ⊥
no_crash_before_that_moment image left = omega (arith, left.no_earlier)

-- at the last moment there is what was written alone
nothing_is_torn_in_the_end : (image : List ℕ) → LeavesSince 2 renewed image 6 → image ≡ 2 ∷ 2 ∷ 2 ∷ 2 ∷ []
nothing_is_torn_in_the_end image left = left.leaves

-- ---- without a sync between them, the second write may be done and the first one not

second_lands_before_the_first : LeavesSince 2 together (1 ∷ 1 ∷ 2 ∷ 2 ∷ []) 4
second_lands_before_the_first = record {
  no_earlier = omega arith;
  no_later = omega arith;
  leaves = (1 ∷ 1 ∷ 1 ∷ 1 ∷ [], (1 ∷ 1 ∷ 1 ∷ 1 ∷ [], refl, torn_first 1 1 1 1 1 1), torn_second 1 1 1 1 2 2);
}

-- and both places may be torn at once
both_may_be_torn : (a b c d : ℕ) → LeavesSince 2 together (a ∷ b ∷ c ∷ d ∷ []) 4
both_may_be_torn a b c d = record {
  no_earlier = omega arith;
  no_later = omega arith;
  leaves = (a ∷ b ∷ 1 ∷ 1 ∷ [], (1 ∷ 1 ∷ 1 ∷ 1 ∷ [], refl, torn_first 1 1 a b 1 1), torn_second a b 1 1 c d);
}

-- ---- a cut in front of the second place may leave any bytes there

cut_may_leave_bytes : (c d : ℕ) → LeavesSince 2 (Cut 2 ∷ ones) (1 ∷ 1 ∷ c ∷ d ∷ []) 3
cut_may_leave_bytes c d = record {
  no_earlier = omega arith;
  no_later = omega arith;
  leaves = (1 ∷ 1 ∷ 1 ∷ 1 ∷ [], refl, record { same = same; no_shorter = omega arith; no_longer = omega arith });
} where
  same : (place : ℕ) → place < 2 → place < 4
      → slice_index (1 ∷ 1 ∷ c ∷ d ∷ []) place ≡ slice_index (1 ∷ 1 ∷ 1 ∷ 1 ∷ []) place
  same zero inside before = refl
  same (suc zero) inside before = refl
  same (suc (suc place)) inside before = absurd (omega (arith, inside))

-- ---- no chance

-- two bytes are the same
abbrev pub are_same : List ℕ → Bool
are_same (a ∷ b ∷ []) = a == b
are_same bytes = false

-- one byte of each is neither the old ones nor the new ones, and is not valid
torn_place_is_not_valid : NoChanceAt are_same 0 2 (from_to 1 2) (2 ∷ 1 ∷ 1 ∷ 1 ∷ [])
torn_place_is_not_valid not_old not_new = refl

-- the old bytes may stand there, and the new ones
old_bytes_may_be_valid : NoChanceAt are_same 0 2 (from_to 1 2) (1 ∷ 1 ∷ 1 ∷ 1 ∷ [])
old_bytes_may_be_valid not_old not_new = absurd (not_old refl)

new_bytes_may_be_valid : NoChanceAt are_same 0 2 (from_to 1 2) (2 ∷ 2 ∷ 1 ∷ 1 ∷ [])
new_bytes_may_be_valid not_old not_new = absurd (not_new refl)

-- other bytes that are valid are what is left out by chance
other_bytes_are_left_out : NoChanceAt are_same 0 2 (from_to 1 2) (3 ∷ 3 ∷ 1 ∷ 1 ∷ []) → ⊥
other_bytes_are_left_out no_chance = true≢false (no_chance (λ is_old. cc) (λ is_new. cc))
