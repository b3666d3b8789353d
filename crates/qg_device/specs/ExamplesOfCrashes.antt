-- Small histories, and the images that a crash after them may leave.
use Rattle.std.specs.Prelude.{◌≡◌, ◌⊎◌, ℕ, zero, suc, ◌≤◌, ◌<◌, List, [], ◌∷◌, slice_index, refl}
use Rattle.std.proofs.Common.{subst, inl, inr, arith}
use Rattle.qg_device.specs.History.{Event, Wrote, Tore, Cut, Synced}
use Rattle.qg_device.specs.Crash.{Torn, Leaves}

-- four bytes that a sync made sure of
abbrev pub four : List Event
four = Synced ∷ Wrote 0 (1 ∷ 2 ∷ 3 ∷ 4 ∷ []) ∷ []

-- ---- a write into the middle that no sync has made sure of

abbrev pub rewritten : List Event
rewritten = Wrote 1 (8 ∷ 9 ∷ []) ∷ four

-- outside two bytes at place 1 the four bytes are the same
same_around : (a b place : ℕ) → place < 4 → (place < 1) ⊎ (3 ≤ place)
    → slice_index (1 ∷ a ∷ b ∷ 4 ∷ []) place ≡ slice_index (1 ∷ 2 ∷ 3 ∷ 4 ∷ []) place
same_around a b zero inside apart = refl
same_around a b (suc zero) inside apart = absurd (omega (arith, apart))
same_around a b (suc (suc zero)) inside apart = absurd (omega (arith, apart))
same_around a b (suc (suc (suc zero))) inside apart = refl
same_around a b (suc (suc (suc (suc place)))) inside apart = absurd (omega (arith, inside))

-- any two bytes may stand in its range
any_bytes_in_the_range : (a b : ℕ) → Leaves rewritten (1 ∷ a ∷ b ∷ 4 ∷ [])
any_bytes_in_the_range a b =
    (1 ∷ 2 ∷ 3 ∷ 4 ∷ [], refl, record { same = same_around a b; no_shorter = omega arith; no_longer = omega arith })

-- so the old bytes may stand there, the new ones, or one of each
old_bytes : Leaves rewritten (1 ∷ 2 ∷ 3 ∷ 4 ∷ [])
old_bytes = any_bytes_in_the_range 2 3

new_bytes : Leaves rewritten (1 ∷ 8 ∷ 9 ∷ 4 ∷ [])
new_bytes = any_bytes_in_the_range 8 9

mixed_bytes : Leaves rewritten (1 ∷ 8 ∷ 3 ∷ 4 ∷ [])
mixed_bytes = any_bytes_in_the_range 8 3

-- the first byte and the last one stay
bytes_outside_stay : (a b c d : ℕ) → Leaves rewritten (a ∷ b ∷ c ∷ d ∷ []) → (a ≡ 1) × (d ≡ 4)
bytes_outside_stay a b c d left =
    let kept = subst (λ before. Torn 1 2 before (a ∷ b ∷ c ∷ d ∷ [])) left.1 left.2 in
    (kept.same 0 (omega arith) (inl (omega arith)), kept.same 3 (omega arith) (inr (omega arith)))

-- after a sync there is the content alone
synced_content : (image : List ℕ) → Leaves (Synced ∷ rewritten) image → image ≡ 1 ∷ 8 ∷ 9 ∷ 4 ∷ []
synced_content image left = left

-- a write that failed, and left nothing by what the disk holds, may still have left any bytes in the range that it
-- asked for
failed_write : (a b : ℕ) → Leaves (Tore 1 (8 ∷ 9 ∷ []) [] ∷ four) (1 ∷ a ∷ b ∷ 4 ∷ [])
failed_write a b = any_bytes_in_the_range a b

-- ---- a cut to two bytes that no sync has made sure of

-- the first two bytes are the same
same_before : (image : List ℕ) (place : ℕ) → place < 2 → place < 4
    → slice_index (1 ∷ 2 ∷ image) place ≡ slice_index (1 ∷ 2 ∷ 3 ∷ 4 ∷ []) place
same_before image zero inside before = refl
same_before image (suc zero) inside before = refl
same_before image (suc (suc place)) inside before = absurd (omega (arith, inside))

-- the cut may be done
cut_is_done : Leaves (Cut 2 ∷ four) (1 ∷ 2 ∷ [])
cut_is_done = (
  1 ∷ 2 ∷ 3 ∷ 4 ∷ [],
  refl,
  record {
    same = same_before [];
    no_shorter = omega arith;
    no_longer = omega arith;
  },
)

-- or what was cut off is still there, or other bytes in its place
cut_off_bytes : (c d : ℕ) → Leaves (Cut 2 ∷ four) (1 ∷ 2 ∷ c ∷ d ∷ [])
cut_off_bytes c d = (
  1 ∷ 2 ∷ 3 ∷ 4 ∷ [],
  refl,
  record {
    same = same_before (c ∷ d ∷ []);
    no_shorter = omega arith;
    no_longer = omega arith;
  },
)

-- after a sync what was cut off is gone
synced_cut : (image : List ℕ) → Leaves (Synced ∷ Cut 2 ∷ four) image → image ≡ 1 ∷ 2 ∷ []
synced_cut image left = left

-- ---- a write past the end, behind a gap of one byte

-- the four bytes are the same
same_four : (image : List ℕ) (place : ℕ) → place < 4 → (place < 5) ⊎ (6 ≤ place)
    → slice_index (1 ∷ 2 ∷ 3 ∷ 4 ∷ image) place ≡ slice_index (1 ∷ 2 ∷ 3 ∷ 4 ∷ []) place
same_four image zero inside apart = refl
same_four image (suc zero) inside apart = refl
same_four image (suc (suc zero)) inside apart = refl
same_four image (suc (suc (suc zero))) inside apart = refl
same_four image (suc (suc (suc (suc place)))) inside apart = absurd (omega (arith, inside))

-- the gap too may hold any byte
any_byte_in_the_gap : (a b : ℕ) → Leaves (Wrote 5 (7 ∷ []) ∷ four) (1 ∷ 2 ∷ 3 ∷ 4 ∷ a ∷ b ∷ [])
any_byte_in_the_gap a b = (
  1 ∷ 2 ∷ 3 ∷ 4 ∷ [],
  refl,
  record {
    same = same_four (a ∷ b ∷ []);
    no_shorter = omega arith;
    no_longer = omega arith;
  },
)

-- and the end may not have been reached
end_not_reached : (a : ℕ) → Leaves (Wrote 5 (7 ∷ []) ∷ four) (1 ∷ 2 ∷ 3 ∷ 4 ∷ a ∷ [])
end_not_reached a = (
  1 ∷ 2 ∷ 3 ∷ 4 ∷ [],
  refl,
  record {
    same = same_four (a ∷ []);
    no_shorter = omega arith;
    no_longer = omega arith;
  },
)
