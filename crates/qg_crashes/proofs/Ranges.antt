-- A range of a disk over which bytes were written, or torn.
use Rattle.std.proofs.Common.{◌≡◌, ℕ, ◌+◌, ◌-◌, ◌≤◌, ◌<◌, ◌⊎◌, min, max, inl, inr, List, length, drop, get_or, refl}
use Rattle.std.proofs.Common.{sym, ◌∙◌, arith, length-drop}
use Rattle.std.proofs.lemmas.Bool.{cases_lt}
use Rattle.std.proofs.lemmas.List.{length-take, get_or-take, get_or-drop}
use Rattle.std.proofs.lemmas.Grind.{same_number_lists}
use Rattle.qg_device.specs.History.{overlay, range}
use Rattle.qg_device.specs.Crash.{Torn}
use Rattle.qg_disk.proofs.Overlay.{get_or-overlay_in}
use Rattle.qg_disk.proofs.Sizes.{length-overlay}

-- how long a range inside some bytes is, and what its bytes are
pub length-range : (at n : ℕ) (bytes : List ℕ) → at + n ≤ length bytes → length (range at n bytes) ≡ n
length-range at n bytes within = omega (arith, length-take n (drop at bytes), length-drop at bytes)

pub get_or-range : (at n k : ℕ) (bytes : List ℕ) → k < n → get_or (range at n bytes) k 0 ≡ get_or bytes (at + k) 0
get_or-range at n k bytes below = get_or-take n (drop at bytes) k 0 below ∙ get_or-drop at bytes k 0

-- the range that was written has the bytes that were written
pub range-overlay : (at : ℕ) (bytes old : List ℕ) → range at (length bytes) (overlay at bytes old) ≡ bytes
range-overlay at bytes old =
    let fits : at + length bytes ≤ length (overlay at bytes old) = omega (arith, length-overlay at bytes old) in
    let long = length-range at (length bytes) (overlay at bytes old) fits in
    same_number_lists (range at (length bytes) (overlay at bytes old)) bytes long
    (λ k below.
    let within : k < length bytes = omega arith in
    let back : at + k - at ≡ k = omega arith in
    get_or-range at (length bytes) k (overlay at bytes old) within
    ∙ get_or-overlay_in at (at + k) bytes old (omega arith) (omega arith) ∙ rw back refl)

-- a place in a range is outside another range that has no byte in common with it
outside : (place n at m k : ℕ) → min (place + n) (at + m) ≤ max place at → k < n
    → (place + k < at) ⊎ (at + m ≤ place + k)
outside place n at m k apart below = elim (cases_lt (place + k) at) [
  | inl before ↦ inl before
  | inr after ↦ inr (omega arith)
]

-- a range that has no byte in common with one that was torn has the bytes that it had
pub range-torn : (at m place n : ℕ) (old new : List ℕ) → Torn at m old new → place + n ≤ length old
    → min (place + n) (at + m) ≤ max place at
    → range place n new ≡ range place n old
range-torn at m place n old new torn within apart =
    let fits : place + n ≤ length new = omega (arith, torn.no_shorter) in
    let many : length (range place n new) ≡ n = length-range place n new fits in
    let long : length (range place n new) ≡ length (range place n old) = many ∙ sym (length-range place n old within) in
    same_number_lists (range place n new) (range place n old) long
    (λ k below.
    let inside : k < n = omega arith in
    get_or-range place n k new inside ∙ torn.same (place + k) (omega arith) (outside place n at m k apart inside)
    ∙ sym (get_or-range place n k old inside))
