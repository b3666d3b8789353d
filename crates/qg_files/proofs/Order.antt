-- Pieces that are apart, in order. Positions and lengths are in bytes.
use Rattle.std.proofs.Common.{ℕ, zero, suc, ◌+◌, ◌<◌, ◌≤◌, List, [], ◌∷◌, ◌++◌, length, get_or, take, drop, arith}
use Rattle.std.proofs.Common.{add-one}
use Rattle.std.specs.List.{AllByRecursion}
use Rattle.std.specs.List.Sorted.{IsNonDecreasingBy}
use Rattle.std.proofs.lemmas.List.Sorted.{IsNonDecreasingBy-from_all_adjacent}
use Rattle.qg_num.specs.declared.piece.Piece.{Piece}
use Rattle.qg_image.specs.FilesOf.{piece_end}
use Rattle.qg_files.specs.Apart.{IsWithinSizes, AreApartFrom}

-- they may begin later than is asked
pub apart_from_earlier : (a b : ℕ) (xs : List Piece) → b ≤ a → AreApartFrom a xs → AreApartFrom b xs
unfolding AreApartFrom
apart_from_earlier a b [] earlier apart = tt
apart_from_earlier a b (x ∷ xs) earlier apart = (omega (arith, apart.0), apart.1, apart.2)

-- a part of the list, from the front or up to the end
pub apart-take : (a n : ℕ) (xs : List Piece) → AreApartFrom a xs → AreApartFrom a (take n xs)
unfolding AreApartFrom
apart-take a zero xs apart = tt
apart-take a (suc n) [] apart = tt
apart-take a (suc n) (x ∷ xs) apart = (apart.0, apart.1, apart-take (piece_end x) n xs apart.2)

pub apart-drop : (a n : ℕ) (xs : List Piece) → AreApartFrom a xs → AreApartFrom a (drop n xs)
unfolding AreApartFrom
apart-drop a zero xs apart = apart
apart-drop a (suc n) [] apart = tt
apart-drop a (suc n) (x ∷ xs) apart =
    apart-drop a n xs (apart_from_earlier (piece_end x) a xs (omega (arith, apart.0)) apart.2)

-- each begins where the first may, or later
pub all_begin_from : (a : ℕ) (xs : List Piece) → AreApartFrom a xs → AllByRecursion (λ x. a ≤ x.position) xs
unfolding AreApartFrom
all_begin_from a [] apart = tt
all_begin_from a (x ∷ xs) apart =
    (apart.0, all_begin_from a xs (apart_from_earlier (piece_end x) a xs (omega (arith, apart.0)) apart.2))

pub all_within_sizes : (a : ℕ) (xs : List Piece) → AreApartFrom a xs → AllByRecursion IsWithinSizes xs
unfolding AreApartFrom
all_within_sizes a [] apart = tt
all_within_sizes a (x ∷ xs) apart = (apart.1, all_within_sizes (piece_end x) xs apart.2)

-- the last one begins behind all others
pub last_begins_from : (a : ℕ) (xs : List Piece) (last : Piece) → AreApartFrom a (xs ++ last ∷ []) → a ≤ last.position
unfolding AreApartFrom
last_begins_from a [] last apart = apart.0
last_begins_from a (x ∷ xs) last apart = let later = last_begins_from (piece_end x) xs last apart.2 in
    omega (arith, apart.0, later)

-- each ends where the next begins, or before
neighbours : (a : ℕ) (xs : List Piece) (k : ℕ) (d : Piece) → AreApartFrom a xs → suc k < length xs
    → piece_end (get_or xs k d) ≤ (get_or xs (suc k) d).position
unfolding AreApartFrom
neighbours a [] k d apart short = absurd (omega arith)
neighbours a (x ∷ []) k d apart short = absurd (omega arith)
neighbours a (x ∷ y ∷ ys) zero d apart short = apart.2.0
neighbours a (x ∷ y ∷ ys) (suc k) d apart short = neighbours (piece_end x) (y ∷ ys) k d apart.2 (omega arith)

next_begins : (a : ℕ) (xs : List Piece) (k : ℕ) (d : Piece) → AreApartFrom a xs → k + 1 < length xs
    → piece_end (get_or xs k d) ≤ (get_or xs (k + 1) d).position
next_begins a xs k d apart short = rw add-one (neighbours a xs k d apart (omega arith))

-- so positions ascend, and ends too
pub positions_ascend : (a : ℕ) (xs : List Piece) → AreApartFrom a xs → IsNonDecreasingBy (λ x. x.position) xs
positions_ascend a xs apart = IsNonDecreasingBy-from_all_adjacent (λ (x : Piece). x.position) xs
    (λ k d short. let next = next_begins a xs k d apart short in omega (arith, next))

pub ends_ascend : (a : ℕ) (xs : List Piece) → AreApartFrom a xs → IsNonDecreasingBy piece_end xs
ends_ascend a xs apart =
    IsNonDecreasingBy-from_all_adjacent piece_end xs (λ k d short. let next = next_begins a xs k d apart short in
    omega (arith, next))

-- two lists, one behind the other
pub apart-append : (a b : ℕ) (xs ys : List Piece) → AreApartFrom a xs → AllByRecursion (λ x. piece_end x ≤ b) xs → a ≤ b
    → AreApartFrom b ys → AreApartFrom a (xs ++ ys)
unfolding AreApartFrom
apart-append a b [] ys front ends order back = apart_from_earlier b a ys order back
apart-append a b (x ∷ xs) ys front ends order back =
    (front.0, front.1, apart-append (piece_end x) b xs ys front.2 ends.1 ends.0 back)
