-- What pieces have in front of a position, from one on, and in a range. Positions and lengths are in bytes.
use Rattle.std.proofs.Common.{◌≡◌, ℕ, ◌+◌, ◌<◌, ◌≤◌, List, [], ◌∷◌, ◌++◌, length, get_or, take, drop, Option, Some}
use Rattle.std.proofs.Common.{None, refl, sym, ap, subst, ◌∙◌, arith}
use Rattle.std.specs.List.{All, AllByRecursion, cons_option}
use Rattle.std.specs.Option.{option_to_list}
use Rattle.std.proofs.lemmas.List.{take-append-drop, drop_more, append-nil, take_more}
use Rattle.std.proofs.lemmas.List.Elements.{filter_map-append, recursion_from_All}
use Rattle.qg_num.specs.declared.piece.Piece.{Piece}
use Rattle.qg_image.specs.FilesOf.{piece_end}
use Rattle.qg_machine.specs.FileChange.{part_before, part_after, before, after}
use Rattle.qg_files.specs.Apart.{IsWithinSizes, AreApartFrom, AreApart}
use Rattle.qg_files.proofs.Order.{apart_from_earlier, apart-take, apart-drop, all_begin_from, all_within_sizes}
use Rattle.qg_files.proofs.Order.{last_begins_from}
use Rattle.qg_files.proofs.Parts.{before_whole, before_none, after_whole, after_none}

-- ---- of lists that lie on one side

pub before_all : (to : ℕ) (xs : List Piece) → AllByRecursion IsWithinSizes xs
    → AllByRecursion (λ x. piece_end x ≤ to) xs → before to xs ≡ xs
unfolding before
before_all to [] sizes ends = refl
before_all to (x ∷ xs) sizes ends =
    ap (λ part. cons_option part (before to xs)) (before_whole to x sizes.0.some ends.0)
    ∙ ap (λ ys. x ∷ ys) (before_all to xs sizes.1 ends.1)

pub before_nothing : (to : ℕ) (xs : List Piece) → AllByRecursion (λ x. to ≤ x.position) xs → before to xs ≡ []
unfolding before
before_nothing to [] begin = refl
before_nothing to (x ∷ xs) begin = ap (λ part. cons_option part (before to xs)) (before_none to x begin.0)
    ∙ before_nothing to xs begin.1

pub after_all : (from : ℕ) (xs : List Piece) → AllByRecursion IsWithinSizes xs
    → AllByRecursion (λ x. from ≤ x.position) xs → after from xs ≡ xs
unfolding after
after_all from [] sizes begin = refl
after_all from (x ∷ xs) sizes begin =
    ap (λ part. cons_option part (after from xs)) (after_whole from x sizes.0.some begin.0)
    ∙ ap (λ ys. x ∷ ys) (after_all from xs sizes.1 begin.1)

pub after_nothing : (from : ℕ) (xs : List Piece) → AllByRecursion (λ x. piece_end x ≤ from) xs → after from xs ≡ []
unfolding after
after_nothing from [] ends = refl
after_nothing from (x ∷ xs) ends = ap (λ part. cons_option part (after from xs)) (after_none from x ends.0)
    ∙ after_nothing from xs ends.1

pub before-append : (to : ℕ) (xs ys : List Piece) → before to (xs ++ ys) ≡ before to xs ++ before to ys
unfolding before
before-append to xs ys = filter_map-append (part_before to) xs ys

pub after-append : (from : ℕ) (xs ys : List Piece) → after from (xs ++ ys) ≡ after from xs ++ after from ys
unfolding after
after-append from xs ys = filter_map-append (part_after from) xs ys

-- ---- of lists that are split at an index

pub cons_none : {A : Type 0} (part : Option A) → cons_option part [] ≡ option_to_list part
cons_none None = refl
cons_none (Some x) = refl

-- of a list whose later pieces all begin past the position
before_first : (a to : ℕ) (x : Piece) (xs : List Piece) → AreApartFrom a (x ∷ xs) → to < piece_end x
    → before to (x ∷ xs) ≡ option_to_list (part_before to x)
unfolding before AreApartFrom
before_first a to x xs apart past =
    let later = all_begin_from to xs (apart_from_earlier (piece_end x) to xs (omega arith) apart.2) in
    ap (λ ys. cons_option (part_before to x) ys) (before_nothing to xs later) ∙ cons_none (part_before to x)

-- of a list that all but the last piece end by the position
after_last : (a from : ℕ) (xs : List Piece) (x : Piece) → AreApartFrom a (xs ++ x ∷ []) → x.position < from
    → after from (xs ++ x ∷ []) ≡ option_to_list (part_after from x)
unfolding after AreApartFrom
after_last a from [] x apart begins = cons_none (part_after from x)
after_last a from (y ∷ xs) x apart begins =
    let ends = last_begins_from (piece_end y) xs x apart.2 in
    ap (λ part. cons_option part (after from (xs ++ x ∷ []))) (after_none from y (omega (arith, ends)))
    ∙ after_last (piece_end y) from xs x apart.2 begins

sizes-take : (n : ℕ) (xs : List Piece) → AreApart xs → AllByRecursion IsWithinSizes (take n xs)
sizes-take n xs apart = all_within_sizes 0 (take n xs) (apart-take 0 n xs apart)

sizes-drop : (n : ℕ) (xs : List Piece) → AreApart xs → AllByRecursion IsWithinSizes (drop n xs)
sizes-drop n xs apart = all_within_sizes 0 (drop n xs) (apart-drop 0 n xs apart)

-- the pieces in front of the index, and the part of the one there
pub before_at : (to : ℕ) (xs : List Piece) (i : ℕ) (x : Piece) → AreApart xs → All (λ y. piece_end y ≤ to) (take i xs)
    → i < length xs → x ≡ get_or xs i x → to < piece_end x
    → before to xs ≡ take i xs ++ option_to_list (part_before to x)
before_at to xs i x apart ends short is past =
    ap (before to) (sym (take-append-drop i xs))
    ∙ before-append to (take i xs) (drop i xs)
    ∙ ap (λ ys. ys ++ before to (drop i xs))
    (before_all to (take i xs) (sizes-take i xs apart)
    (recursion_from_All (λ y. piece_end y ≤ to) (take i xs) ends))
    ∙ ap (λ ys. take i xs ++ ys) (ap (before to) rest
    ∙ before_first 0 to x (drop (i + 1) xs) (subst (AreApartFrom 0) rest (apart-drop 0 i xs apart)) past)
  where
    rest : drop i xs ≡ x ∷ drop (i + 1) xs
    rest = drop_more xs i x short ∙ ap (λ y. y ∷ drop (i + 1) xs) (sym is)

-- the part of the last piece in front of the index, and the pieces from there on
pub after_at : (from : ℕ) (xs : List Piece) (i : ℕ) (x : Piece) → AreApart xs
    → All (λ y. from ≤ y.position) (drop (i + 1) xs) → i < length xs → x ≡ get_or xs i x → x.position < from
    → after from xs ≡ option_to_list (part_after from x) ++ drop (i + 1) xs
after_at from xs i x apart begin short is before =
    ap (after from) (sym (take-append-drop (i + 1) xs))
    ∙ after-append from (take (i + 1) xs) (drop (i + 1) xs)
    ∙ ap (λ ys. after from (take (i + 1) xs) ++ ys) (after_all from (drop (i + 1) xs) (sizes-drop (i + 1) xs apart)
    (recursion_from_All (λ y. from ≤ y.position) (drop (i + 1) xs) begin))
    ∙ ap (λ ys. ys ++ drop (i + 1) xs) (ap (after from) front
    ∙ after_last 0 from (take i xs) x (subst (AreApartFrom 0) front (apart-take 0 (i + 1) xs apart)) before)
  where
    front : take (i + 1) xs ≡ take i xs ++ x ∷ []
    front = take_more xs i x short ∙ ap (λ y. take i xs ++ y ∷ []) (sym is)

-- ---- of lists that no piece of which crosses the position

pub before_split : (to : ℕ) (xs : List Piece) (i : ℕ) → AreApart xs → All (λ y. piece_end y ≤ to) (take i xs)
    → All (λ y. to ≤ y.position) (drop i xs) → before to xs ≡ take i xs
before_split to xs i apart front back =
    ap (before to) (sym (take-append-drop i xs))
    ∙ before-append to (take i xs) (drop i xs)
    ∙ ap (λ ys. ys ++ before to (drop i xs))
    (before_all to (take i xs) (sizes-take i xs apart)
    (recursion_from_All (λ y. piece_end y ≤ to) (take i xs) front))
    ∙ ap (λ ys. take i xs ++ ys)
    (before_nothing to (drop i xs) (recursion_from_All (λ y. to ≤ y.position) (drop i xs) back))
    ∙ append-nil (take i xs)

pub after_split : (from : ℕ) (xs : List Piece) (i : ℕ) → AreApart xs → All (λ y. piece_end y ≤ from) (take i xs)
    → All (λ y. from ≤ y.position) (drop i xs) → after from xs ≡ drop i xs
after_split from xs i apart front back =
    ap (after from) (sym (take-append-drop i xs))
    ∙ after-append from (take i xs) (drop i xs)
    ∙ ap (λ ys. ys ++ after from (drop i xs))
    (after_nothing from (take i xs) (recursion_from_All (λ y. piece_end y ≤ from) (take i xs) front))
    ∙ after_all from (drop i xs) (sizes-drop i xs apart) (recursion_from_All (λ y. from ≤ y.position) (drop i xs) back)
