-- What is left of apart pieces is apart. Positions and lengths are in bytes.
use Rattle.std.proofs.Common.{◌≡◌, ℕ, ◌+◌, ◌-◌, ◌≤◌, Bool, true, false, min, max, List, [], ◌∷◌, ◌++◌, refl, sym, subst}
use Rattle.std.proofs.Common.{arith, append_assoc}
use Rattle.std.specs.Prelude.{nat_lt}
use Rattle.std.specs.Bool.{then_some}
use Rattle.std.specs.List.{AllByRecursion, cons_option}
use Rattle.std.proofs.lemmas.Bool.{ltb-true, ltb-false}
use Rattle.qg_num.specs.declared.piece.Piece.{Piece}
use Rattle.qg_image.specs.FilesOf.{piece_end}
use Rattle.qg_machine.specs.FileChange.{part_before, part_after, before, after, within, with_range}
use Rattle.qg_files.specs.Apart.{IsWithinSizes, AreApartFrom, AreApart}
use Rattle.qg_files.proofs.Order.{apart_from_earlier, apart-append}

-- ---- in front of a position

before_one : (a to : ℕ) (x : Piece) (ys : List Piece) → a ≤ x.position → IsWithinSizes x → AreApartFrom (piece_end x) ys
    → AreApartFrom a (cons_option (part_before to x) ys)
unfolding AreApartFrom
before_one a to x ys begins size rest = cases (nat_lt x.position to) refl where
  cases : (b : Bool) → nat_lt x.position to ≡ b
      → AreApartFrom a (cons_option (then_some b (record x { len = min x.len (to - x.position) })) ys)
  cases true is =
      let short = ltb-true x.position to is in (
        begins,
        record {
          some = omega (arith, size.some);
          within = omega (arith, size.within);
          in_extent = omega (arith, size.in_extent);
        },
        apart_from_earlier (piece_end x) (x.position + min x.len (to - x.position)) ys (omega arith) rest,
      )
  cases false is = apart_from_earlier (piece_end x) a ys (omega arith) rest

pub apart-before : (a to : ℕ) (xs : List Piece) → AreApartFrom a xs → AreApartFrom a (before to xs)
unfolding AreApartFrom before
apart-before a to [] apart = tt
apart-before a to (x ∷ xs) apart =
    before_one a to x (before to xs) apart.0 apart.1 (apart-before (piece_end x) to xs apart.2)

ends_one : (to : ℕ) (x : Piece) (ys : List Piece) → AllByRecursion (λ y. piece_end y ≤ to) ys
    → AllByRecursion (λ y. piece_end y ≤ to) (cons_option (part_before to x) ys)
ends_one to x ys rest = cases (nat_lt x.position to) refl where
  cases : (b : Bool) → nat_lt x.position to ≡ b
      → AllByRecursion (λ y. piece_end y ≤ to)
      (cons_option (then_some b (record x { len = min x.len (to - x.position) })) ys)
  cases true is = let short = ltb-true x.position to is in (omega arith, rest)
  cases false is = rest

pub ends-before : (to : ℕ) (xs : List Piece) → AllByRecursion (λ x. piece_end x ≤ to) (before to xs)
unfolding before
ends-before to [] = tt
ends-before to (x ∷ xs) = ends_one to x (before to xs) (ends-before to xs)

-- ---- from a position on

after_one : (a from : ℕ) (x : Piece) (ys : List Piece) → a ≤ x.position → IsWithinSizes x
    → AreApartFrom (max (piece_end x) from) ys → AreApartFrom (max a from) (cons_option (part_after from x) ys)
unfolding AreApartFrom
after_one a from x ys begins size rest = cases (nat_lt from (piece_end x)) refl where
  cases : (b : Bool) → nat_lt from (piece_end x) ≡ b
      → AreApartFrom (max a from) (cons_option (then_some b (record x {
        position = max from x.position;
        len = piece_end x - max from x.position;
        offset = x.offset + (max from x.position - x.position);
      })) ys)
  cases true is =
      let past = ltb-true from (piece_end x) is in (
        omega arith,
        record {
          some = omega (arith, size.some);
          within = omega (arith, size.within);
          in_extent = omega (arith, size.in_extent);
        },
        apart_from_earlier (max (piece_end x) from) (max from x.position + (piece_end x - max from x.position)) ys
            (omega (arith, size.some)) rest,
      )
  cases false is = let by = ltb-false from (piece_end x) is in
      apart_from_earlier (max (piece_end x) from) (max a from) ys (omega arith) rest

after_from : (a from : ℕ) (xs : List Piece) → AreApartFrom a xs → AreApartFrom (max a from) (after from xs)
unfolding AreApartFrom after
after_from a from [] apart = tt
after_from a from (x ∷ xs) apart =
    after_one a from x (after from xs) apart.0 apart.1 (after_from (piece_end x) from xs apart.2)

pub apart-after : (from : ℕ) (xs : List Piece) → AreApart xs → AreApartFrom from (after from xs)
apart-after from xs apart = apart_from_earlier (max 0 from) from (after from xs) (omega arith)
    (after_from 0 from xs apart)

-- ---- in a range, and beside it

pub apart-within_from : (from to : ℕ) (xs : List Piece) → AreApart xs → AreApartFrom from (within from to xs)
apart-within_from from to xs apart = apart-before from to (after from xs) (apart-after from xs apart)

pub ends-within : (from to : ℕ) (xs : List Piece) → AllByRecursion (λ x. piece_end x ≤ to) (within from to xs)
ends-within from to xs = ends-before to (after from xs)

pub apart-within : (from to : ℕ) (xs : List Piece) → AreApart xs → AreApart (within from to xs)
apart-within from to xs apart = apart_from_earlier from 0 (within from to xs) (omega arith)
    (apart-within_from from to xs apart)

pub apart-with_range : (from to : ℕ) (given xs : List Piece) → AreApart xs → from ≤ to → AreApartFrom from given
    → AllByRecursion (λ x. piece_end x ≤ to) given → AreApart (with_range from to given xs)
apart-with_range from to given xs apart order given_apart given_ends =
    subst AreApart (sym (append_assoc (before from xs) given (after to xs)))
    (apart-append 0 from (before from xs) (given ++ after to xs) (apart-before 0 from xs apart) (ends-before from xs)
    (omega arith)
    (apart-append from to given (after to xs) given_apart given_ends order (apart-after to xs apart)))

-- with nothing, or with one piece, in the range's place
pub apart-cut : (from to : ℕ) (xs : List Piece) → AreApart xs → from ≤ to → AreApart (with_range from to [] xs)
unfolding AreApartFrom
apart-cut from to xs apart order = apart-with_range from to [] xs apart order tt tt

pub apart-put : (piece : Piece) (xs : List Piece) → AreApart xs → IsWithinSizes piece
    → AreApart (with_range piece.position (piece_end piece) (piece ∷ []) xs)
unfolding AreApartFrom
apart-put piece xs apart size = apart-with_range piece.position (piece_end piece) (piece ∷ []) xs apart (omega arith)
    (omega arith, size, tt) (omega arith, tt)
