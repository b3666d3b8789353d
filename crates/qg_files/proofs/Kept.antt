-- Pieces of whole sectors stay such pieces, for the crates above. Positions, lengths and sizes are in bytes.
use Rattle.std.proofs.Common.{◌≡◌, ℕ, ◌+◌, ◌-◌, ◌%◌, ◌^◌, ◌<◌, ◌≤◌, Bool, true, false, min, max, List, [], ◌∷◌, ◌++◌}
use Rattle.std.proofs.Common.{map, None, refl, subst, arith}
use Rattle.std.specs.Prelude.{nat_lt}
use Rattle.std.specs.Bool.{then_some}
use Rattle.std.specs.List.{All, AllByRecursion, cons_option}
use Rattle.std.proofs.lemmas.Bool.{leb-true, le-leb, ltb-true, ltb-false, eqb-true, eq-eqb}
use Rattle.std.proofs.lemmas.List.Elements.{All-from_recursion, recursion_from_All}
use Rattle.qg_num.specs.declared.piece.Piece.{Piece}
use Rattle.qg_super.specs.Places.{sector}
use Rattle.qg_image.specs.declared.file.File.{File}
use Rattle.qg_image.specs.FilesOf.{piece_end, largest_size, is_aligned, are_pieces, is_file}
use Rattle.qg_image.proofs.Pieces.{WholePiece, WholePiece-is_piece, is_piece-WholePiece, FirstPiece-are_pieces}
use Rattle.qg_image.proofs.Pieces.{are_pieces-FirstPiece, WholeFile-is_file, is_file-WholeFile}
use Rattle.qg_machine.specs.FileChange.{file_or_new, part_before, part_after, before, after, within, with_range, moved}
use Rattle.qg_machine.specs.FileChange.{new_piece, with_pieces, with_size}
use Rattle.qg_files.specs.Apart.{AreApartFrom, AreApart}
use Rattle.qg_files.proofs.KeptApart.{ends-before}
use Rattle.qg_files.proofs.Sectors.{sectors-add, sectors-sub, sectors-min, sectors-max}

-- ---- what the tests say

-- such pieces that ascend from a position on, overlap nowhere and end by the size
AreWhole : ℕ → ℕ → List Piece → Type 0
AreWhole from size [] = from ≤ size
AreWhole from size (piece ∷ pieces) = (from ≤ piece.position) × WholePiece piece
    × AreWhole (piece_end piece) size pieces

AreWhole-are_pieces : (from size : ℕ) (xs : List Piece) → are_pieces from size xs ≡ true → AreWhole from size xs
unfolding AreWhole are_pieces
AreWhole-are_pieces from size [] are = leb-true from size are
AreWhole-are_pieces from size (x ∷ xs) are =
    let first = FirstPiece-are_pieces from size x xs are in
    (first.begins, WholePiece-is_piece x first.is, AreWhole-are_pieces (piece_end x) size xs first.rest)

are_pieces-AreWhole : (from size : ℕ) (xs : List Piece) → AreWhole from size xs → are_pieces from size xs ≡ true
unfolding AreWhole are_pieces
are_pieces-AreWhole from size [] whole = le-leb from size whole
are_pieces-AreWhole from size (x ∷ xs) whole =
    are_pieces-FirstPiece from size x xs (record {
      begins = whole.0;
      is = is_piece-WholePiece x whole.1;
      rest = are_pieces-AreWhole (piece_end x) size xs whole.2;
    })

-- ---- from an earlier position, up to another size, behind one another

whole_from_earlier : (a b size : ℕ) (xs : List Piece) → b ≤ a → AreWhole a size xs → AreWhole b size xs
unfolding AreWhole
whole_from_earlier a b size [] earlier whole = omega arith
whole_from_earlier a b size (x ∷ xs) earlier whole = (omega (arith, whole.0), whole.1, whole.2)

whole_up_to : (a size by : ℕ) (xs : List Piece) → a ≤ by → AllByRecursion (λ x. piece_end x ≤ by) xs
    → AreWhole a size xs → AreWhole a by xs
unfolding AreWhole
whole_up_to a size by [] begins ends whole = begins
whole_up_to a size by (x ∷ xs) begins ends whole =
    (whole.0, whole.1, whole_up_to (piece_end x) size by xs ends.0 ends.1 whole.2)

whole-append : (a b size : ℕ) (xs ys : List Piece) → AreWhole a b xs → AreWhole b size ys → AreWhole a size (xs ++ ys)
unfolding AreWhole
whole-append a b size [] ys front back = whole_from_earlier b a size ys front back
whole-append a b size (x ∷ xs) ys front back = (front.0, front.1, whole-append (piece_end x) b size xs ys front.2 back)

-- ---- in front of a position

before_one : (a size to : ℕ) (x : Piece) (ys : List Piece) → to % sector ≡ 0 → a ≤ x.position → WholePiece x
    → AreWhole (piece_end x) size ys → AreWhole a size (cons_option (part_before to x) ys)
unfolding AreWhole
before_one a size to x ys aligned begins whole rest = cases (nat_lt x.position to) refl where
  cases : (b : Bool) → nat_lt x.position to ≡ b
      → AreWhole a size (cons_option (then_some b (record x { len = min x.len (to - x.position) })) ys)
  cases true is =
      let short = ltb-true x.position to is in
      let some = whole.some in
      let in_extent = whole.in_extent in (
        begins,
        record {
          position = whole.position;
          len = sectors-min x.len (to - x.position) whole.len (sectors-sub to x.position aligned whole.position);
          some = omega arith;
          offset = whole.offset;
          extent = whole.extent;
          in_extent = omega arith;
        },
        whole_from_earlier (piece_end x) (x.position + min x.len (to - x.position)) size ys (omega arith) rest,
      )
  cases false is = whole_from_earlier (piece_end x) a size ys (omega arith) rest

whole-before : (a size to : ℕ) (xs : List Piece) → to % sector ≡ 0 → AreWhole a size xs → AreWhole a size (before to xs)
unfolding AreWhole before
whole-before a size to [] aligned whole = whole
whole-before a size to (x ∷ xs) aligned whole = before_one a size to x (before to xs) aligned whole.0 whole.1
    (whole-before (piece_end x) size to xs aligned whole.2)

-- ---- from a position on

after_one : (a size from : ℕ) (x : Piece) (ys : List Piece) → from % sector ≡ 0 → a ≤ x.position → WholePiece x
    → AreWhole (max (piece_end x) from) size ys → AreWhole (max a from) size (cons_option (part_after from x) ys)
unfolding AreWhole
after_one a size from x ys aligned begins whole rest = cases (nat_lt from (piece_end x)) refl where
  cases : (b : Bool) → nat_lt from (piece_end x) ≡ b
      → AreWhole (max a from) size (cons_option (then_some b (record x {
        position = max from x.position;
        len = piece_end x - max from x.position;
        offset = x.offset + (max from x.position - x.position);
      })) ys)
  cases true is =
      let past = ltb-true from (piece_end x) is in
      let some = whole.some in
      let in_extent = whole.in_extent in
      let at = sectors-max from x.position aligned whole.position in (
        omega arith,
        record {
          position = at;
          len = sectors-sub (piece_end x) (max from x.position) (sectors-add x.position x.len whole.position whole.len)
              at;
          some = omega arith;
          offset = sectors-add x.offset (max from x.position - x.position) whole.offset
              (sectors-sub (max from x.position) x.position at whole.position);
          extent = whole.extent;
          in_extent = omega arith;
        },
        whole_from_earlier (max (piece_end x) from) (max from x.position + (piece_end x - max from x.position)) size ys
            (omega arith) rest,
      )
  cases false is = let by = ltb-false from (piece_end x) is in
      whole_from_earlier (max (piece_end x) from) (max a from) size ys (omega arith) rest

whole-after : (a size from : ℕ) (xs : List Piece) → from % sector ≡ 0 → AreWhole a size xs
    → AreWhole (max a from) (max size from) (after from xs)
unfolding AreWhole after
whole-after a size from [] aligned whole = omega arith
whole-after a size from (x ∷ xs) aligned whole =
    after_one a (max size from) from x (after from xs) aligned whole.0 whole.1
    (whole-after (piece_end x) size from xs aligned whole.2)

aligned_is : (n : ℕ) → is_aligned n ≡ true → n % sector ≡ 0
aligned_is n is = eqb-true (n % sector) 0 is

-- ---- the laws

end_by : (a size : ℕ) (xs : List Piece) → AreWhole a size xs → a ≤ size
unfolding AreWhole
end_by a size [] whole = whole
end_by a size (x ∷ xs) whole = let ends = end_by (piece_end x) size xs whole.2 in omega (arith, whole.0)

-- pieces of a file no larger than the largest, whose extents have lengths below 2 ^ 64, are apart
apart_from_whole : (a size : ℕ) (xs : List Piece) → size ≤ largest_size
    → AllByRecursion (λ x. x.extent_bytes < 2 ^ 64) xs → AreWhole a size xs → AreApartFrom a xs
unfolding AreWhole AreApartFrom
apart_from_whole a size [] least extents whole = tt
apart_from_whole a size (x ∷ xs) least extents whole =
    let ends = end_by (piece_end x) size xs whole.2 in
    let some = whole.1.some in
    let in_extent = whole.1.in_extent in (
      whole.0,
      record { some = some; within = omega arith; in_extent = omega (arith, extents.0) },
      apart_from_whole
          (piece_end x) size xs least extents.1 whole.2,
    )

pub AreApart-are_pieces : (size : ℕ) (pieces : List Piece) → size ≤ largest_size
    → All (λ piece. piece.extent_bytes < 2 ^ 64) pieces → are_pieces 0 size pieces ≡ true → AreApart pieces
AreApart-are_pieces size pieces least extents are =
    apart_from_whole 0 size pieces least (recursion_from_All (λ piece. piece.extent_bytes < 2 ^ 64) pieces extents)
    (AreWhole-are_pieces 0 size pieces are)

-- what is left in front of a size
pub are_pieces-before : (size by : ℕ) (pieces : List Piece) → is_aligned by ≡ true → are_pieces 0 size pieces ≡ true
    → are_pieces 0 by (before by pieces) ≡ true
are_pieces-before size by pieces aligned are =
    let kept = whole-before 0 size by pieces (aligned_is by aligned) (AreWhole-are_pieces 0 size pieces are) in
    are_pieces-AreWhole 0 by (before by pieces)
    (whole_up_to 0 size by (before by pieces) (omega arith) (ends-before by pieces) kept)

-- what is in a range
pub are_pieces-within : (size from to : ℕ) (pieces : List Piece) → is_aligned from ≡ true → is_aligned to ≡ true
    → from ≤ to → are_pieces 0 size pieces ≡ true → are_pieces from to (within from to pieces) ≡ true
are_pieces-within size from to pieces aligned_from aligned_to order are =
    let behind = whole-after 0 size from pieces (aligned_is from aligned_from)
    (AreWhole-are_pieces 0 size pieces are) in
    let begins = whole_from_earlier (max 0 from) from (max size from) (after from pieces) (omega arith) behind in
    let kept = whole-before from (max size from) to (after from pieces) (aligned_is to aligned_to) begins in
    are_pieces-AreWhole from to (within from to pieces)
    (whole_up_to from (max size from) to (within from to pieces) order (ends-before to (after from pieces)) kept)

-- what is left beside a range, with given pieces in its place
pub are_pieces-with_range : (size from to : ℕ) (given pieces : List Piece) → is_aligned from ≡ true
    → is_aligned to ≡ true → are_pieces from to given ≡ true → are_pieces 0 size pieces ≡ true
    → are_pieces 0 (max size to) (with_range from to given pieces) ≡ true
are_pieces-with_range size from to given pieces aligned_from aligned_to given_are are =
    let whole = AreWhole-are_pieces 0 size pieces are in
    let front = whole-before 0 size from pieces (aligned_is from aligned_from) whole in
    let front_by = whole_up_to 0 size from (before from pieces) (omega arith) (ends-before from pieces) front in
    let behind = whole-after 0 size to pieces (aligned_is to aligned_to) whole in
    let back = whole_from_earlier (max 0 to) to (max size to) (after to pieces) (omega arith) behind in
    let to_given = whole-append 0 from to (before from pieces) given front_by
    (AreWhole-are_pieces from to given given_are) in
    are_pieces-AreWhole 0 (max size to) (with_range from to given pieces)
    (whole-append 0 to (max size to) (before from pieces ++ given) (after to pieces) to_given back)

-- pieces of one range, moved to another
whole-moved : (a size from at : ℕ) (xs : List Piece) → from % sector ≡ 0 → at % sector ≡ 0 → from ≤ a
    → AreWhole a size xs → AreWhole (a - from + at) (size - from + at) (map (moved from at) xs)
unfolding AreWhole
whole-moved a size from at [] aligned aligned_at begins whole = omega arith
whole-moved a size from at (x ∷ xs) aligned aligned_at begins whole =
    let rest = whole-moved (piece_end x) size from at xs aligned aligned_at (omega (arith, whole.0)) whole.2 in (
      omega (arith, whole.0),
      record {
        position = sectors-add (x.position - from) at (sectors-sub x.position from whole.1.position aligned) aligned_at;
        len = whole.1.len;
        some = whole.1.some;
        offset = whole.1.offset;
        extent = whole.1.extent;
        in_extent = whole.1.in_extent;
      },
      whole_from_earlier (piece_end x - from + at) (x.position - from + at + x.len) (size - from + at)
          (map (moved from at) xs) (omega (arith, whole.0)) rest,
    )

pub are_pieces-moved : (from len at : ℕ) (pieces : List Piece) → is_aligned from ≡ true → is_aligned at ≡ true
    → are_pieces from (from + len) pieces ≡ true
    → are_pieces at (at + len) (map (moved from at) pieces) ≡ true
are_pieces-moved from len at pieces aligned aligned_at are =
    let kept = whole-moved from (from + len) from at pieces (aligned_is from aligned) (aligned_is at aligned_at)
    (omega arith) (AreWhole-are_pieces from (from + len) pieces are) in
    let begin : from - from + at ≡ at = omega arith in
    let end : from + len - from + at ≡ at + len = omega arith in
    are_pieces-AreWhole at (at + len) (map (moved from at) pieces)
    (subst (λ a. AreWhole a (at + len) (map (moved from at) pieces)) begin
    (subst (λ size. AreWhole (from - from + at) size (map (moved from at) pieces)) end kept))

-- the one piece of a new extent
pub are_pieces-new_piece : (generation position len extent : ℕ) → is_aligned position ≡ true → is_aligned len ≡ true
    → 0 < len
    → are_pieces position (position + len) (new_piece generation position len extent ∷ []) ≡ true
unfolding AreWhole
are_pieces-new_piece generation position len extent aligned aligned_len some =
    are_pieces-AreWhole position (position + len) (new_piece generation position len extent ∷ []) whole where
      whole : AreWhole position (position + len) (new_piece generation position len extent ∷ [])
      whole = (
        omega arith,
        record {
          position = aligned_is position aligned;
          len = aligned_is len aligned_len;
          some = some;
          offset = omega arith;
          extent = aligned_is len aligned_len;
          in_extent = omega arith;
        },
        omega arith,
      )

-- ---- of whole files

-- the pieces of a file are apart
pub AreApart-is_file : (file : File) → All (λ piece. piece.extent_bytes < 2 ^ 64) file.pieces → is_file file ≡ true
    → AreApart file.pieces
AreApart-is_file file extents is =
    let whole = WholeFile-is_file file is in
    AreApart-are_pieces file.size file.pieces whole.least extents whole.pieces

-- and end by its size
ends_by_size : (a size : ℕ) (xs : List Piece) → AreWhole a size xs → AllByRecursion (λ x. piece_end x ≤ size) xs
unfolding AreWhole
ends_by_size a size [] whole = tt
ends_by_size a size (x ∷ xs) whole = (end_by (piece_end x) size xs whole.2, ends_by_size (piece_end x) size xs whole.2)

pub ends-is_file : (file : File) → is_file file ≡ true → All (λ piece. piece_end piece ≤ file.size) file.pieces
ends-is_file file is =
    let whole = AreWhole-are_pieces 0 file.size file.pieces (WholeFile-is_file file is).pieces in
    All-from_recursion (λ piece. piece_end piece ≤ file.size) file.pieces (ends_by_size 0 file.size file.pieces whole)

-- a file with given pieces in a range
pub is_file-with_pieces : (generation from to : ℕ) (given : List Piece) (file : File) → is_aligned from ≡ true
    → is_aligned to ≡ true → to ≤ largest_size → are_pieces from to given ≡ true → is_file file ≡ true
    → is_file (with_pieces generation from to given file) ≡ true
is_file-with_pieces generation from to given file aligned_from aligned_to least given_are is =
    let whole = WholeFile-is_file file is in
    let most = whole.least in
    is_file-WholeFile (with_pieces generation from to given file) (record {
      size = eq-eqb (max file.size to % sector) 0 (sectors-max file.size to (aligned_is file.size whole.size)
          (aligned_is to aligned_to));
      least = omega arith;
      pieces = are_pieces-with_range file.size from to given file.pieces aligned_from aligned_to given_are whole.pieces;
    })

-- a file cut to a size, or grown to it
pub is_file-with_size : (generation size : ℕ) (file : File) → is_aligned size ≡ true → size ≤ largest_size
    → is_file file ≡ true → is_file (with_size generation size file) ≡ true
is_file-with_size generation size file aligned least is =
    let whole = WholeFile-is_file file is in
    is_file-WholeFile (with_size generation size file)
    (record {
      size = aligned;
      least = least;
      pieces = are_pieces-before file.size size file.pieces aligned whole.pieces;
    })

-- ---- with no pieces

pub no_pieces : (from to : ℕ) → from ≤ to → are_pieces from to [] ≡ true
unfolding are_pieces
no_pieces from to order = le-leb from to order

pub new_is_file : (generation : ℕ) → is_file (file_or_new generation None) ≡ true
unfolding is_file are_pieces
new_is_file generation = refl
