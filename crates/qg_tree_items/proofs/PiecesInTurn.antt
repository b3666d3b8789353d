-- Pieces of a file, and others behind them. Positions and sizes are in bytes.
use Rattle.std.proofs.Common.{◌≡◌, ℕ, ◌+◌, ◌≤◌, Bool, true, false, List, [], ◌∷◌, ◌++◌, refl, arith}
use Rattle.std.specs.Prelude.{◌&&◌, nat_le}
use Rattle.std.proofs.lemmas.Bool.{and_parts, and_from, le-leb, leb-true}
use Rattle.qg_num.specs.declared.piece.Piece.{Piece}
use Rattle.qg_image.specs.FilesOf.{are_pieces, is_piece, piece_end}
use Rattle.qg_image.proofs.Pieces.{FirstPiece-are_pieces, are_pieces-FirstPiece}

-- two tests that pass together are one
pub same_test : (a b : Bool) → (a ≡ true → b ≡ true) → (b ≡ true → a ≡ true) → a ≡ b
same_test true true there back = refl
same_test true false there back = let e = there refl in cc
same_test false true there back = let e = back refl in cc
same_test false false there back = refl

-- ---- pieces that fit between two positions

-- they begin no later than they end
pub ends_later : (from size : ℕ) (pieces : List Piece) → are_pieces from size pieces ≡ true → from ≤ size
unfolding are_pieces
ends_later from size [] h = leb-true from size h
ends_later from size (piece ∷ pieces) h =
    let first = FirstPiece-are_pieces from size piece pieces h in
    omega (arith, first.begins, ends_later (piece_end piece) size pieces first.rest)

-- they fit from an earlier position too
pub from_earlier : (low from size : ℕ) (pieces : List Piece) → low ≤ from → are_pieces from size pieces ≡ true
    → are_pieces low size pieces ≡ true
unfolding are_pieces
from_earlier low from size [] less h = le-leb low size (omega (arith, less, leb-true from size h))
from_earlier low from size (piece ∷ pieces) less h =
    let first = FirstPiece-are_pieces from size piece pieces h in
    are_pieces-FirstPiece low size piece pieces
    (record { begins = omega (arith, less, first.begins); is = first.is; rest = first.rest })

-- where the pieces behind others begin at the earliest
pub record IsCut (from size : ℕ) (front pieces : List Piece) : Type 0 where
  pub at : ℕ
  pub first : are_pieces from at front ≡ true
  pub rest : are_pieces at size pieces ≡ true

pub cut : (from size : ℕ) (front pieces : List Piece) → are_pieces from size (front ++ pieces) ≡ true
    → IsCut from size front pieces
unfolding are_pieces
cut from size [] pieces h = record { at = from; first = le-leb from from (omega arith); rest = h }
cut from size (piece ∷ front) pieces h =
    let one = FirstPiece-are_pieces from size piece (front ++ pieces) h in
    let more = cut (piece_end piece) size front pieces one.rest in
    record {
      at = more.at;
      first =
          are_pieces-FirstPiece from more.at piece front
          (record { begins = one.begins; is = one.is; rest = more.first });
      rest = more.rest;
    }

pub both_fit : (from at size : ℕ) (front pieces : List Piece) → are_pieces from at front ≡ true
    → are_pieces at size pieces ≡ true → are_pieces from size (front ++ pieces) ≡ true
unfolding are_pieces
both_fit from at size [] pieces h k = from_earlier from at size pieces (leb-true from at h) k
both_fit from at size (piece ∷ front) pieces h k =
    let one = FirstPiece-are_pieces from at piece front h in
    are_pieces-FirstPiece from size piece (front ++ pieces)
    (record { begins = one.begins; is = one.is; rest = both_fit (piece_end piece) at size front pieces one.rest k })

-- ---- pieces that fit exactly where their ends do

abbrev pub FitAs : ℕ → ℕ → List Piece → Type 0
FitAs begin end pieces = (from size : ℕ) → are_pieces from size pieces ≡ (nat_le from begin && nat_le end size)

abbrev pub FitTo : ℕ → List Piece → Type 0
FitTo end pieces = (whole : ℕ) → are_pieces 0 whole pieces ≡ nat_le end whole

pub record AreEnds (begin end from size : ℕ) : Type 0 where
  pub begins : from ≤ begin
  pub ends : end ≤ size

pub ends_of : (begin end from size : ℕ) (pieces : List Piece) → FitAs begin end pieces
    → are_pieces from size pieces ≡ true → AreEnds begin end from size
ends_of begin end from size pieces fit h =
    let both = and_parts (nat_le from begin) (nat_le end size) (rw fit at h) in
    record { begins = leb-true from begin both.0; ends = leb-true end size both.1 }

pub fit_between : (begin end from size : ℕ) (pieces : List Piece) → FitAs begin end pieces → from ≤ begin → end ≤ size
    → are_pieces from size pieces ≡ true
fit_between begin end from size pieces fit begins ends =
    rw (fit from size) (and_from (nat_le from begin) (nat_le end size) (le-leb from begin begins)
    (le-leb end size ends))

-- such pieces are some
pub fit_some : (begin end : ℕ) → FitAs begin end [] → ⊥
unfolding are_pieces
fit_some begin end fit =
    let far : are_pieces (begin + 1) (begin + 1 + end) [] ≡ true = le-leb (begin + 1) (begin + 1 + end) (omega arith) in
    let are = ends_of begin end (begin + 1) (begin + 1 + end) [] fit far in
    omega (arith, are.begins)

pub joined_fit : (begin mid next end : ℕ) (front pieces : List Piece) → FitAs begin mid front → FitAs next end pieces
    → mid ≤ next → FitAs begin end (front ++ pieces)
joined_fit begin mid next end front pieces fit fit' less from size =
    same_test (are_pieces from size (front ++ pieces)) (nat_le from begin && nat_le end size) there back where
      there : are_pieces from size (front ++ pieces) ≡ true → (nat_le from begin && nat_le end size) ≡ true
      there h =
          let parts = cut from size front pieces h in
          let first = ends_of begin mid from parts.at front fit parts.first in
          let second = ends_of next end parts.at size pieces fit' parts.rest in
          and_from (nat_le from begin) (nat_le end size) (le-leb from begin first.begins) (le-leb end size second.ends)

      back : (nat_le from begin && nat_le end size) ≡ true → are_pieces from size (front ++ pieces) ≡ true
      back h =
          let both = and_parts (nat_le from begin) (nat_le end size) h in
          both_fit from mid size front pieces
          (fit_between begin mid from mid front fit (leb-true from begin both.0) (omega arith))
          (fit_between next end mid size pieces fit' less (leb-true end size both.1))

pub joined_to : (mid next end : ℕ) (front pieces : List Piece) → FitTo mid front → FitAs next end pieces → mid ≤ next
    → FitTo end (front ++ pieces)
joined_to mid next end front pieces fit fit' less whole =
    same_test (are_pieces 0 whole (front ++ pieces)) (nat_le end whole) there back where
      there : are_pieces 0 whole (front ++ pieces) ≡ true → nat_le end whole ≡ true
      there h =
          let parts = cut 0 whole front pieces h in
          let second = ends_of next end parts.at whole pieces fit' parts.rest in
          le-leb end whole second.ends

      back : nat_le end whole ≡ true → are_pieces 0 whole (front ++ pieces) ≡ true
      back h =
          both_fit 0 mid whole front pieces (rw (fit mid) (le-leb mid mid (omega arith)))
          (fit_between next end mid whole pieces fit' less (leb-true end whole h))

-- ---- pieces among those of a file

pub cut_middle : (from size : ℕ) (front pieces behind : List Piece)
    → are_pieces from size (front ++ (pieces ++ behind)) ≡ true
    → (low : ℕ) × (high : ℕ) × (are_pieces low high pieces ≡ true) × (high ≤ size)
cut_middle from size front pieces behind h =
    let first = cut from size front (pieces ++ behind) h in
    let second = cut first.at size pieces behind first.rest in
    (first.at, second.at, second.first, ends_later second.at size behind second.rest)

-- neighbours of one file overlap nowhere
pub in_order : (begin mid next end from size : ℕ) (front pieces : List Piece) → FitAs begin mid front
    → FitAs next end pieces → are_pieces from size (front ++ pieces) ≡ true → mid ≤ next
in_order begin mid next end from size front pieces fit fit' h =
    let parts = cut from size front pieces h in
    let first = ends_of begin mid from parts.at front fit parts.first in
    let second = ends_of next end parts.at size pieces fit' parts.rest in
    omega (arith, first.ends, second.begins)

pub in_order_to : (mid next end from size : ℕ) (front pieces : List Piece) → FitTo mid front → FitAs next end pieces
    → are_pieces from size (front ++ pieces) ≡ true → mid ≤ next
in_order_to mid next end from size front pieces fit fit' h =
    let parts = cut from size front pieces h in
    let lowest : are_pieces 0 parts.at front ≡ true = from_earlier 0 from parts.at front (omega arith) parts.first in
    let first : mid ≤ parts.at = leb-true mid parts.at (rw fit at lowest) in
    let second = ends_of next end parts.at size pieces fit' parts.rest in
    omega (arith, first, second.begins)

-- a piece of a file is sound and ends by its size
pub record IsWithin (size : ℕ) (piece : Piece) : Type 0 where
  pub is : is_piece piece ≡ true
  pub ends : piece_end piece ≤ size

pub one_within : (from size : ℕ) (piece : Piece) → are_pieces from size (piece ∷ []) ≡ true → IsWithin size piece
one_within from size piece h =
    let first = FirstPiece-are_pieces from size piece [] h in
    record { is = first.is; ends = ends_later (piece_end piece) size [] first.rest }

pub one_fits : (piece : Piece) → is_piece piece ≡ true → FitAs piece.position (piece_end piece) (piece ∷ [])
unfolding are_pieces
one_fits piece is from size = cases (nat_le from piece.position) where
  cases : (b : Bool) → (b && is_piece piece && nat_le (piece_end piece) size) ≡ (b && nat_le (piece_end piece) size)
  cases true = rw is refl
  cases false = refl
