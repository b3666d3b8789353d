-- The pieces of a file that share a byte with a range: the last that begins at the range's begin or in front of it,
-- where it does, and those that begin behind, in the range. Positions and lengths are in bytes.
use Rattle.std.proofs.Common.{◌≡◌, ℕ, ◌+◌, ◌<◌, ◌≤◌, true, false, cond, List, [], ◌∷◌, ◌++◌, length, Some, None, refl}
use Rattle.std.proofs.Common.{sym, ap, ◌∙◌, arith, inl, inr}
use Rattle.std.specs.Prelude.{Bool, Option, ◌&&◌, ⊤, filter, nat_le, nat_lt, if◌then◌else◌}
use Rattle.std.proofs.lemmas.Bool.{cases_lt, le-leb, le-ltb, leb-true, lt-leb, lt-ltb}
use Rattle.std.proofs.lemmas.List.Elements.{filter-append}
use Rattle.qg_num.specs.declared.piece.Piece.{Piece}
use Rattle.qg_image.specs.FilesOf.{are_pieces, piece_end}
use Rattle.qg_image.proofs.Pieces.{FirstPiece, FirstPiece-are_pieces, WholePiece-is_piece, are_pieces-FirstPiece}
use Rattle.qg_tree_items.proofs.Parts.{and-false}
use Rattle.qg_inodes.specs.PiecesWritten.{pieces_met}
use Rattle.qg_inodes.proofs.PiecesByPosition.{range-order}
use Rattle.qg_inodes.specs.Pieces.{last_begun, piece_met, pieces_begun}

some_byte : (from size : ℕ) (piece : Piece) (pieces : List Piece) → FirstPiece from size piece pieces → 0 < piece.len
some_byte from size piece pieces first = (WholePiece-is_piece piece first.is).some

-- ---- pieces that begin behind the range's begin

pub last-none : (from a size : ℕ) (other : Option Piece) (pieces : List Piece) → from < a
    → are_pieces a size pieces ≡ true
    → last_begun other from pieces ≡ other
last-none from a size other [] behind are = refl
last-none from a size other (piece ∷ pieces) behind are =
    let first = FirstPiece-are_pieces a size piece pieces are in
    let begins = first.begins in
    ap (λ (b : Bool). last_begun (if b then Some piece else other) from pieces)
    (lt-leb piece.position from (omega arith))
    ∙ last-none from (piece_end piece) size other pieces (omega arith) first.rest

begun_met : (from to a size : ℕ) (pieces : List Piece) → from < a → are_pieces a size pieces ≡ true
    → pieces_begun (from + 1) to pieces ≡ pieces_met from to pieces
begun_met from to a size [] behind are = refl
begun_met from to a size (piece ∷ pieces) behind are =
    let first = FirstPiece-are_pieces a size piece pieces are in
    let begins = first.begins in
    let rest = begun_met from to (piece_end piece) size pieces (omega arith) first.rest in
    let above : nat_le (from + 1) piece.position ≡ true = le-leb (from + 1) piece.position (omega arith) in
    let ends : nat_lt from (piece_end piece) ≡ true = lt-ltb from (piece_end piece) (omega arith) in
    let left : (nat_le (from + 1) piece.position && nat_lt piece.position to) ≡ nat_lt piece.position to =
    ap (λ (b : Bool). b && nat_lt piece.position to) above
    in
    let right : (nat_lt piece.position to && nat_lt from (piece_end piece)) ≡ nat_lt piece.position to =
    ap (λ (b : Bool). nat_lt piece.position to && b) ends ∙ and_true (nat_lt piece.position to)
    in
    ap (λ (b : Bool). cond b (piece ∷ pieces_begun (from + 1) to pieces) (pieces_begun (from + 1) to pieces))
    (left ∙ sym right)
    ∙ ap
    (λ (ps : List Piece).
    cond (nat_lt piece.position to && nat_lt from (piece_end piece)) (piece ∷ ps) ps) rest
  where
    and_true : (b : Bool) → (b && true) ≡ b
    and_true true = refl
    and_true false = refl

-- ---- a piece that ends by the range's begin

abbrev EndsBy : ℕ → Option Piece → Type 0
EndsBy a None = ⊤
EndsBy a (Some piece) = piece_end piece ≤ a

not_met : (from to a : ℕ) (other : Option Piece) → EndsBy a other → a ≤ from → piece_met from to other ≡ []
not_met from to a None ends before = refl
not_met from to a (Some piece) ends before =
    let past : (nat_lt piece.position to && nat_lt from (piece_end piece)) ≡ false =
    ap (λ (b : Bool). nat_lt piece.position to && b) (le-ltb from (piece_end piece) (omega arith))
    ∙ and-false (nat_lt piece.position to)
    in
    ap (λ (b : Bool). cond b (piece ∷ []) []) past

-- ---- all pieces

module _ (from to : ℕ) where
  abbrev AreParted : Option Piece → List Piece → Type 0
  AreParted other pieces =
      piece_met from to (last_begun other from pieces) ++ pieces_begun (from + 1) to pieces
      ≡ piece_met from to other ++ pieces_met from to pieces

  all_behind : (a size : ℕ) (other : Option Piece) (piece : Piece) (pieces : List Piece) → from < piece.position
      → are_pieces a size (piece ∷ pieces) ≡ true
      → AreParted other (piece ∷ pieces)
  all_behind a size other piece pieces behind are =
      let first = FirstPiece-are_pieces a size piece pieces are in
      let here : are_pieces piece.position size (piece ∷ pieces) ≡ true =
      are_pieces-FirstPiece piece.position size piece pieces
      (record { begins = omega arith; is = first.is; rest = first.rest })
      in
      ap (λ (o : Option Piece). piece_met from to o ++ pieces_begun (from + 1) to (piece ∷ pieces))
      (last-none from piece.position size other (piece ∷ pieces) behind here)
      ∙ ap (λ (ps : List Piece). piece_met from to other ++ ps)
      (begun_met from to piece.position size (piece ∷ pieces) behind here)

  one_before : (a : ℕ) (other : Option Piece) (piece : Piece) (pieces : List Piece) → EndsBy a other
      → a ≤ piece.position → piece.position ≤ from → AreParted (Some piece) pieces
      → AreParted other (piece ∷ pieces)
  one_before a other piece pieces ends begins before rest =
      let early : nat_le piece.position from ≡ true = le-leb piece.position from before in
      let not_begun : (nat_le (from + 1) piece.position && nat_lt piece.position to) ≡ false =
      ap (λ (b : Bool). b && nat_lt piece.position to) (lt-leb (from + 1) piece.position (omega arith))
      in
      let others = pieces_begun (from + 1) to pieces in
      ap
      (λ (b : Bool).
      piece_met from to (last_begun (if b then Some piece else other) from pieces)
      ++ pieces_begun (from + 1) to (piece ∷ pieces)) early
      ∙ ap (λ (b : Bool). piece_met from to (last_begun (Some piece) from pieces) ++ cond b (piece ∷ others) others)
      not_begun
      ∙ rest
      ∙ sym
      (filter-append (λ (piece : Piece). nat_lt piece.position to && nat_lt from (piece_end piece)) (piece ∷ []) pieces)
      ∙ sym (ap (λ (ps : List Piece). ps ++ pieces_met from to (piece ∷ pieces))
      (not_met from to a other ends (omega arith)))

  are_parted : (a size : ℕ) (other : Option Piece) (pieces : List Piece) → EndsBy a other
      → are_pieces a size pieces ≡ true
      → AreParted other pieces
  are_parted a size other [] ends are = refl
  are_parted a size other (piece ∷ pieces) ends are = elim (cases_lt from piece.position) [
    | inl behind ↦ all_behind a size other piece pieces behind are
    | inr before ↦
        let first = FirstPiece-are_pieces a size piece pieces are in
        one_before a other piece pieces ends first.begins before
        (are_parted (piece_end piece) size (Some piece) pieces (omega arith) first.rest)
  ]

  pub met-parted : (size : ℕ) (pieces : List Piece) → are_pieces 0 size pieces ≡ true
      → piece_met from to (last_begun None from pieces) ++ pieces_begun (from + 1) to pieces ≡ pieces_met from to pieces
  met-parted size pieces are = are_parted 0 size None pieces tt are

-- none begins behind the begin of a range of a byte at most
pub none-begun : (from to : ℕ) (pieces : List Piece) → to ≤ from → pieces_begun from to pieces ≡ []
none-begun from to [] short = refl
none-begun from to (piece ∷ pieces) short =
    ap (λ (b : Bool). cond b (piece ∷ pieces_begun from to pieces) (pieces_begun from to pieces)) outside
    ∙ none-begun from to pieces short
  where
    outside : (nat_le from piece.position && nat_lt piece.position to) ≡ false
    outside = elim (cases_lt piece.position to) [
      | inl less ↦ ap (λ (b : Bool). b && nat_lt piece.position to) (lt-leb from piece.position (omega arith))
      | inr past ↦
          ap (λ (b : Bool). nat_le from piece.position && b) (le-ltb piece.position to past)
          ∙ and-false (nat_le from piece.position)
    ]

-- ---- some of a file's pieces

from_earlier : (a b size : ℕ) (pieces : List Piece) → b ≤ a → are_pieces a size pieces ≡ true
    → are_pieces b size pieces ≡ true
unfolding are_pieces
from_earlier a b size [] earlier are = le-leb b size (omega (arith, leb-true a size are))
from_earlier a b size (piece ∷ pieces) earlier are =
    let first = FirstPiece-are_pieces a size piece pieces are in
    let begins = first.begins in
    are_pieces-FirstPiece b size piece pieces (record { begins = omega arith; is = first.is; rest = first.rest })

pub some-pieces : (test : Piece → Bool) (a size : ℕ) (pieces : List Piece) → are_pieces a size pieces ≡ true
    → are_pieces a size (filter test pieces) ≡ true
some-pieces test a size [] are = are
some-pieces test a size (piece ∷ pieces) are =
    let first = FirstPiece-are_pieces a size piece pieces are in
    let rest = some-pieces test (piece_end piece) size pieces first.rest in
    kept (test piece) first rest
  where
    kept : (b : Bool) → FirstPiece a size piece pieces → are_pieces (piece_end piece) size (filter test pieces) ≡ true
        → are_pieces a size (cond b (piece ∷ filter test pieces) (filter test pieces)) ≡ true
    kept true first rest =
        are_pieces-FirstPiece a size piece (filter test pieces)
        (record { begins = first.begins; is = first.is; rest = rest })
    kept false first rest =
        let begins = first.begins in
        from_earlier (piece_end piece) a size (filter test pieces) (omega arith) rest

-- a range that reaches past a file's size meets them all
pub all-met : (to a size : ℕ) (pieces : List Piece) → size ≤ to → are_pieces a size pieces ≡ true
    → pieces_met 0 to pieces ≡ pieces
all-met to a size [] past are = refl
all-met to a size (piece ∷ pieces) past are =
    let first = FirstPiece-are_pieces a size piece pieces are in
    let some = some_byte a size piece pieces first in
    let order = range-order (piece_end piece) size pieces first.rest in
    let left : nat_lt piece.position to ≡ true = lt-ltb piece.position to (omega arith) in
    let right : nat_lt 0 (piece_end piece) ≡ true = lt-ltb 0 (piece_end piece) (omega arith) in
    ap
    (λ (b : Bool).
    cond (b && nat_lt 0 (piece_end piece)) (piece ∷ pieces_met 0 to pieces) (pieces_met 0 to pieces)) left
    ∙ ap (λ (b : Bool). cond b (piece ∷ pieces_met 0 to pieces) (pieces_met 0 to pieces)) right
    ∙ ap (λ (ps : List Piece). piece ∷ ps) (all-met to (piece_end piece) size pieces past first.rest)
