-- The piece at each position, of parts of a file's pieces. Positions and lengths are in bytes.
use Rattle.std.proofs.Common.{◌≡◌, ℕ, ◌+◌, ◌-◌, ◌<◌, ◌≤◌, max, min, true, List, [], ◌∷◌, ◌++◌, Some, None, refl, sym}
use Rattle.std.proofs.Common.{ap, ◌∙◌, arith, inl, inr}
use Rattle.std.specs.Prelude.{Bool, Option, ◌==◌, nat_le}
use Rattle.std.specs.Bool.{then_some}
use Rattle.std.specs.List.{cons_option}
use Rattle.std.specs.Option.{option_and_then}
use Rattle.std.proofs.lemmas.Bool.{cases_Bool, cases_eq, cases_lt, eq-eqb, le-leb, le-ltb, leb-true, lt-leb, lt-ltb}
use Rattle.std.proofs.lemmas.Bool.{ne_eqb}
use Rattle.qg_num.specs.declared.piece.Piece.{Piece}
use Rattle.qg_image.specs.FilesOf.{are_pieces, piece_end}
use Rattle.qg_image.specs.ItemMeaning.{◌orelse◌}
use Rattle.qg_image.proofs.Pieces.{FirstPiece-are_pieces, WholePiece-is_piece}
use Rattle.qg_machine.specs.FileChange.{after, before, part_after, part_before, with_range}
use Rattle.qg_tree_items.proofs.Parts.{and-false, orelse-none}
use Rattle.qg_inodes.specs.Bodies.{piece_at, piece_over}
use Rattle.qg_inodes.specs.PiecesWritten.{piece_at_cut, piece_at_range}

-- ---- the first piece

pub at-itself : (piece : Piece) (pieces : List Piece) → piece_at piece.position (piece ∷ pieces) ≡ Some piece
at-itself piece pieces = rw (eq-eqb piece.position piece.position refl) refl

pub at-here : (position : ℕ) (piece : Piece) (pieces : List Piece) → piece.position ≡ position
    → piece_at position (piece ∷ pieces) ≡ Some piece
at-here position piece pieces is = rw (eq-eqb piece.position position is) refl

pub at-later : (position : ℕ) (piece : Piece) (pieces : List Piece) → (piece.position ≡ position → ⊥)
    → piece_at position (piece ∷ pieces) ≡ piece_at position pieces
at-later position piece pieces differ = rw (ne_eqb piece.position position differ) refl

pub at-append : (position : ℕ) (front back : List Piece)
    → piece_at position (front ++ back) ≡ (piece_at position front orelse piece_at position back)
at-append position [] back = refl
at-append position (piece ∷ front) back = elim (cases_Bool (piece.position == position)) [
  | inl here ↦ rw here refl
  | inr later ↦ rw later (at-append position front back)
]

-- ---- in front of a position

-- what a piece leaves in front of a position stands where the piece stood
abbrev front_of : ℕ → Piece → Piece
front_of to piece = record piece { len = min piece.len (to - piece.position) }

before-some : (to : ℕ) (piece : Piece) → piece.position < to → part_before to piece ≡ Some (front_of to piece)
before-some to piece less = ap (λ (b : Bool). then_some b (front_of to piece)) (lt-ltb piece.position to less)

before-none : (to : ℕ) (piece : Piece) → to ≤ piece.position → part_before to piece ≡ None
before-none to piece past = ap (λ (b : Bool). then_some b (front_of to piece)) (le-ltb piece.position to past)

-- a piece that ends by the position is left whole
pub before-whole : (to : ℕ) (piece : Piece) → piece.position < to → piece_end piece ≤ to
    → part_before to piece ≡ Some piece
before-whole to piece less ends =
    let len : min piece.len (to - piece.position) ≡ piece.len = omega arith in
    before-some to piece less ∙ ap (λ (n : ℕ). let p : Piece = record piece { len = n } in Some p) len

-- a piece at another position does not count
before_other : (to : ℕ) (piece : Piece) (pieces : List Piece) (position : ℕ) → (piece.position ≡ position → ⊥)
    → piece_at position (before to (piece ∷ pieces)) ≡ piece_at position (before to pieces)
unfolding before
before_other to piece pieces position differ = elim (cases_lt piece.position to) [
  | inl less ↦
      ap (λ (o : Option Piece). piece_at position (cons_option o (before to pieces))) (before-some to piece less)
      ∙ at-later position (front_of to piece) (before to pieces) differ
  | inr past ↦ ap (λ (o : Option Piece). piece_at position (cons_option o (before to pieces)))
      (before-none to piece past)
]

pub at-before : (to : ℕ) (pieces : List Piece) (position : ℕ) → position < to
    → piece_at position (before to pieces) ≡ option_and_then (part_before to) (piece_at position pieces)
unfolding before
at-before to [] position less = refl
at-before to (piece ∷ pieces) position less = elim (cases_eq piece.position position) [
  | inl here ↦
      let some = before-some to piece (omega arith) in
      ap (λ (o : Option Piece). piece_at position (cons_option o (before to pieces))) some
      ∙ at-here position (front_of to piece) (before to pieces) here
      ∙ sym some
      ∙ sym (ap (option_and_then (part_before to)) (at-here position piece pieces here))
  | inr differ ↦
      before_other to piece pieces position differ
      ∙ at-before to pieces position less
      ∙ sym (ap (option_and_then (part_before to)) (at-later position piece pieces differ))
]

-- and none behind it
pub at-before-none : (to : ℕ) (pieces : List Piece) (position : ℕ) → to ≤ position
    → piece_at position (before to pieces) ≡ None
unfolding before
at-before-none to [] position past = refl
at-before-none to (piece ∷ pieces) position past = elim (cases_lt piece.position to) [
  | inl less ↦
      ap (λ (o : Option Piece). piece_at position (cons_option o (before to pieces))) (before-some to piece less)
      ∙ at-later position (front_of to piece) (before to pieces) (λ is. omega (arith, is))
      ∙ at-before-none to pieces position past
  | inr beyond ↦
      ap (λ (o : Option Piece). piece_at position (cons_option o (before to pieces))) (before-none to piece beyond)
      ∙ at-before-none to pieces position past
]

pub at-cut : (size : ℕ) (pieces : List Piece) (position : ℕ)
    → piece_at position (before size pieces) ≡ piece_at_cut size pieces position
at-cut size pieces position = elim (cases_lt position size) [
  | inl less ↦ at-before size pieces position less ∙ sym (rw (lt-ltb position size less) refl)
  | inr past ↦ at-before-none size pieces position past ∙ sym (rw (le-ltb position size past) refl)
]

-- ---- from a position on

-- what a piece leaves behind a position stands there, or where the piece stood
abbrev rest_of : ℕ → Piece → Piece
rest_of from piece = record piece {
  position = max from piece.position;
  len = piece_end piece - max from piece.position;
  offset = piece.offset + (max from piece.position - piece.position);
}

after-some : (from : ℕ) (piece : Piece) → from < piece_end piece → part_after from piece ≡ Some (rest_of from piece)
after-some from piece past = ap (λ (b : Bool). then_some b (rest_of from piece)) (lt-ltb from (piece_end piece) past)

after-none : (from : ℕ) (piece : Piece) → piece_end piece ≤ from → part_after from piece ≡ None
after-none from piece ends = ap (λ (b : Bool). then_some b (rest_of from piece)) (le-ltb from (piece_end piece) ends)

-- a piece that begins no earlier is left whole
rest-whole : (from : ℕ) (piece : Piece) → from ≤ piece.position → rest_of from piece ≡ piece
rest-whole from piece begins =
    let at : max from piece.position ≡ piece.position = omega arith in
    let len : piece_end piece - max from piece.position ≡ piece.len = omega arith in
    let offset : piece.offset + (max from piece.position - piece.position) ≡ piece.offset = omega arith in
    λ i. record piece { position = at i; len = len i; offset = offset i }

pub after-whole : (from : ℕ) (piece : Piece) → from ≤ piece.position → from < piece_end piece
    → part_after from piece ≡ Some piece
after-whole from piece begins past =
    after-some from piece past ∙ ap (λ (p : Piece). Some p) (rest-whole from piece begins)

-- the first of two parts, the one of which counts
after_first : (from : ℕ) (piece : Piece) (pieces : List Piece) (position : ℕ) → from < piece_end piece
    → piece_at position (after from (piece ∷ pieces)) ≡ piece_at position (rest_of from piece ∷ after from pieces)
unfolding after
after_first from piece pieces position past =
    ap (λ (o : Option Piece). piece_at position (cons_option o (after from pieces))) (after-some from piece past)

after_later : (from : ℕ) (piece : Piece) (pieces : List Piece) (position : ℕ) → piece_end piece ≤ from
    → piece_at position (after from (piece ∷ pieces)) ≡ piece_at position (after from pieces)
unfolding after
after_later from piece pieces position ends =
    ap (λ (o : Option Piece). piece_at position (cons_option o (after from pieces))) (after-none from piece ends)

-- in front of it none
pub at-after-none : (from : ℕ) (pieces : List Piece) (position : ℕ) → position < from
    → piece_at position (after from pieces) ≡ None
unfolding after
at-after-none from [] position less = refl
at-after-none from (piece ∷ pieces) position less =
    let later = at-after-none from pieces position less in
    elim (cases_lt from (piece_end piece)) [
      | inl past ↦
          after_first from piece pieces position past
          ∙ at-later position (rest_of from piece) (after from pieces) (λ is. omega (arith, is)) ∙ later
      | inr ends ↦ after_later from piece pieces position ends ∙ later
    ]

-- the piece over a position
pub over-here : (position : ℕ) (piece : Piece) (pieces : List Piece) → piece.position ≤ position
    → position < piece_end piece
    → piece_over position (piece ∷ pieces) ≡ Some piece
over-here position piece pieces begins ends =
    rw (le-leb piece.position position begins, lt-ltb position (piece_end piece) ends) refl

pub over-before : (position : ℕ) (piece : Piece) (pieces : List Piece) → position < piece.position
    → piece_over position (piece ∷ pieces) ≡ piece_over position pieces
over-before position piece pieces less = rw (lt-leb piece.position position less) refl

pub over-behind : (position : ℕ) (piece : Piece) (pieces : List Piece) → piece_end piece ≤ position
    → piece_over position (piece ∷ pieces) ≡ piece_over position pieces
over-behind position piece pieces ends =
    rw (le-ltb position (piece_end piece) ends, and-false (nat_le piece.position position)) refl

-- at it what rests of the piece over it
pub at-after : (from : ℕ) (pieces : List Piece)
    → piece_at from (after from pieces) ≡ option_and_then (part_after from) (piece_over from pieces)
unfolding after
at-after from [] = refl
at-after from (piece ∷ pieces) =
    let later = at-after from pieces in
    elim (cases_lt from (piece_end piece)) [
      | inr ends ↦
          after_later from piece pieces from ends ∙ later
          ∙ sym (ap (option_and_then (part_after from)) (over-behind from piece pieces ends))
      | inl past ↦ elim (cases_lt from piece.position) [
        | inl less ↦
            after_first from piece pieces from past
            ∙ at-later from (rest_of from piece) (after from pieces) (λ is. omega (arith, is))
            ∙ later
            ∙ sym (ap (option_and_then (part_after from)) (over-before from piece pieces less))
        | inr begins ↦
            after_first from piece pieces from past
            ∙ at-here from (rest_of from piece) (after from pieces) (omega arith)
            ∙ sym (after-some from piece past)
            ∙ sym (ap (option_and_then (part_after from)) (over-here from piece pieces begins past))
      ]
    ]

-- and behind it the piece that was there
pub at-after-behind : (from : ℕ) (pieces : List Piece) (position : ℕ) → from < position
    → piece_at position (after from pieces) ≡ piece_at position pieces
unfolding after
at-after-behind from [] position less = refl
at-after-behind from (piece ∷ pieces) position less =
    let later = at-after-behind from pieces position less in
    elim (cases_eq piece.position position) [
      | inl here ↦
          let whole = rest-whole from piece (omega arith) in
          after_first from piece pieces position (omega arith)
          ∙ ap (λ (p : Piece). piece_at position (p ∷ after from pieces)) whole
          ∙ at-here position piece (after from pieces) here
          ∙ sym (at-here position piece pieces here)
      | inr differ ↦ elim (cases_lt from (piece_end piece)) [
        | inl past ↦
            after_first from piece pieces position past
            ∙ at-later position (rest_of from piece) (after from pieces) (λ is. differ (omega (arith, is)))
            ∙ later
            ∙ sym (at-later position piece pieces differ)
        | inr ends ↦ after_later from piece pieces position ends ∙ later ∙ sym (at-later position piece pieces differ)
      ]
    ]

-- ---- pieces that lie in a range

-- they end where the range does, or before
pub range-order : (from to : ℕ) (pieces : List Piece) → are_pieces from to pieces ≡ true → from ≤ to
unfolding are_pieces
range-order from to [] are = leb-true from to are
range-order from to (piece ∷ pieces) are =
    let first = FirstPiece-are_pieces from to piece pieces are in
    let later = range-order (piece_end piece) to pieces first.rest in
    omega (arith, first.begins, later)

pub range-front : (from to : ℕ) (pieces : List Piece) (position : ℕ) → are_pieces from to pieces ≡ true
    → position < from
    → piece_at position pieces ≡ None
unfolding are_pieces
range-front from to [] position are less = refl
range-front from to (piece ∷ pieces) position are less =
    let first = FirstPiece-are_pieces from to piece pieces are in
    let begins = first.begins in
    at-later position piece pieces (λ is. omega (arith, is))
    ∙ range-front (piece_end piece) to pieces position first.rest (omega arith)

pub range-behind : (from to : ℕ) (pieces : List Piece) (position : ℕ) → are_pieces from to pieces ≡ true → to ≤ position
    → piece_at position pieces ≡ None
unfolding are_pieces
range-behind from to [] position are past = refl
range-behind from to (piece ∷ pieces) position are past =
    let first = FirstPiece-are_pieces from to piece pieces are in
    let some : 0 < piece.len = (WholePiece-is_piece piece first.is).some in
    let ends = range-order (piece_end piece) to pieces first.rest in
    at-later position piece pieces (λ is. omega (arith, is))
    ∙ range-behind (piece_end piece) to pieces position first.rest past

-- ---- with other pieces in a range

module _ (from to : ℕ) (given pieces : List Piece) (position : ℕ) (are : are_pieces from to given ≡ true) where
  order : from ≤ to
  order = range-order from to given are

  -- the three parts
  abbrev first_of : Option Piece → Option Piece → Option Piece → Option Piece
  first_of front middle back = (front orelse middle) orelse back

  in_three : piece_at position (with_range from to given pieces)
      ≡ first_of (piece_at position (before from pieces)) (piece_at position given)
      (piece_at position (after to pieces))
  in_three =
      at-append position (before from pieces ++ given) (after to pieces)
      ∙ ap (λ (o : Option Piece). o orelse piece_at position (after to pieces))
      (at-append position (before from pieces) given)

  pub at-range-front : position < from
      → piece_at position (with_range from to given pieces)
      ≡ option_and_then (part_before from) (piece_at position pieces)
  at-range-front less =
      let none = range-front from to given position are less in
      let behind = at-after-none to pieces position (omega (arith, order)) in
      in_three
      ∙ ap (λ (o : Option Piece). first_of (piece_at position (before from pieces)) o
      (piece_at position (after to pieces))) none
      ∙ ap (λ (o : Option Piece). first_of (piece_at position (before from pieces)) None o) behind
      ∙ orelse-none (piece_at position (before from pieces) orelse None)
      ∙ orelse-none (piece_at position (before from pieces))
      ∙ at-before from pieces position less

  pub at-range-inside : from ≤ position → position < to
      → piece_at position (with_range from to given pieces) ≡ piece_at position given
  at-range-inside begins less =
      let front = at-before-none from pieces position begins in
      let behind = at-after-none to pieces position less in
      in_three
      ∙ ap (λ (o : Option Piece). first_of o (piece_at position given) (piece_at position (after to pieces))) front
      ∙ ap (λ (o : Option Piece). first_of None (piece_at position given) o) behind
      ∙ orelse-none (piece_at position given)

  pub at-range-behind : to ≤ position
      → piece_at position (with_range from to given pieces) ≡ piece_at position (after to pieces)
  at-range-behind past =
      let front = at-before-none from pieces position (omega (arith, order)) in
      let none = range-behind from to given position are past in
      in_three
      ∙ ap (λ (o : Option Piece). first_of o (piece_at position given) (piece_at position (after to pieces))) front
      ∙ ap (λ (o : Option Piece). first_of None o (piece_at position (after to pieces))) none

  pub at-range : piece_at position (with_range from to given pieces) ≡ piece_at_range from to given pieces position
  at-range = elim (cases_lt position from) [
    | inl front ↦ at-range-front front ∙ sym (rw (lt-ltb position from front) refl)
    | inr begins ↦ elim (cases_lt position to) [
      | inl inside ↦ at-range-inside begins inside
          ∙ sym (rw (le-ltb position from begins, lt-ltb position to inside) refl)
      | inr past ↦ elim (cases_eq position to) [
        | inl at ↦
            at-range-behind past
            ∙ ap (λ (p : ℕ). piece_at p (after to pieces)) at
            ∙ at-after to pieces
            ∙ sym (rw (le-ltb position from begins, le-ltb position to past, eq-eqb position to at) refl)
        | inr beyond ↦
            at-range-behind past
            ∙ at-after-behind to pieces position (omega arith)
            ∙ sym (rw (le-ltb position from begins, le-ltb position to past, ne_eqb position to beyond) refl)
      ]
    ]
  ]
