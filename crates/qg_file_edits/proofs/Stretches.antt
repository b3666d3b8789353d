-- What a range or a cut exchanges is one stretch of a file's pieces. Positions are in bytes.
use Rattle.std.proofs.Common.{◌≡◌, ℕ, ◌<◌, ◌≤◌, true, List, [], ◌∷◌, ◌++◌, Some, None, refl, sym, ap, ◌∙◌, arith, inl}
use Rattle.std.proofs.Common.{inr, append_assoc}
use Rattle.std.specs.Prelude.{Option, nat_lt}
use Rattle.std.specs.List.{cons_option}
use Rattle.std.proofs.lemmas.Bool.{cases_lt, le-ltb, lt-ltb}
use Rattle.std.proofs.lemmas.List.{append-nil}
use Rattle.qg_num.specs.declared.piece.Piece.{Piece}
use Rattle.qg_image.specs.FilesOf.{are_pieces, piece_end}
use Rattle.qg_image.proofs.Pieces.{FirstPiece-are_pieces, WholePiece-is_piece, are_pieces-FirstPiece}
use Rattle.qg_machine.specs.FileChange.{after, before, part_after, part_before, with_range}
use Rattle.qg_tree_items.proofs.Parts.{and-false}
use Rattle.qg_files.proofs.Parts.{after_none, after_whole, before_none, before_whole}
use Rattle.qg_inodes.specs.PiecesWritten.{pieces_cut, pieces_met}
use Rattle.qg_inodes.proofs.PiecesByPosition.{range-order}
use Rattle.qg_file_edits.specs.Exchange.{IsExchange}

-- ---- one piece in front

before-one : (to : ℕ) (piece : Piece) (pieces : List Piece) (part : Option Piece) → part_before to piece ≡ part
    → before to (piece ∷ pieces) ≡ cons_option part (before to pieces)
unfolding before
before-one to piece pieces part is = ap (λ (o : Option Piece). cons_option o (before to pieces)) is

after-one : (from : ℕ) (piece : Piece) (pieces : List Piece) (part : Option Piece) → part_after from piece ≡ part
    → after from (piece ∷ pieces) ≡ cons_option part (after from pieces)
unfolding after
after-one from piece pieces part is = ap (λ (o : Option Piece). cons_option o (after from pieces)) is

before-empty : (to : ℕ) → before to [] ≡ []
unfolding before
before-empty to = refl

after-empty : (from : ℕ) → after from [] ≡ []
unfolding after
after-empty from = refl

cons_option-append : (part : Option Piece) (front back : List Piece)
    → cons_option part (front ++ back) ≡ cons_option part front ++ back
cons_option-append None front back = refl
cons_option-append (Some piece) front back = refl

-- ---- a range

module _ (from to : ℕ) (order : from ≤ to) where
  met-one : (piece : Piece) (pieces : List Piece) → piece.position < to → from < piece_end piece
      → pieces_met from to (piece ∷ pieces) ≡ piece ∷ pieces_met from to pieces
  met-one piece pieces less past = rw (lt-ltb piece.position to less, lt-ltb from (piece_end piece) past) refl

  unmet-behind : (piece : Piece) (pieces : List Piece) → to ≤ piece.position
      → pieces_met from to (piece ∷ pieces) ≡ pieces_met from to pieces
  unmet-behind piece pieces begins = rw (le-ltb piece.position to begins) refl

  unmet-front : (piece : Piece) (pieces : List Piece) → piece_end piece ≤ from
      → pieces_met from to (piece ∷ pieces) ≡ pieces_met from to pieces
  unmet-front piece pieces ends =
      rw (le-ltb from (piece_end piece) ends, and-false (nat_lt piece.position to)) refl

  -- ---- pieces behind the range

  record AreBehind (pieces : List Piece) : Type 0 where
    met : pieces_met from to pieces ≡ []
    front : before from pieces ≡ []
    stay : after to pieces ≡ pieces

  behind : (low size : ℕ) (pieces : List Piece) → are_pieces low size pieces ≡ true → to ≤ low → AreBehind pieces
  behind low size [] are past = record { met = refl; front = before-empty from; stay = after-empty to }
  behind low size (piece ∷ pieces) are past =
      let first = FirstPiece-are_pieces low size piece pieces are in
      let some : 0 < piece.len = (WholePiece-is_piece piece first.is).some in
      let begins : low ≤ piece.position = first.begins in
      let later = behind (piece_end piece) size pieces first.rest (omega arith) in
      record {
        met = unmet-behind piece pieces (omega arith) ∙ later.met;
        front = before-one from piece pieces None (before_none from piece (omega arith)) ∙ later.front;
        stay =
            after-one to piece pieces (Some piece) (after_whole to piece some (omega arith))
            ∙ ap (λ (rest : List Piece). piece ∷ rest) later.stay;
      }

  -- ---- pieces that end behind its begin

  record AreInside (pieces : List Piece) : Type 0 where
    back : List Piece
    was : pieces ≡ pieces_met from to pieces ++ back
    front : before from pieces ≡ before from (pieces_met from to pieces)
    rest : after to pieces ≡ after to (pieces_met from to pieces) ++ back

  inside_none : (pieces : List Piece) → AreBehind pieces → AreInside pieces
  inside_none pieces are = record {
    back = pieces;
    was = sym (ap (λ (met : List Piece). met ++ pieces) are.met);
    front = are.front ∙ sym (ap (before from) are.met ∙ before-empty from);
    rest =
        are.stay
        ∙ sym (ap (λ (met : List Piece). after to met ++ pieces) are.met
        ∙ ap (λ (rest : List Piece). rest ++ pieces) (after-empty to));
  }

  inside_more : (piece : Piece) (pieces : List Piece) → piece.position < to → from < piece_end piece → AreInside pieces
      → AreInside (piece ∷ pieces)
  inside_more piece pieces less past later =
      let met = pieces_met from to pieces in
      let now = met-one piece pieces less past in
      record {
        back = later.back;
        was =
            ap (λ (rest : List Piece). piece ∷ rest) later.was
            ∙ sym (ap (λ (all : List Piece). all ++ later.back) now);
        front =
            before-one from piece pieces (part_before from piece) refl
            ∙ ap (λ (rest : List Piece). cons_option (part_before from piece) rest) later.front
            ∙ sym (ap (before from) now ∙ before-one from piece met (part_before from piece) refl);
        rest =
            after-one to piece pieces (part_after to piece) refl
            ∙ ap (λ (rest : List Piece). cons_option (part_after to piece) rest) later.rest
            ∙ cons_option-append (part_after to piece) (after to met) later.back
            ∙ sym (ap (λ (all : List Piece). after to all ++ later.back) now
            ∙ ap (λ (rest : List Piece). rest ++ later.back) (after-one to piece met (part_after to piece) refl));
      }

  inside : (low size : ℕ) (pieces : List Piece) → are_pieces low size pieces ≡ true → from < low → AreInside pieces
  inside low size [] are past = inside_none [] (record { met = refl; front = before-empty from; stay = after-empty to })
  inside low size (piece ∷ pieces) are past =
      let first = FirstPiece-are_pieces low size piece pieces are in
      let begins : low ≤ piece.position = first.begins in
      elim (cases_lt piece.position to) [
        | inl less ↦
            inside_more piece pieces less (omega arith)
            (inside (piece_end piece) size pieces first.rest (omega arith))
        | inr beyond ↦
            inside_none (piece ∷ pieces) (behind piece.position size (piece ∷ pieces)
            (are_pieces-FirstPiece piece.position size piece pieces
            (record { begins = omega arith; is = first.is; rest = first.rest })) beyond)
      ]

  -- ---- all pieces

  record AreParted (pieces : List Piece) : Type 0 where
    front : List Piece
    back : List Piece
    was : pieces ≡ front ++ (pieces_met from to pieces ++ back)
    before_is : before from pieces ≡ front ++ before from (pieces_met from to pieces)
    after_is : after to pieces ≡ after to (pieces_met from to pieces) ++ back

  parted_none : (pieces : List Piece) → AreInside pieces → AreParted pieces
  parted_none pieces are =
      record { front = []; back = are.back; was = are.was; before_is = are.front; after_is = are.rest }

  parted_more : (piece : Piece) (pieces : List Piece) → 0 < piece.len → piece_end piece ≤ from → AreParted pieces
      → AreParted (piece ∷ pieces)
  parted_more piece pieces some ends later =
      let same = unmet-front piece pieces ends in
      record {
        front = piece ∷ later.front;
        back = later.back;
        was =
            ap (λ (rest : List Piece). piece ∷ rest) later.was
            ∙ sym (ap (λ (met : List Piece). (piece ∷ later.front) ++ (met ++ later.back)) same);
        before_is =
            before-one from piece pieces (Some piece) (before_whole from piece some ends)
            ∙ ap (λ (rest : List Piece). piece ∷ rest) later.before_is
            ∙ sym (ap (λ (met : List Piece). (piece ∷ later.front) ++ before from met) same);
        after_is =
            after-one to piece pieces None (after_none to piece (omega arith))
            ∙ later.after_is
            ∙ sym (ap (λ (met : List Piece). after to met ++ later.back) same);
      }

  parted : (low size : ℕ) (pieces : List Piece) → are_pieces low size pieces ≡ true → AreParted pieces
  parted low size [] are =
      parted_none [] (inside_none []
      (record { met = refl; front = before-empty from; stay = after-empty to }))
  parted low size (piece ∷ pieces) are =
      let first = FirstPiece-are_pieces low size piece pieces are in
      let some : 0 < piece.len = (WholePiece-is_piece piece first.is).some in
      elim (cases_lt from (piece_end piece)) [
        | inr ends ↦ parted_more piece pieces some ends (parted (piece_end piece) size pieces first.rest)
        | inl past ↦ elim (cases_lt piece.position to) [
          | inl less ↦
              parted_none (piece ∷ pieces) (inside_more piece pieces less past
              (inside (piece_end piece) size pieces first.rest past))
          | inr beyond ↦
              parted_none (piece ∷ pieces) (inside_none (piece ∷ pieces)
              (behind piece.position size (piece ∷ pieces)
              (are_pieces-FirstPiece piece.position size piece pieces
              (record { begins = omega arith; is = first.is; rest = first.rest })) beyond))
        ]
      ]

-- the parts of what is made, put together in another way
joined : (front before_met given after_met back : List Piece)
    → ((front ++ before_met) ++ given) ++ (after_met ++ back)
    ≡ (front ++ ((before_met ++ given) ++ after_met)) ++ back
joined front before_met given after_met back = simp append_assoc

pub range-exchanged : (from to size : ℕ) (given old : List Piece) → are_pieces from to given ≡ true
    → are_pieces 0 size old ≡ true
    → IsExchange old (with_range from to given old) (pieces_met from to old)
    (with_range from to given (pieces_met from to old))
range-exchanged from to size given old given_are old_are =
    let order = range-order from to given given_are in
    let met = pieces_met from to old in
    let parts = parted from to order 0 size old old_are in
    record {
      front = parts.front;
      back = parts.back;
      was = parts.was ∙ sym (append_assoc parts.front met parts.back);
      is =
          ap (λ (front : List Piece). (front ++ given) ++ after to old) parts.before_is
          ∙ ap (λ (back : List Piece). ((parts.front ++ before from met) ++ given) ++ back) parts.after_is
          ∙ joined parts.front (before from met) given (after to met) parts.back;
    }

-- ---- a size

module _ (by : ℕ) where
  cut-one : (piece : Piece) (pieces : List Piece) → by < piece_end piece
      → pieces_cut by (piece ∷ pieces) ≡ piece ∷ pieces_cut by pieces
  cut-one piece pieces past = rw (lt-ltb by (piece_end piece) past) refl

  uncut-front : (piece : Piece) (pieces : List Piece) → piece_end piece ≤ by
      → pieces_cut by (piece ∷ pieces) ≡ pieces_cut by pieces
  uncut-front piece pieces ends = rw (le-ltb by (piece_end piece) ends) refl

  -- all that begin at the size or behind it are cut
  cut-all : (low size : ℕ) (pieces : List Piece) → are_pieces low size pieces ≡ true → by ≤ low
      → pieces_cut by pieces ≡ pieces
  cut-all low size [] are past = refl
  cut-all low size (piece ∷ pieces) are past =
      let first = FirstPiece-are_pieces low size piece pieces are in
      let some : 0 < piece.len = (WholePiece-is_piece piece first.is).some in
      let begins : low ≤ piece.position = first.begins in
      cut-one piece pieces (omega arith)
      ∙ ap (λ (rest : List Piece). piece ∷ rest) (cut-all (piece_end piece) size pieces first.rest (omega arith))

  record AreCut (pieces : List Piece) : Type 0 where
    front : List Piece
    was : pieces ≡ front ++ pieces_cut by pieces
    is : before by pieces ≡ front ++ before by (pieces_cut by pieces)

  cut : (low size : ℕ) (pieces : List Piece) → are_pieces low size pieces ≡ true → AreCut pieces
  cut low size [] are = record { front = []; was = refl; is = refl }
  cut low size (piece ∷ pieces) are =
      let first = FirstPiece-are_pieces low size piece pieces are in
      let some : 0 < piece.len = (WholePiece-is_piece piece first.is).some in
      elim (cases_lt by (piece_end piece)) [
        | inl past ↦
            let all =
            cut-one piece pieces past
            ∙ ap (λ (rest : List Piece). piece ∷ rest) (cut-all (piece_end piece) size pieces first.rest (omega arith))
            in
            record { front = []; was = sym all; is = sym (ap (before by) all) }
        | inr ends ↦
            let later = cut (piece_end piece) size pieces first.rest in
            let same = uncut-front piece pieces ends in
            record {
              front = piece ∷ later.front;
              was =
                  ap (λ (rest : List Piece). piece ∷ rest) later.was
                  ∙ sym (ap (λ (rest : List Piece). (piece ∷ later.front) ++ rest) same);
              is =
                  before-one by piece pieces (Some piece) (before_whole by piece some ends)
                  ∙ ap (λ (rest : List Piece). piece ∷ rest) later.is
                  ∙ sym (ap (λ (rest : List Piece). (piece ∷ later.front) ++ before by rest) same);
            }
      ]

pub cut-exchanged : (by size : ℕ) (old : List Piece) → are_pieces 0 size old ≡ true
    → IsExchange old (before by old) (pieces_cut by old) (before by (pieces_cut by old))
cut-exchanged by size old are =
    let parts = cut by 0 size old are in
    let gone = pieces_cut by old in
    record {
      front = parts.front;
      back = [];
      was = parts.was ∙ sym (append-nil (parts.front ++ gone));
      is = parts.is ∙ sym (append-nil (parts.front ++ before by gone));
    }

-- ---- a file that is made, or taken out

pub all-put : (from to : ℕ) (given : List Piece) → IsExchange [] (with_range from to given []) [] given
unfolding before after
all-put from to given = record { front = []; back = []; was = refl; is = refl }

pub all-gone : (old : List Piece) → IsExchange old [] old []
all-gone old = record { front = []; back = []; was = sym (append-nil old); is = refl }
