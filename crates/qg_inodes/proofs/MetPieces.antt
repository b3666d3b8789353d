-- Which pieces are taken out and put in where a range of a file is written over, or it is cut. Positions are in bytes.
use Rattle.std.proofs.Common.{◌≡◌, ℕ, ◌<◌, ◌≤◌, true, false, List, [], ◌∷◌, Some, None, refl, sym, ap, subst, ◌∙◌}
use Rattle.std.proofs.Common.{arith, inl, inr}
use Rattle.std.specs.Prelude.{Bool, Option, ◌&&◌, filter, is_some, nat_lt, if◌then◌else◌}
use Rattle.std.specs.Option.{option_and_then}
use Rattle.std.proofs.lemmas.Bool.{and_from, cases_Bool, cases_eq, cases_lt, le-leb, le-ltb, leb-true, lt-ltb}
use Rattle.std.proofs.lemmas.Bool.{ltb-false}
use Rattle.std.proofs.lemmas.Option.{none-some, same_Some}
use Rattle.qg_num.specs.declared.piece.Piece.{Piece}
use Rattle.qg_image.specs.FilesOf.{are_pieces, piece_end}
use Rattle.qg_image.specs.ItemMeaning.{◌orelse◌}
use Rattle.qg_image.proofs.Pieces.{FirstPiece-are_pieces, WholePiece-is_piece, are_pieces-FirstPiece}
use Rattle.qg_machine.specs.FileChange.{before, part_after, part_before, with_range}
use Rattle.qg_tree_items.proofs.Parts.{orelse-none}
use Rattle.qg_inodes.specs.Bodies.{piece_at, piece_over}
use Rattle.qg_inodes.specs.FileEdits.{AreExchanged}
use Rattle.qg_inodes.specs.PiecesWritten.{pieces_cut, pieces_met}
use Rattle.qg_inodes.proofs.PiecesByPosition.{after-whole, at-after, at-after-behind, at-before, at-before-none}
use Rattle.qg_inodes.proofs.PiecesByPosition.{at-here}
use Rattle.qg_inodes.proofs.PiecesByPosition.{at-later, at-range-behind, at-range-front, at-range-inside, before-whole}
use Rattle.qg_inodes.proofs.PiecesByPosition.{over-before, over-behind, over-here, range-front, range-order}

-- ---- some of a file's pieces

-- what is there, where it passes a test
abbrev pub kept : (Piece → Bool) → Option Piece → Option Piece
kept test None = None
kept test (Some piece) = if test piece then Some piece else None

module _ (test : Piece → Bool) where
  -- pieces may begin later than is asked
  from_earlier : (low from size : ℕ) (pieces : List Piece) → low ≤ from → are_pieces from size pieces ≡ true
      → are_pieces low size pieces ≡ true
  unfolding are_pieces
  from_earlier low from size [] earlier are = le-leb low size (let above = leb-true from size are in omega arith)
  from_earlier low from size (piece ∷ pieces) earlier are =
      let first = FirstPiece-are_pieces from size piece pieces are in
      let begins : from ≤ piece.position = first.begins in
      are_pieces-FirstPiece low size piece pieces (record { begins = omega arith; is = first.is; rest = first.rest })

  pub filter-are : (from size : ℕ) (pieces : List Piece) → are_pieces from size pieces ≡ true
      → are_pieces from size (filter test pieces) ≡ true
  filter-are from size [] are = are
  filter-are from size (piece ∷ pieces) are =
      let first = FirstPiece-are_pieces from size piece pieces are in
      let later = filter-are (piece_end piece) size pieces first.rest in
      let begins : from ≤ piece.position = first.begins in
      elim (cases_Bool (test piece)) [
        | inl passes ↦
            rw passes (are_pieces-FirstPiece from size piece (filter test pieces)
            (record { begins = begins; is = first.is; rest = later }))
        | inr fails ↦ rw fails (from_earlier from (piece_end piece) size (filter test pieces) (omega arith) later)
      ]

  -- the piece at a position among those that pass
  pub at-filter : (from size : ℕ) (pieces : List Piece) (position : ℕ) → are_pieces from size pieces ≡ true
      → piece_at position (filter test pieces) ≡ kept test (piece_at position pieces)
  at-filter from size [] position are = refl
  at-filter from size (piece ∷ pieces) position are =
      let first = FirstPiece-are_pieces from size piece pieces are in
      let some : 0 < piece.len = (WholePiece-is_piece piece first.is).some in
      let later = at-filter (piece_end piece) size pieces position first.rest in
      elim (cases_eq piece.position position) [
        | inl here ↦
            let none = range-front (piece_end piece) size pieces position first.rest (omega arith) in
            let there = at-here position piece pieces here in
            elim (cases_Bool (test piece)) [
              | inl passes ↦ rw passes (at-here position piece (filter test pieces) here
                  ∙ sym (ap (kept test) there ∙ rw passes refl))
              | inr fails ↦ rw fails (later ∙ ap (kept test) none ∙ sym (ap (kept test) there ∙ rw fails refl))
            ]
        | inr differ ↦
            let there = ap (kept test) (at-later position piece pieces differ) in
            elim (cases_Bool (test piece)) [
              | inl passes ↦ rw passes (at-later position piece (filter test pieces) differ ∙ later ∙ sym there)
              | inr fails ↦ rw fails (later ∙ sym there)
            ]
      ]

  -- and the one over it
  over_none : (from size : ℕ) (pieces : List Piece) (position : ℕ) → are_pieces from size pieces ≡ true
      → position < from
      → piece_over position pieces ≡ None
  over_none from size [] position are less = refl
  over_none from size (piece ∷ pieces) position are less =
      let first = FirstPiece-are_pieces from size piece pieces are in
      let begins : from ≤ piece.position = first.begins in
      over-before position piece pieces (omega arith)
      ∙ over_none (piece_end piece) size pieces position first.rest (omega arith)

  over_other : (piece : Piece) (pieces : List Piece) (position : ℕ)
      → piece_over position (piece ∷ pieces) ≡ piece_over position pieces
      → piece_over position (piece ∷ filter test pieces) ≡ piece_over position (filter test pieces)
      → piece_over position (filter test pieces) ≡ kept test (piece_over position pieces)
      → piece_over position (filter test (piece ∷ pieces)) ≡ kept test (piece_over position (piece ∷ pieces))
  over_other piece pieces position there among later = elim (cases_Bool (test piece)) [
    | inl passes ↦ rw passes (among ∙ later ∙ sym (ap (kept test) there))
    | inr fails ↦ rw fails (later ∙ sym (ap (kept test) there))
  ]

  pub over-filter : (from size : ℕ) (pieces : List Piece) (position : ℕ) → are_pieces from size pieces ≡ true
      → piece_over position (filter test pieces) ≡ kept test (piece_over position pieces)
  over-filter from size [] position are = refl
  over-filter from size (piece ∷ pieces) position are =
      let first = FirstPiece-are_pieces from size piece pieces are in
      let later = over-filter (piece_end piece) size pieces position first.rest in
      elim (cases_lt position piece.position) [
        | inl less ↦
            over_other piece pieces position (over-before position piece pieces less)
            (over-before position piece (filter test pieces) less) later
        | inr begins ↦ elim (cases_lt position (piece_end piece)) [
          | inr ends ↦
              over_other piece pieces position (over-behind position piece pieces ends)
              (over-behind position piece (filter test pieces) ends) later
          | inl over ↦
              let there = over-here position piece pieces begins over in
              let none = over_none (piece_end piece) size pieces position first.rest over in
              elim (cases_Bool (test piece)) [
                | inl passes ↦
                    rw passes (over-here position piece (filter test pieces) begins over
                    ∙ sym (ap (kept test) there ∙ rw passes refl))
                | inr fails ↦ rw fails (later ∙ ap (kept test) none ∙ sym (ap (kept test) there ∙ rw fails refl))
              ]
        ]
      ]

-- ---- what is known of a piece that is found

record IsFoundAt (position : ℕ) (piece : Piece) : Type 0 where
  at : piece.position ≡ position
  some : 0 < piece.len

found_at : (from size : ℕ) (pieces : List Piece) (position : ℕ) (piece : Piece) → are_pieces from size pieces ≡ true
    → piece_at position pieces ≡ Some piece → IsFoundAt position piece
found_at from size [] position piece are is = absurd (none-some piece is)
found_at from size (first ∷ pieces) position piece are is =
    let known = FirstPiece-are_pieces from size first pieces are in
    elim (cases_eq first.position position) [
      | inl here ↦
          let same = same_Some first piece (sym (at-here position first pieces here) ∙ is) in
          subst (λ (p : Piece). IsFoundAt position p) same
          (record { at = here; some = (WholePiece-is_piece first known.is).some })
      | inr differ ↦ found_at (piece_end first) size pieces position piece known.rest
          (sym (at-later position first pieces differ) ∙ is)
    ]

record IsFoundOver (position : ℕ) (pieces : List Piece) (piece : Piece) : Type 0 where
  begins : piece.position ≤ position
  ends : position < piece_end piece
  -- no other one begins there
  alone : (piece.position < position) → piece_at position pieces ≡ None
  itself : piece.position ≡ position → piece_at position pieces ≡ Some piece

found_over : (from size : ℕ) (pieces : List Piece) (position : ℕ) (piece : Piece) → are_pieces from size pieces ≡ true
    → piece_over position pieces ≡ Some piece → IsFoundOver position pieces piece
found_over from size [] position piece are is = absurd (none-some piece is)
found_over from size (first ∷ pieces) position piece are is =
    let known = FirstPiece-are_pieces from size first pieces are in
    let some : 0 < first.len = (WholePiece-is_piece first known.is).some in
    elim (cases_lt position first.position) [
      | inl less ↦
          let later =
          found_over (piece_end first) size pieces position piece known.rest
          (sym (over-before position first pieces less) ∙ is)
          in
          let skip = at-later position first pieces (λ same. omega (arith, same)) in
          record {
            begins = later.begins;
            ends = later.ends;
            alone = λ front. skip ∙ later.alone front;
            itself = λ same. skip ∙ later.itself same;
          }
      | inr begins ↦ elim (cases_lt position (piece_end first)) [
        | inr ends ↦
            let later =
            found_over (piece_end first) size pieces position piece known.rest
            (sym (over-behind position first pieces ends) ∙ is)
            in
            let skip = at-later position first pieces (λ same. omega (arith, same)) in
            record {
              begins = later.begins;
              ends = later.ends;
              alone = λ front. skip ∙ later.alone front;
              itself = λ same. skip ∙ later.itself same;
            }
        | inl over ↦
            let same = same_Some first piece (sym (over-here position first pieces begins over) ∙ is) in
            let here : IsFoundOver position (first ∷ pieces) first = record {
              begins = begins;
              ends = over;
              alone = λ front.
                  at-later position first pieces (λ same. omega (arith, same, front))
                  ∙ range-front (piece_end first) size pieces position known.rest over;
              itself = λ same. at-here position first pieces same;
            } in
            subst (λ (p : Piece). IsFoundOver position (first ∷ pieces) p) same here
      ]
    ]

-- where none is over a position, none begins there
over_at : (from size : ℕ) (pieces : List Piece) (position : ℕ) → are_pieces from size pieces ≡ true
    → piece_over position pieces ≡ None → piece_at position pieces ≡ None
over_at from size [] position are is = refl
over_at from size (piece ∷ pieces) position are is =
    let known = FirstPiece-are_pieces from size piece pieces are in
    let some : 0 < piece.len = (WholePiece-is_piece piece known.is).some in
    elim (cases_lt position piece.position) [
      | inl less ↦
          at-later position piece pieces (λ same. omega (arith, same))
          ∙ over_at (piece_end piece) size pieces position known.rest
          (sym (over-before position piece pieces less) ∙ is)
      | inr begins ↦ elim (cases_lt position (piece_end piece)) [
        | inr ends ↦
            at-later position piece pieces (λ same. omega (arith, same))
            ∙ over_at (piece_end piece) size pieces position known.rest
            (sym (over-behind position piece pieces ends) ∙ is)
        | inl over ↦ absurd (none-some piece (sym is ∙ over-here position piece pieces begins over))
      ]
    ]

-- ---- what is put in, and what stays, by cases

abbrev exchange : Option Piece → Option Piece → Option Piece → Option Piece
exchange put gone old = put orelse (if is_some gone then None else old)

by_parts : (a new b put c out old : Option Piece) → a ≡ new → b ≡ put → c ≡ out → new ≡ exchange put out old
    → a ≡ exchange b c old
by_parts a new b put c out old e f g is = e ∙ is ∙ sym (rw (f, g) refl)

-- the front of a piece that is taken out, or a whole one that stays
front_case : (test : Piece → Bool) (bound : ℕ) (old : Option Piece)
    → ((piece : Piece) → old ≡ Some piece → test piece ≡ false → part_before bound piece ≡ Some piece)
    → option_and_then (part_before bound) old
    ≡ exchange (option_and_then (part_before bound) (kept test old)) (kept test old) old
front_case test bound None stays = refl
front_case test bound (Some piece) stays = elim (cases_Bool (test piece)) [
  | inl passes ↦ rw passes (sym (orelse-none (part_before bound piece)))
  | inr fails ↦ rw fails (stays piece refl fails)
]

-- a given piece, and none that was there
inside_case : (test : Piece → Bool) (given old : Option Piece)
    → ((piece : Piece) → old ≡ Some piece → test piece ≡ true)
    → given ≡ exchange given (kept test old) old
inside_case test (Some piece) old passes = refl
inside_case test None None passes = refl
inside_case test None (Some piece) passes = rw (passes piece refl) refl

-- the piece that was there
behind_case : (test : Piece → Bool) (old : Option Piece) → old ≡ exchange (kept test old) (kept test old) old
behind_case test None = refl
behind_case test (Some piece) =
    elim (cases_Bool (test piece)) [ inl passes ↦ rw passes refl | inr fails ↦ rw fails refl ]

-- ---- a range

module _ (from to size : ℕ) (given old : List Piece) (given_are : are_pieces from to given ≡ true)
    (old_are : are_pieces 0 size old ≡ true) where
  abbrev meets : Piece → Bool
  meets piece = nat_lt piece.position to && nat_lt from (piece_end piece)

  abbrev met : List Piece
  met = pieces_met from to old

  abbrev put : List Piece
  put = with_range from to given met

  order : from ≤ to
  order = range-order from to given given_are

  does_meet : (piece : Piece) → piece.position < to → from < piece_end piece → meets piece ≡ true
  does_meet piece less past =
      and_from (nat_lt piece.position to) (nat_lt from (piece_end piece)) (lt-ltb piece.position to less)
      (lt-ltb from (piece_end piece) past)

  ends_by : (piece : Piece) → piece.position < to → meets piece ≡ false → piece_end piece ≤ from
  ends_by piece less fails =
      ltb-false from (piece_end piece)
      (sym (ap (λ (b : Bool). b && nat_lt from (piece_end piece)) (lt-ltb piece.position to less)) ∙ fails)

  module _ (position : ℕ) where
    abbrev was : Option Piece
    was = piece_at position old

    found : (piece : Piece) → was ≡ Some piece → IsFoundAt position piece
    found piece is = found_at 0 size old position piece old_are is

    met_at : piece_at position met ≡ kept meets was
    met_at = at-filter meets 0 size old position old_are

    in_front : position < from → piece_at position (with_range from to given old)
        ≡ exchange (piece_at position put) (piece_at position met) was
    in_front less =
        by_parts (piece_at position (with_range from to given old)) (option_and_then (part_before from) was)
        (piece_at position put) (option_and_then (part_before from) (kept meets was)) (piece_at position met)
        (kept meets was) was
        (at-range-front from to given old position given_are less)
        (at-range-front from to given met position given_are less ∙ ap (option_and_then (part_before from)) met_at)
        met_at
        (front_case meets from was (λ piece is fails.
        let at = (found piece is).at in
        let ends = ends_by piece (omega (arith, order, at)) fails in
        before-whole from piece (omega (arith, at)) ends))

    inside : from ≤ position → position < to
        → piece_at position (with_range from to given old)
        ≡ exchange (piece_at position put) (piece_at position met) was
    inside begins less =
        by_parts (piece_at position (with_range from to given old)) (piece_at position given)
        (piece_at position put) (piece_at position given) (piece_at position met) (kept meets was) was
        (at-range-inside from to given old position given_are begins less)
        (at-range-inside from to given met position given_are begins less)
        met_at
        (inside_case meets (piece_at position given) was (λ piece is.
        let known = found piece is in
        let at = known.at in
        let some = known.some in
        does_meet piece (omega (arith, at)) (omega (arith, at, some))))

    behind : to < position → piece_at position (with_range from to given old)
        ≡ exchange (piece_at position put) (piece_at position met) was
    behind past =
        by_parts (piece_at position (with_range from to given old)) was
        (piece_at position put) (kept meets was) (piece_at position met) (kept meets was) was
        (at-range-behind from to given old position given_are (omega arith) ∙ at-after-behind to old position past)
        (at-range-behind from to given met position given_are (omega arith) ∙ at-after-behind to met position past
        ∙ met_at)
        met_at
        (behind_case meets was)

  -- what rests of the piece over the end, where that is taken out, or the one that was there
  abbrev rests : Option Piece → Option Piece → Option Piece
  rests over there = exchange (option_and_then (part_after to) (kept meets over)) (kept meets there) there

  end_case : (over : Option Piece) → piece_over to old ≡ over
      → option_and_then (part_after to) over ≡ rests over (piece_at to old)
  end_case None is = sym (ap (rests None) (over_at 0 size old to old_are is))
  end_case (Some piece) is =
      let known = found_over 0 size old to piece old_are is in
      let ends = known.ends in
      let left : Option Piece = option_and_then (part_after to) (kept meets (Some piece)) in
      elim (cases_lt piece.position to) [
        | inl less ↦
            let passes = does_meet piece less (omega (arith, order, ends)) in
            let none = known.alone less in
            sym (ap (rests (Some piece)) none ∙ orelse-none left ∙ rw passes refl)
        | inr past ↦
            let begins = known.begins in
            let behind_it = le-ltb piece.position to past in
            let fails : meets piece ≡ false = ap (λ (b : Bool). b && nat_lt from (piece_end piece)) behind_it in
            let there = known.itself (omega (arith, past, begins)) in
            after-whole to piece past ends ∙ sym (ap (rests (Some piece)) there ∙ rw fails refl)
      ]

  at_end : piece_at to (with_range from to given old) ≡ exchange (piece_at to put) (piece_at to met) (piece_at to old)
  at_end =
      let over = piece_over to old in
      by_parts (piece_at to (with_range from to given old)) (option_and_then (part_after to) over)
      (piece_at to put) (option_and_then (part_after to) (kept meets over)) (piece_at to met)
      (kept meets (piece_at to old)) (piece_at to old)
      (at-range-behind from to given old to given_are (omega arith) ∙ at-after to old)
      (at-range-behind from to given met to given_are (omega arith) ∙ at-after to met
      ∙ ap (option_and_then (part_after to)) (over-filter meets 0 size old to old_are))
      (met_at to)
      (end_case over refl)

  pub range-exchanged : AreExchanged met put old (with_range from to given old)
  range-exchanged position = elim (cases_lt position from) [
    | inl front ↦ in_front position front
    | inr begins ↦ elim (cases_lt position to) [
      | inl less ↦ inside position begins less
      | inr past ↦ elim (cases_eq position to) [
        | inl same ↦
            subst (λ (p : ℕ). piece_at p (with_range from to given old)
            ≡ exchange (piece_at p put) (piece_at p met) (piece_at p old)) (sym same) at_end
        | inr differ ↦ behind position (omega arith)
      ]
    ]
  ]

-- ---- a size

module _ (by size : ℕ) (old : List Piece) (old_are : are_pieces 0 size old ≡ true) where
  abbrev ends_past : Piece → Bool
  ends_past piece = nat_lt by (piece_end piece)

  abbrev cut : List Piece
  cut = pieces_cut by old

  module _ (position : ℕ) where
    abbrev stood : Option Piece
    stood = piece_at position old

    cut_at : piece_at position cut ≡ kept ends_past stood
    cut_at = at-filter ends_past 0 size old position old_are

    cut_front : position < by → piece_at position (before by old)
        ≡ exchange (piece_at position (before by cut)) (piece_at position cut) stood
    cut_front less =
        by_parts (piece_at position (before by old)) (option_and_then (part_before by) stood)
        (piece_at position (before by cut)) (option_and_then (part_before by) (kept ends_past stood))
        (piece_at position cut) (kept ends_past stood) stood
        (at-before by old position less)
        (at-before by cut position less ∙ ap (option_and_then (part_before by)) cut_at)
        cut_at
        (front_case ends_past by stood (λ piece is fails.
        let at = (found_at 0 size old position piece old_are is).at in
        before-whole by piece (omega (arith, at)) (ltb-false by (piece_end piece) fails)))

    cut_behind : by ≤ position → piece_at position (before by old)
        ≡ exchange (piece_at position (before by cut)) (piece_at position cut) stood
    cut_behind past =
        by_parts (piece_at position (before by old)) None (piece_at position (before by cut)) None
        (piece_at position cut) (kept ends_past stood) stood
        (at-before-none by old position past)
        (at-before-none by cut position past)
        cut_at
        (inside_case ends_past None stood (λ piece is.
        let known = found_at 0 size old position piece old_are is in
        let at = known.at in
        let some = known.some in
        lt-ltb by (piece_end piece) (omega (arith, at, some))))

  pub cut-exchanged : AreExchanged cut (before by cut) old (before by old)
  cut-exchanged position =
      elim (cases_lt position by) [ inl less ↦ cut_front position less | inr past ↦ cut_behind position past ]
