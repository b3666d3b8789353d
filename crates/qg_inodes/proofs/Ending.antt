-- The last piece that begins in front of a range's end: where it begins by the range's begin too, it is all that the
-- range may meet, and else the last of what it meets. Positions and lengths are in bytes.
use Rattle.std.proofs.Common.{◌≡◌, ℕ, ◌+◌, ◌<◌, ◌≤◌, true, false, cond, List, [], ◌∷◌, ◌++◌, length, Some, None, refl}
use Rattle.std.proofs.Common.{sym, ap, subst, ◌∙◌, arith, append-nil, length-append, inl, inr}
use Rattle.std.specs.Prelude.{Bool, Option, ◌&&◌, ⊤, filter, nat_le, nat_lt, if◌then◌else◌}
use Rattle.std.proofs.lemmas.Bool.{cases_lt, le-leb, le-ltb, lt-leb, lt-ltb}
use Rattle.std.proofs.lemmas.List.{append_assoc}
use Rattle.qg_num.specs.declared.piece.Piece.{Piece}
use Rattle.qg_image.specs.FilesOf.{are_pieces, piece_end}
use Rattle.qg_image.proofs.Pieces.{FirstPiece, FirstPiece-are_pieces, WholePiece-is_piece, are_pieces-FirstPiece}
use Rattle.qg_tree_items.proofs.Parts.{and-false}
use Rattle.qg_inodes.specs.PiecesWritten.{pieces_met}
use Rattle.qg_inodes.specs.Pieces.{BeginsBy, last_begun, piece_met, pieces_begun}
use Rattle.qg_inodes.proofs.Meeting.{met-parted, last-none}

-- ---- those that begin from a position up to another one

-- none behind the range
none_past : (from to a size : ℕ) (pieces : List Piece) → to ≤ a → are_pieces a size pieces ≡ true
    → pieces_begun from to pieces ≡ []
none_past from to a size [] past are = refl
none_past from to a size (piece ∷ pieces) past are =
    let first = FirstPiece-are_pieces a size piece pieces are in
    let begins = first.begins in
    let out : (nat_le from piece.position && nat_lt piece.position to) ≡ false =
    ap (λ (b : Bool). nat_le from piece.position && b) (le-ltb piece.position to (omega arith))
    ∙ and-false (nat_le from piece.position)
    in
    ap (λ (b : Bool). cond b (piece ∷ pieces_begun from to pieces) (pieces_begun from to pieces)) out
    ∙ none_past from to (piece_end piece) size pieces (omega arith) first.rest

-- one that begins by the position in front of the range is not among them
not_among : (from to : ℕ) (piece : Piece) (pieces : List Piece) → piece.position ≤ from
    → pieces_begun (from + 1) to (piece ∷ pieces) ≡ pieces_begun (from + 1) to pieces
not_among from to piece pieces before =
    let out : (nat_le (from + 1) piece.position && nat_lt piece.position to) ≡ false =
    ap (λ (b : Bool). b && nat_lt piece.position to) (lt-leb (from + 1) piece.position (omega arith))
    in
    ap (λ (b : Bool). cond b (piece ∷ pieces_begun (from + 1) to pieces) (pieces_begun (from + 1) to pieces)) out

-- one that begins in the range is
is_among : (from to : ℕ) (piece : Piece) (pieces : List Piece) → from < piece.position → piece.position < to
    → pieces_begun (from + 1) to (piece ∷ pieces) ≡ piece ∷ pieces_begun (from + 1) to pieces
is_among from to piece pieces behind before =
    let left : nat_le (from + 1) piece.position ≡ true = le-leb (from + 1) piece.position (omega arith) in
    let right : nat_lt piece.position to ≡ true = lt-ltb piece.position to before in
    ap
    (λ (b : Bool).
    cond (b && nat_lt piece.position to) (piece ∷ pieces_begun (from + 1) to pieces)
    (pieces_begun (from + 1) to pieces)) left
    ∙ ap (λ (b : Bool). cond b (piece ∷ pieces_begun (from + 1) to pieces) (pieces_begun (from + 1) to pieces)) right

-- ---- the last that begins by a position

-- it is the next one, where that begins by then
takes_next : (last : ℕ) (other : Option Piece) (piece : Piece) (pieces : List Piece) → piece.position ≤ last
    → last_begun other last (piece ∷ pieces) ≡ last_begun (Some piece) last pieces
takes_next last other piece pieces upto =
    ap (λ (b : Bool). last_begun (if b then Some piece else other) last pieces) (le-leb piece.position last upto)

-- it is not in front of one that begins by then
last_behind : (last a size : ℕ) (piece : Piece) (pieces : List Piece) (x : Piece) → piece.position ≤ a
    → are_pieces a size pieces ≡ true → last_begun (Some piece) last pieces ≡ Some x
    → piece.position ≤ x.position
last_behind last a size piece [] x upto are is = same_place piece x is where
  same_place : (p q : Piece) → Some p ≡ Some q → p.position ≤ q.position
  same_place p q is = let same : p ≡ q = cc in subst (λ (r : Piece). p.position ≤ r.position) same (omega arith)
last_behind last a size piece (next ∷ pieces) x upto are is =
    let first = FirstPiece-are_pieces a size next pieces are in
    let begins = first.begins in
    elim (cases_lt last next.position) [
      | inl past ↦
          let over : last_begun (Some piece) last (next ∷ pieces) ≡ last_begun (Some piece) last pieces =
          ap (λ (b : Bool). last_begun (if b then Some next else Some piece) last pieces)
          (lt-leb next.position last past)
          in
          last_behind last (piece_end next) size piece pieces x (omega arith) first.rest (sym over ∙ is)
      | inr within ↦
          let rest = last_behind last (piece_end next) size next pieces x (omega arith) first.rest
          (sym (takes_next last (Some piece) next pieces within) ∙ is)
          in
          omega (arith, rest, begins, upto)
    ]

-- there is one, where one is told before
begun_some : (last : ℕ) (piece : Piece) (pieces : List Piece) → last_begun (Some piece) last pieces ≡ None → ⊥
begun_some last piece [] is = absurd cc
begun_some last piece (next ∷ pieces) is = elim (cases_lt last next.position) [
  | inl past ↦
      begun_some last piece pieces
      (sym (ap (λ (b : Bool). last_begun (if b then Some next else Some piece) last pieces)
      (lt-leb next.position last past)) ∙ is)
  | inr within ↦ begun_some last next pieces (sym (takes_next last (Some piece) next pieces within) ∙ is)
]

same_piece : (p q : Piece) → Some p ≡ Some q → p ≡ q
same_piece p q is = cc

-- the last that begins by a position does
last_upto_it : (last : ℕ) (other : Option Piece) (pieces : List Piece) (x : Piece) → BeginsBy last other
    → last_begun other last pieces ≡ Some x → x.position ≤ last
last_upto_it last None [] x begins is = absurd cc
last_upto_it last (Some other) [] x begins is =
    let same = same_piece other x is in subst (λ (p : Piece). p.position ≤ last) same begins
last_upto_it last other (piece ∷ pieces) x begins is = elim (cases_lt last piece.position) [
  | inl past ↦
      last_upto_it last other pieces x begins
      (sym (ap (λ (b : Bool). last_begun (if b then Some piece else other) last pieces)
      (lt-leb piece.position last past)) ∙ is)
  | inr within ↦ last_upto_it last (Some piece) pieces x within (sym (takes_next last other piece pieces within) ∙ is)
]

module _ (from last to : ℕ) (upto : from ≤ last) (is : to ≡ last + 1) where
  -- ---- it begins by the range's begin

  last_reaches : (a size : ℕ) (other : Option Piece) (pieces : List Piece) → are_pieces a size pieces ≡ true
      → BeginsBy from (last_begun other last pieces)
      → (last_begun other from pieces ≡ last_begun other last pieces) × (pieces_begun (from + 1) to pieces ≡ [])
  last_reaches a size other [] are begins = (refl, refl)
  last_reaches a size other (piece ∷ pieces) are begins =
      let first = FirstPiece-are_pieces a size piece pieces are in
      elim (cases_lt from piece.position) [
        | inr before ↦
            let next = takes_next last other piece pieces (omega arith) in
            let rest =
            last_reaches (piece_end piece) size (Some piece) pieces first.rest
            (subst (λ (o : Option Piece). BeginsBy from o) next begins)
            in (
              takes_next from other piece pieces before ∙ rest.0 ∙ sym next,
              not_among from to piece pieces before
                  ∙ rest.1,
            )
        | inl behind ↦ elim (cases_lt last piece.position) [
          | inl past ↦
              let here : are_pieces piece.position size (piece ∷ pieces) ≡ true =
              are_pieces-FirstPiece piece.position size piece pieces
              (record { begins = omega arith; is = first.is; rest = first.rest })
              in (
                last-none from piece.position size other (piece ∷ pieces) behind here
                    ∙ sym (last-none last piece.position size other (piece ∷ pieces) past here),
                none_past (from + 1) to piece.position size (piece ∷ pieces) (omega arith) here,
              )
          | inr within ↦
              absurd
              (too_far (last_begun (Some piece) last pieces)
              (λ x found. last_behind last (piece_end piece) size piece pieces x (omega arith) first.rest found)
              (begun_some last piece pieces)
              (subst (λ (o : Option Piece). BeginsBy from o) (takes_next last other piece pieces within) begins) behind)
        ]
      ] where
        too_far : (o : Option Piece) → ((x : Piece) → o ≡ Some x → piece.position ≤ x.position) → (o ≡ None → ⊥)
            → BeginsBy from o → from < piece.position → ⊥
        too_far None later some begins behind = some refl
        too_far (Some x) later some begins behind = let least = later x refl in omega (arith, least, begins, behind)

  -- ---- it begins behind the range's begin

  -- where a piece begins in the range, it and those behind are all up to the last, and then that
  abbrev EndsWith : Piece → List Piece → Piece → Type 0
  EndsWith piece pieces x =
      piece ∷ pieces_begun (from + 1) to pieces
      ≡ pieces_begun (from + 1) x.position (piece ∷ pieces) ++ x ∷ []

  -- it is itself the last, where none of those behind begins in the range
  itself_last : (piece : Piece) (pieces : List Piece) (x : Piece) → pieces_begun (from + 1) to pieces ≡ []
      → pieces_begun (from + 1) x.position pieces ≡ [] → piece ≡ x → EndsWith piece pieces x
  itself_last piece pieces x none fewer same =
      let out : (nat_le (from + 1) piece.position && nat_lt piece.position x.position) ≡ false =
      ap (λ (b : Bool). nat_le (from + 1) piece.position && b)
      (le-ltb piece.position x.position (subst (λ (p : Piece). p.position ≤ piece.position) same (omega arith)))
      ∙ and-false (nat_le (from + 1) piece.position)
      in
      let empty : pieces_begun (from + 1) x.position (piece ∷ pieces) ≡ [] =
      ap
      (λ (b : Bool). cond b (piece ∷ pieces_begun (from + 1) x.position pieces)
      (pieces_begun (from + 1) x.position pieces))
      out
      ∙ fewer
      in
      ap (λ (ps : List Piece). piece ∷ ps) none ∙ ap (λ (p : Piece). p ∷ []) same
      ∙ sym (ap (λ (ps : List Piece). ps ++ x ∷ []) empty)

  ends_with : (a size : ℕ) (piece : Piece) (pieces : List Piece) (x : Piece) → from < piece.position
      → piece.position ≤ last → piece.position < a → are_pieces a size pieces ≡ true
      → last_begun (Some piece) last pieces ≡ Some x → EndsWith piece pieces x
  ends_with a size piece [] x behind within below are found =
      itself_last piece [] x refl refl (same_piece piece x found)
  ends_with a size piece (next ∷ pieces) x behind within below are found =
      let first = FirstPiece-are_pieces a size next pieces are in
      let begins = first.begins in
      let here : are_pieces next.position size (next ∷ pieces) ≡ true =
      are_pieces-FirstPiece next.position size next pieces
      (record { begins = omega arith; is = first.is; rest = first.rest })
      in
      let some = (WholePiece-is_piece next first.is).some in
      elim (cases_lt last next.position) [
        | inl past ↦
            let same = same_piece piece x
            (sym (last-none last next.position size (Some piece) (next ∷ pieces) past here) ∙ found)
            in
            let far : x.position ≤ next.position =
            subst (λ (p : Piece). p.position ≤ next.position) same (omega (arith, begins, below))
            in
            itself_last piece (next ∷ pieces) x
            (none_past (from + 1) to next.position size (next ∷ pieces) (omega (arith, past, is)) here)
            (none_past (from + 1) x.position next.position size (next ∷ pieces) far here) same
        | inr before ↦
            let found_next = sym (takes_next last (Some piece) next pieces before) ∙ found in
            let rest : EndsWith next pieces x =
            ends_with (piece_end next) size next pieces x (omega arith) before (omega arith) first.rest found_next
            in
            let least = last_behind last (piece_end next) size next pieces x (omega arith) first.rest found_next in
            ap (λ (ps : List Piece). piece ∷ ps) (is_among from to next pieces (omega arith) (omega arith) ∙ rest)
            ∙ sym (ap (λ (ps : List Piece). ps ++ x ∷ [])
            (is_among from x.position piece (next ∷ pieces) behind (omega (arith, least, begins, below))))
      ]

  begun_last : (a size : ℕ) (other : Option Piece) (pieces : List Piece) (x : Piece) → are_pieces a size pieces ≡ true
      → last_begun other last pieces ≡ Some x → from < x.position → BeginsBy from other
      → pieces_begun (from + 1) to pieces ≡ pieces_begun (from + 1) x.position pieces ++ x ∷ []
  begun_last a size None [] x are found behind begins = absurd cc
  begun_last a size (Some other) [] x are found behind begins =
      let same = same_piece other x found in
      let early = subst (λ (p : Piece). p.position ≤ from) same begins in
      absurd (omega (arith, early, behind))
  begun_last a size other (piece ∷ pieces) x are found behind begins =
      let first = FirstPiece-are_pieces a size piece pieces are in
      let some = (WholePiece-is_piece piece first.is).some in
      elim (cases_lt from piece.position) [
        | inr before ↦
            not_among from to piece pieces before
            ∙ begun_last (piece_end piece) size (Some piece) pieces x first.rest
            (sym (takes_next last other piece pieces (omega arith)) ∙ found) behind before
            ∙ ap (λ (ps : List Piece). ps ++ x ∷ []) (sym (not_among from x.position piece pieces before))
        | inl late ↦ elim (cases_lt last piece.position) [
          | inl past ↦
              let here : are_pieces piece.position size (piece ∷ pieces) ≡ true =
              are_pieces-FirstPiece piece.position size piece pieces
              (record { begins = omega arith; is = first.is; rest = first.rest })
              in
              absurd (from_other other (sym (last-none last piece.position size other (piece ∷ pieces) past here)
              ∙ found) begins)
          | inr within ↦
              is_among from to piece pieces late (omega arith)
              ∙ ends_with (piece_end piece) size piece pieces x late within (omega arith) first.rest
              (sym (takes_next last other piece pieces within) ∙ found)
        ]
      ] where
        from_other : (o : Option Piece) → o ≡ Some x → BeginsBy from o → ⊥
        from_other None is begins = absurd cc
        from_other (Some other) is begins =
            let same = same_piece other x is in
            let early = subst (λ (p : Piece). p.position ≤ from) same begins in
            absurd (omega (arith, early, behind))

  -- ---- of all pieces of a file

  module _ (size : ℕ) (pieces : List Piece) (are : are_pieces 0 size pieces ≡ true) where
    -- where it begins by the range's begin, it is all that the range may meet
    pub last-alone : BeginsBy from (last_begun None last pieces)
        → piece_met from to (last_begun None last pieces) ≡ pieces_met from to pieces
    last-alone begins =
        let parts = last_reaches 0 size None pieces are begins in
        sym (append-nil (piece_met from to (last_begun None last pieces)))
        ∙ ap (λ (ps : List Piece). piece_met from to (last_begun None last pieces) ++ ps) (sym parts.1)
        ∙ ap (λ (o : Option Piece). piece_met from to o ++ pieces_begun (from + 1) to pieces) (sym parts.0)
        ∙ met-parted from to size pieces are

    -- or else the range up to it meets all others
    pub last-more : (x : Piece) → last_begun None last pieces ≡ Some x → from < x.position
        → pieces_met from x.position pieces ++ x ∷ [] ≡ pieces_met from to pieces
    last-more x found behind =
        let before = last_upto_it last None pieces x tt found in
        let front = last_begun None from pieces in
        ap (λ (ps : List Piece). ps ++ x ∷ []) (sym (met-parted from x.position size pieces are))
        ∙ append_assoc (piece_met from x.position front) (pieces_begun (from + 1) x.position pieces) (x ∷ [])
        ∙ ap (λ (ps : List Piece). piece_met from x.position front ++ ps)
        (sym (begun_last 0 size None pieces x are found behind tt))
        ∙ ap (λ (ps : List Piece). ps ++ pieces_begun (from + 1) to pieces)
        (same_met front (begins_by None pieces tt) before)
        ∙ met-parted from to size pieces are
      where
        -- one that begins by the range's begin meets both ranges or neither
        same_met : (o : Option Piece) → BeginsBy from o → x.position ≤ last
            → piece_met from x.position o ≡ piece_met from to o
        same_met None begins upto_it = refl
        same_met (Some piece) begins upto_it =
            ap (λ (b : Bool). cond (b && nat_lt from (piece_end piece)) (piece ∷ []) [])
            (lt-ltb piece.position x.position (omega (arith, begins, behind))
            ∙ sym (lt-ltb piece.position to (omega (arith, begins, upto, is))))

        begins_by : (o : Option Piece) (ps : List Piece) → BeginsBy from o → BeginsBy from (last_begun o from ps)
        begins_by o [] begins = begins
        begins_by o (p ∷ ps) begins = elim (cases_lt from p.position) [
          | inl past ↦
              subst (λ (r : Option Piece). BeginsBy from r)
              (sym (ap (λ (b : Bool). last_begun (if b then Some p else o) from ps) (lt-leb p.position from past)))
              (begins_by o ps begins)
          | inr before ↦
              subst (λ (r : Option Piece). BeginsBy from r) (sym (takes_next from o p ps before))
              (begins_by (Some p) ps before)
        ]
