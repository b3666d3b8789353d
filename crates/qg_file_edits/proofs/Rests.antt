-- What rests of pieces names the extents that they name.
use Rattle.std.proofs.Common.{ℕ, List, [], ◌∷◌, ◌++◌, map, inl, inr}
use Rattle.std.specs.Prelude.{Contains, nat_lt}
use Rattle.std.specs.List.{AllByRecursion, cons_option}
use Rattle.std.proofs.lemmas.Bool.{cases_Bool}
use Rattle.std.proofs.lemmas.List.Elements.{All-append, All-contains_itself, All-from_recursion, All-nil}
use Rattle.std.proofs.lemmas.List.Elements.{recursion_from_All}
use Rattle.qg_num.specs.declared.piece.Piece.{Piece}
use Rattle.qg_image.specs.FilesOf.{piece_end}
use Rattle.qg_machine.specs.FileChange.{after, before, part_after, part_before, with_range, within}
use Rattle.qg_image.specs.declared.element.Element.{Element}
use Rattle.qg_image.specs.Reach.{extent_of}
use Rattle.qg_file_edits.specs.ExchangeLaws.{NameExtentsOf}

-- whatever is true of the extents of pieces is true of those of their parts
module _ (P : Element → Type 0) where
  abbrev OfExtents : List Piece → Type 0
  OfExtents pieces = AllByRecursion (λ piece. P (extent_of piece)) pieces

  before_one : (to : ℕ) (piece : Piece) (rest : List Piece) → P (extent_of piece) → OfExtents rest
      → OfExtents (cons_option (part_before to piece) rest)
  before_one to piece rest first later = elim (cases_Bool (nat_lt piece.position to)) [
    | inl short ↦ rw short (first, later)
    | inr past ↦ rw past later
  ]

  in_front : (to : ℕ) (pieces : List Piece) → OfExtents pieces → OfExtents (before to pieces)
  unfolding before
  in_front to [] all = tt
  in_front to (piece ∷ pieces) all = before_one to piece (before to pieces) all.0 (in_front to pieces all.1)

  after_one : (from : ℕ) (piece : Piece) (rest : List Piece) → P (extent_of piece) → OfExtents rest
      → OfExtents (cons_option (part_after from piece) rest)
  after_one from piece rest first later = elim (cases_Bool (nat_lt from (piece_end piece))) [
    | inl past ↦ rw past (first, later)
    | inr ends ↦ rw ends later
  ]

  behind : (from : ℕ) (pieces : List Piece) → OfExtents pieces → OfExtents (after from pieces)
  unfolding after
  behind from [] all = tt
  behind from (piece ∷ pieces) all = after_one from piece (after from pieces) all.0 (behind from pieces all.1)

-- ---- the extents that pieces name

abbrev Named : List Piece → Element → Type 0
Named pieces extent = Contains (map extent_of pieces) extent

-- what is true of extents is true of those of the pieces
of_pieces : (P : Element → Type 0) (pieces : List Piece) → AllByRecursion P (map extent_of pieces)
    → AllByRecursion (λ piece. P (extent_of piece)) pieces
of_pieces P [] all = tt
of_pieces P (piece ∷ pieces) all = (all.0, of_pieces P pieces all.1)

-- each piece names one of them
named_itself : (pieces : List Piece) → AllByRecursion (λ piece. Named pieces (extent_of piece)) pieces
named_itself pieces =
    let extents = map extent_of pieces in
    of_pieces (Contains extents) pieces
    (recursion_from_All (Contains extents) extents (All-contains_itself extents))

all_named : (those these : List Piece) → AllByRecursion (λ piece. Named those (extent_of piece)) these
    → NameExtentsOf those these
all_named those these all = All-from_recursion (λ (piece : Piece). Named those (extent_of piece)) these all

pub cut-rests : (size : ℕ) (cut : List Piece) → NameExtentsOf cut (before size cut)
cut-rests size cut = all_named cut (before size cut) (in_front (Named cut) size cut (named_itself cut))

pub range-rests : (from to : ℕ) (met : List Piece) → NameExtentsOf met (with_range from to [] met)
range-rests from to met =
    let P = λ (piece : Piece). Named met (extent_of piece) in
    let front = all_named met (before from met) (in_front (Named met) from met (named_itself met)) in
    let back = all_named met (after to met) (behind (Named met) to met (named_itself met)) in
    All-append P (before from met ++ []) (after to met) (All-append P (before from met) [] front (All-nil P)) back

pub parts-named : (from to : ℕ) (pieces : List Piece) → NameExtentsOf pieces (within from to pieces)
parts-named from to pieces =
    all_named pieces (within from to pieces)
    (in_front (Named pieces) to (after from pieces) (behind (Named pieces) from pieces (named_itself pieces)))
