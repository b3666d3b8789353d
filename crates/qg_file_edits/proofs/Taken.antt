-- What a clone takes of a source, and where it puts it. Positions and lengths are in bytes.
use Rattle.std.proofs.Common.{◌≡◌, ℕ, ◌+◌, ◌-◌, ◌^◌, ◌<◌, ◌≤◌, Bool, true, false, max, min, List, [], ◌∷◌, length, map}
use Rattle.std.proofs.Common.{Option, Some, None, arith, refl, sym, ap, subst, ◌∙◌}
use Rattle.std.specs.Prelude.{◌&&◌, nat_lt, if◌then◌else◌}
use Rattle.std.specs.Bool.{then_some}
use Rattle.std.specs.List.{All, AllByRecursion, cons_option}
use Rattle.std.proofs.lemmas.Bool.{le-ltb, ltb-false}
use Rattle.std.proofs.lemmas.List.Elements.{All-from_recursion, All-map, All-nil, All-weaker}
use Rattle.std.proofs.lemmas.List.Sums.{length-filter}
use Rattle.qg_num.specs.declared.piece.Piece.{Piece}
use Rattle.qg_image.specs.declared.file.File.{File}
use Rattle.qg_image.specs.FilesOf.{are_pieces, is_aligned, largest_size, piece_end}
use Rattle.qg_image.specs.Table.{value_at}
use Rattle.qg_image.proofs.Pieces.{WholeFile-is_file}
use Rattle.qg_machine.specs.FileChange.{after, before, moved, part_after, part_before, pieces_meeting, pieces_or_none}
use Rattle.qg_machine.specs.FileChange.{within}
use Rattle.qg_tree_items.specs.Writable.{AreWritableFiles, IsFileBy, IsPlaced, IsWritableFile}
use Rattle.qg_files.specs.Apart.{AreApart, AreApartFrom}
use Rattle.qg_files.proofs.Kept.{are_pieces-moved, are_pieces-within, no_pieces}
use Rattle.qg_files.proofs.KeptApart.{apart-within_from, ends-within}
use Rattle.qg_files.proofs.Order.{all_begin_from}
use Rattle.qg_file_edits.specs.PiecesWritten.{pieces_met}
use Rattle.qg_files.proofs.Sectors.{aligned-add}
use Rattle.qg_file_edits.specs.Files.{pieces_of}
use Rattle.qg_file_edits.proofs.Extents.{IsOfNamed}
use Rattle.qg_file_edits.proofs.Files.{file-found}
use Rattle.qg_file_edits.proofs.Parts.{all-within}

-- ---- over any disk

moved_apart : (from len off low : ℕ) (pieces : List Piece) → off + len ≤ largest_size → from ≤ low
    → AreApartFrom low pieces → AllByRecursion (λ piece. piece_end piece ≤ from + len) pieces
    → AreApartFrom (low - from + off) (map (moved from off) pieces)
unfolding AreApartFrom
moved_apart from len off low [] near order apart ends = tt
moved_apart from len off low (piece ∷ pieces) near order apart ends =
    let first = apart.0 in
    let sizes = apart.1 in
    let some = sizes.some in
    let end = ends.0 in
    let later = moved_apart from len off (piece_end piece) pieces near (omega (arith, first, order)) apart.2 ends.1 in
    let place : piece_end piece - from + off ≡ piece_end (moved from off piece) = omega (arith, first, order) in (
      omega (arith, first, order),
      record { some = some; within = omega (arith, end, near, first, order); in_extent = sizes.in_extent },
      subst (λ (n : ℕ). AreApartFrom n (map (moved from off) pieces)) place later,
    )

module _ (from len off : ℕ) (source : List Piece) (apart : AreApart source) (near : off + len ≤ largest_size) where
  taken_begins : AllByRecursion (λ piece. from ≤ piece.position) (within from (from + len) source)
  taken_begins = all_begin_from from (within from (from + len) source)
      (apart-within_from from (from + len) source apart)

  pub taken-begins : All (λ piece. from ≤ piece.position) (within from (from + len) source)
  taken-begins = All-from_recursion (λ piece. from ≤ piece.position) (within from (from + len) source) taken_begins

  pub taken-near : All (λ piece. piece.position - from + off < 2 ^ 64) (within from (from + len) source)
  taken-near =
      All-from_recursion (λ piece. piece.position - from + off < 2 ^ 64) (within from (from + len) source)
      (each (within from (from + len) source) (ends-within from (from + len) source)) where
        each : (pieces : List Piece) → AllByRecursion (λ piece. piece_end piece ≤ from + len) pieces
            → AllByRecursion (λ piece. piece.position - from + off < 2 ^ 64) pieces
        each [] ends = tt
        each (piece ∷ pieces) ends = (let end = ends.0 in omega (arith, end, near), each pieces ends.1)

  pub given-apart : AreApartFrom off (map (moved from off) (within from (from + len) source))
  given-apart =
      let taken = within from (from + len) source in
      let place : from - from + off ≡ off = omega arith in
      subst (λ (n : ℕ). AreApartFrom n (map (moved from off) taken)) place
      (moved_apart from len off from taken near (omega arith) (apart-within_from from (from + len) source apart)
      (ends-within from (from + len) source))

  pub given-ends : All (λ piece. piece_end piece ≤ off + len) (map (moved from off) (within from (from + len) source))
  given-ends =
      All-map (λ piece. piece_end piece ≤ off + len) (moved from off) (within from (from + len) source)
      (All-from_recursion (λ piece. piece_end (moved from off piece) ≤ off + len) (within from (from + len) source)
      (each (within from (from + len) source) taken_begins (ends-within from (from + len) source))) where
        each : (pieces : List Piece) → AllByRecursion (λ piece. from ≤ piece.position) pieces
            → AllByRecursion (λ piece. piece_end piece ≤ from + len) pieces
            → AllByRecursion (λ piece. piece_end (moved from off piece) ≤ off + len) pieces
        each [] begins ends = tt
        each (piece ∷ pieces) begins ends =
            (let begin = begins.0 in let end = ends.0 in omega (arith, begin, end), each pieces begins.1 ends.1)

-- ---- of the pieces that a range meets, a range has what it has of all

before_same : (to : ℕ) (part : Option Piece) (some others : List Piece) → before to some ≡ before to others
    → before to (cons_option part some) ≡ before to (cons_option part others)
unfolding before
before_same to None some others same = same
before_same to (Some piece) some others same =
    ap (λ (rest : List Piece). cons_option (part_before to piece) rest) same

in_front : (from to : ℕ) (piece : Piece) (pieces : List Piece) → nat_lt from (piece_end piece) ≡ false
    → within from to (piece ∷ pieces) ≡ within from to pieces
unfolding after
in_front from to piece pieces past =
    ap (λ (b : Bool). before to (cons_option (then_some b (record piece {
      position = max from piece.position;
      len = piece_end piece - max from piece.position;
      offset = piece.offset + (max from piece.position - piece.position);
    })) (after from pieces))) past

behind : (from to : ℕ) (piece : Piece) (pieces : List Piece) → nat_lt from (piece_end piece) ≡ true
    → nat_lt piece.position to ≡ false → within from to (piece ∷ pieces) ≡ within from to pieces
unfolding before after
behind from to piece pieces past late =
    let begin = ltb-false piece.position to late in
    let none : nat_lt (max from piece.position) to ≡ false = le-ltb (max from piece.position) to (omega (arith, begin))
    in
    ap (λ (b : Bool). before to (cons_option (then_some b (record piece {
      position = max from piece.position;
      len = piece_end piece - max from piece.position;
      offset = piece.offset + (max from piece.position - piece.position);
    })) (after from pieces))) past
    ∙ ap (λ (b : Bool). cons_option (then_some b (record piece {
      position = max from piece.position;
      len = min (piece_end piece - max from piece.position) (to - max from piece.position);
      offset = piece.offset + (max from piece.position - piece.position);
    })) (within from to pieces)) none

within_one : (from to : ℕ) (a b : Bool) (piece : Piece) (pieces met : List Piece) → nat_lt piece.position to ≡ a
    → nat_lt from (piece_end piece) ≡ b → within from to met ≡ within from to pieces
    → within from to (if a && b then piece ∷ met else met) ≡ within from to (piece ∷ pieces)
unfolding after
within_one from to true true piece pieces met low past later =
    before_same to (part_after from piece) (after from met) (after from pieces) later
within_one from to true false piece pieces met low past later = later ∙ sym (in_front from to piece pieces past)
within_one from to false true piece pieces met low past later = later ∙ sym (behind from to piece pieces past low)
within_one from to false false piece pieces met low past later = later ∙ sym (in_front from to piece pieces past)

pub within-met : (from to : ℕ) (pieces : List Piece) → within from to (pieces_met from to pieces)
    ≡ within from to pieces
within-met from to [] = refl
within-met from to (piece ∷ pieces) =
    within_one from to (nat_lt piece.position to) (nat_lt from (piece_end piece)) piece pieces (pieces_met from to
    pieces)
    refl refl (within-met from to pieces)

part_few : (part : Option Piece) (rest : List Piece) → length (cons_option part rest) ≤ length rest + 1
part_few None rest = omega arith
part_few (Some piece) rest = omega arith

pub before_few : (to : ℕ) (pieces : List Piece) → length (before to pieces) ≤ length pieces
unfolding before
before_few to [] = omega arith
before_few to (piece ∷ pieces) =
    let one = part_few (part_before to piece) (before to pieces) in
    let later = before_few to pieces in
    omega (arith, one, later)

pub after_few : (from : ℕ) (pieces : List Piece) → length (after from pieces) ≤ length pieces
unfolding after
after_few from [] = omega arith
after_few from (piece ∷ pieces) =
    let one = part_few (part_after from piece) (after from pieces) in
    let later = after_few from pieces in
    omega (arith, one, later)

-- no more are taken than the range meets
pub taken-few : (from to : ℕ) (pieces : List Piece) → length (within from to pieces) ≤ pieces_meeting from to pieces
taken-few from to pieces =
    let met = pieces_met from to pieces in
    let same = ap (λ (xs : List Piece). length xs) (within-met from to pieces) in
    let first = before_few to (after from met) in
    let second = after_few from met in
    let count : length met ≡ pieces_meeting from to pieces =
    length-filter (λ (piece : Piece). nat_lt piece.position to && nat_lt from (piece_end piece)) pieces in
    omega (arith, same, first, second, count)

-- ---- where files are told

-- what is given in a range of a file may be given there
pub record IsGiven (generation from to : ℕ) (given : List Piece) : Type 0 where
  pub sound : are_pieces from to given ≡ true
  pub placed : All IsPlaced given
  pub stamped : All (λ piece. piece.stamp ≤ generation) given

module _ (generation source from len off : ℕ) (files : List (ℕ × File)) (are : AreWritableFiles files)
    (by : All (IsFileBy generation) files) (aligned : is_aligned from ≡ true) (len_aligned : is_aligned len ≡ true)
    (off_aligned : is_aligned off ≡ true) where
  -- pieces of one file in a range
  IsTakenOf : List Piece → Type 0
  IsTakenOf pieces = IsGiven generation from (from + len) (within from (from + len) pieces)

  taken_of : (found : Option File) → value_at source files ≡ found → IsTakenOf (pieces_or_none found)
  unfolding IsTakenOf before after
  taken_of None none = record {
    sound = no_pieces from (from + len) (omega arith);
    placed = All-nil IsPlaced;
    stamped = All-nil (λ (piece : Piece). piece.stamp ≤ generation);
  }
  taken_of (Some file) there =
      let writable = file-found IsWritableFile source file files there are.each in
      let file_by = file-found (IsFileBy generation) source file files there by in
      let Stamped : Piece → Type 0 = λ piece. piece.stamp ≤ generation in
      let whole = WholeFile-is_file file writable.sound in
      record {
        sound = are_pieces-within file.size from (from + len) file.pieces aligned
            (aligned-add from len aligned len_aligned) (omega arith) whole.pieces;
        placed = all-within IsPlaced
            (λ piece position len' offset is. record { address = is.address; bytes = is.bytes }) from (from + len)
            file.pieces writable.placed;
        stamped = all-within Stamped (λ piece position len' offset is. is) from (from + len) file.pieces
            file_by.stamped;
      }

  -- moved to the range that they are given
  pub given-sound : IsGiven generation off (off + len)
      (map (moved from off) (within from (from + len) (pieces_of source files)))
  unfolding IsTakenOf
  given-sound =
      let taken = within from (from + len) (pieces_of source files) in
      let is = taken_of (value_at source files) refl in
      let Stamped : Piece → Type 0 = λ piece. piece.stamp ≤ generation in
      record {
        sound = are_pieces-moved from len off taken aligned off_aligned is.sound;
        placed = All-map IsPlaced (moved from off) taken
            (All-weaker IsPlaced (λ piece. IsPlaced (moved from off piece))
            (λ piece placed. record { address = placed.address; bytes = placed.bytes }) taken is.placed);
        stamped = All-map Stamped (moved from off) taken is.stamped;
      }

  -- they name extents that are named, where the file's pieces do
  pub given-named : (names : List (ℕ × Piece)) → All (IsOfNamed names) (pieces_of source files)
      → All (IsOfNamed names) (map (moved from off) (within from (from + len) (pieces_of source files)))
  given-named names all =
      let known = IsOfNamed names in
      let taken = within from (from + len) (pieces_of source files) in
      All-map known (moved from off) taken
      (all-within known (λ piece position len' offset is. is) from (from + len) (pieces_of source files) all)
