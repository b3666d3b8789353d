-- In the items of files that can be written, exchanges of a stretch can be made.
use Rattle.std.proofs.Common.{◌≡◌, ℕ, ◌+◌, List, [], ◌∷◌, ◌++◌, Some, None, refl, sym, ap, subst, ◌∙◌, arith, inl, inr}
use Rattle.std.specs.Prelude.{Option, IsSome, IsTrue, is_some}
use Rattle.std.specs.List.{flat_map}
use Rattle.std.specs.Option.{option_and_then, option_map}
use Rattle.std.proofs.lemmas.Bool.{cases_eq}
use Rattle.std.proofs.lemmas.List.{append-nil, map-append}
use Rattle.qg_num.specs.declared.piece.Piece.{Piece}
use Rattle.qg_image.specs.declared.file.File.{File}
use Rattle.qg_image.specs.FilesOf.{are_pieces}
use Rattle.qg_image.specs.ItemMeaning.{◌orelse◌}
use Rattle.qg_image.specs.Table.{value_at}
use Rattle.qg_image.proofs.Pieces.{WholeFile-is_file}
use Rattle.qg_machine.specs.FileChange.{before, pieces_or_none, with_pieces, with_range, with_size}
use Rattle.qg_tree_items.specs.Writable.{AreWritableFiles, IsWritableFile}
use Rattle.qg_root_items.specs.Written.{items_of_file}
use Rattle.qg_tree_read.specs.Reading.{body_at}
use Rattle.qg_inodes.specs.Bodies.{body_in_file, piece_at, piece_body}
use Rattle.qg_inodes.specs.PiecesWritten.{pieces_cut, pieces_met}
use Rattle.qg_inodes.proofs.FileBodies.{body-files}
use Rattle.qg_inodes.proofs.Numbers.{files-ascend}
use Rattle.qg_inodes.proofs.PiecesByPosition.{at-append, at-later}
use Rattle.qg_file_edits.specs.Steps.{AscendByPosition}
use Rattle.qg_file_edits.specs.Applying.{CanExchange, key_at}
use Rattle.qg_file_edits.specs.Exchange.{IsExchange}
use Rattle.qg_file_edits.proofs.Ascending.{AscendFrom, AscendFrom-increasing, ascend-back, ascend-front}
use Rattle.qg_file_edits.proofs.Ascending.{increasing-AscendFrom}
use Rattle.qg_file_edits.proofs.Positions.{none-in_front, not-some, positions, whole-ascend}
use Rattle.qg_file_edits.proofs.Stretches.{all-gone, cut-exchanged, range-exchanged}
use Rattle.qg_file_edits.proofs.PieceTables.{sound-pieces}

-- ---- parts of pieces whose positions ascend

positions-append : (front back : List Piece) → positions (front ++ back) ≡ positions front ++ positions back
positions-append front back = map-append (λ (piece : Piece). piece.position) front back

module _ (from : ℕ) (front back : List Piece) (ascend : AscendFrom from (positions (front ++ back))) where
  both : AscendFrom from (positions front ++ positions back)
  both = subst (AscendFrom from) (positions-append front back) ascend

  front-ascends : AscendFrom from (positions front)
  front-ascends = ascend-front from (positions front) (positions back) both

  back-ascends : AscendFrom from (positions back)
  back-ascends = ascend-back from (positions front) (positions back) both

-- where a piece stands among those behind, none stands at its position among those in front
none-front : (from position : ℕ) (front back : List Piece) → AscendFrom from (positions (front ++ back))
    → IsSome (piece_at position back) → piece_at position front ≡ None
unfolding AscendFrom
none-front from position [] back ascend there = refl
none-front from position (piece ∷ front) back ascend there = elim (cases_eq piece.position position) [
  | inl same ↦
      let behind = back-ascends (piece.position + 1) front back ascend.1 in
      let none = none-in_front (piece.position + 1) position back behind (omega (arith, same)) in
      absurd (not-some (piece_at position back) none there)
  | inr differ ↦
      at-later position piece front differ ∙ none-front (piece.position + 1) position front back ascend.1 there
]

-- and the other way round
none-back : (from position : ℕ) (front back : List Piece) → AscendFrom from (positions (front ++ back))
    → IsSome (piece_at position front) → piece_at position back ≡ None
none-back from position front back ascend there = back_at (piece_at position back) refl where
  back_at : (o : Option Piece) → piece_at position back ≡ o → piece_at position back ≡ None
  back_at None is = is
  back_at (Some piece) is =
      let none = none-front from position front back ascend (ap is_some is) in
      absurd (not-some (piece_at position front) none there)

-- ---- the piece at a position, of three parts

module _ (position : ℕ) (front middle back : List Piece) where
  in-three : piece_at position ((front ++ middle) ++ back)
      ≡ ((piece_at position front orelse piece_at position middle) orelse piece_at position back)
  in-three =
      at-append position (front ++ middle) back
      ∙ ap (λ (o : Option Piece). o orelse piece_at position back) (at-append position front middle)

some_first : (a b : Option Piece) → IsSome a → IsSome (a orelse b)
some_first (Some piece) b there = refl
some_first None b there = absurd cc

some_second : (a b : Option Piece) → IsSome b → IsSome (a orelse b)
some_second (Some piece) b there = refl
some_second None b there = there

-- ---- what stands in the items of files

body_of_pieces : (position : ℕ) (found : Option File)
    → option_and_then (body_in_file 108 position) found
    ≡ option_map piece_body (piece_at position (pieces_or_none found))
body_of_pieces position None = refl
body_of_pieces position (Some file) = refl

some-map : (o : Option Piece) → IsSome o → IsSome (option_map piece_body o)
some-map None there = absurd cc
some-map (Some piece) there = refl

-- ---- an exchange

module _ (ino : ℕ) (new gone put : List Piece) (files : List (ℕ × File)) (are : AreWritableFiles files)
    (exchange : IsExchange (pieces_or_none (value_at ino files)) new gone put) (up : AscendByPosition new) where
  abbrev old : List Piece
  old = pieces_or_none (value_at ino files)

  old_ascend : (found : Option File) → value_at ino files ≡ found → AscendFrom 0 (positions (pieces_or_none found))
  unfolding AscendFrom
  old_ascend None is = tt
  old_ascend (Some file) is = whole-ascend 0 file.size file.pieces (sound-pieces ino file files are is)

  -- three parts, before and then
  was : AscendFrom 0 (positions ((exchange.front ++ gone) ++ exchange.back))
  was =
      subst (λ (pieces : List Piece). AscendFrom 0 (positions pieces)) exchange.was
      (old_ascend (value_at ino files) refl)

  is : AscendFrom 0 (positions ((exchange.front ++ put) ++ exchange.back))
  is =
      subst (λ (pieces : List Piece). AscendFrom 0 (positions pieces)) exchange.is
      (AscendFrom-increasing (positions new) up)

  is_front : AscendFrom 0 (positions (exchange.front ++ put))
  is_front = front-ascends 0 (exchange.front ++ put) exchange.back is

  gone_ascend : AscendByPosition gone
  gone_ascend =
      increasing-AscendFrom 0 (positions gone)
      (back-ascends 0 exchange.front gone (front-ascends 0 (exchange.front ++ gone) exchange.back was))

  put_ascend : AscendByPosition put
  put_ascend = increasing-AscendFrom 0 (positions put) (back-ascends 0 exchange.front put is_front)

  module _ (position : ℕ) where
    body : body_at (key_at ino position) (flat_map items_of_file files) ≡ option_map piece_body (piece_at position old)
    body =
        body-files files are.ascending (key_at ino position)
        ∙ body_of_pieces position (value_at ino files)

    old_at : piece_at position old
        ≡ ((piece_at position exchange.front orelse piece_at position gone) orelse piece_at position exchange.back)
    old_at = ap (piece_at position) exchange.was ∙ in-three position exchange.front gone exchange.back

    -- what goes stands among the old pieces
    there : IsSome (piece_at position gone) → IsSome (body_at (key_at ino position) (flat_map items_of_file files))
    there some =
        let front = piece_at position exchange.front in
        let back = piece_at position exchange.back in
        let middle : IsSome (front orelse piece_at position gone) = some_second front (piece_at position gone) some in
        let all : IsSome ((front orelse piece_at position gone) orelse back) =
        some_first (front orelse piece_at position gone) back middle
        in
        ap is_some body ∙ some-map (piece_at position old) (ap is_some old_at ∙ all)

    -- where one comes and none goes, there is none
    free : IsSome (piece_at position put) → piece_at position gone ≡ None
        → body_at (key_at ino position) (flat_map items_of_file files) ≡ None
    free some none =
        let no_front = none-front 0 position exchange.front put is_front some in
        let in_front : IsSome (piece_at position (exchange.front ++ put)) =
        ap is_some (at-append position exchange.front put)
        ∙ some_second (piece_at position exchange.front) (piece_at position put) some
        in
        let no_back = none-back 0 position (exchange.front ++ put) exchange.back is in_front in
        let no_old : piece_at position old ≡ None =
        old_at
        ∙ ap (λ (o : Option Piece). (o orelse piece_at position gone) orelse piece_at position exchange.back) no_front
        ∙ ap (λ (o : Option Piece). o orelse piece_at position exchange.back) none
        ∙ no_back
        in
        body ∙ ap (option_map piece_body) no_old

  pub can-exchange : CanExchange ino gone put (flat_map items_of_file files)
  can-exchange = record {
    ascending = files-ascend files are;
    gone_ascend = gone_ascend;
    put_ascend = put_ascend;
    there = there;
    free = free;
  }

-- ---- of file commands

pub pieces-ascend_of : (file : ℕ × File) → IsWritableFile file → AscendByPosition file.1.pieces
pieces-ascend_of file is =
    increasing-AscendFrom 0 (positions file.1.pieces)
    (whole-ascend 0 file.1.size file.1.pieces (WholeFile-is_file file.1 is.sound).pieces)

module _ (ino : ℕ) (new gone put : List Piece) (old : File) (files : List (ℕ × File)) (are : AreWritableFiles files)
    (there : value_at ino files ≡ Some old) where
  can-where : IsExchange old.pieces new gone put → AscendByPosition new
      → CanExchange ino gone put (flat_map items_of_file files)
  can-where exchange up =
      can-exchange ino new gone put files are
      (subst (λ (found : Option File). IsExchange (pieces_or_none found) new gone put) (sym there) exchange) up

pub range-can : (generation ino from to : ℕ) (given : List Piece) (old : File) (files : List (ℕ × File))
    → AreWritableFiles files
    → value_at ino files ≡ Some old → IsTrue (are_pieces from to given)
    → IsWritableFile (ino, with_pieces generation from to given old)
    → CanExchange ino (pieces_met from to old.pieces) (with_range from to given (pieces_met from to old.pieces))
    (flat_map items_of_file files)
range-can generation ino from to given old files are there given_are new_is =
    let met = pieces_met from to old.pieces in
    let sound = sound-pieces ino old files are there in
    can-where ino (with_range from to given old.pieces) met (with_range from to given met) old files are there
    (range-exchanged from to old.size given old.pieces given_are sound)
    (pieces-ascend_of (ino, with_pieces generation from to given old) new_is)

pub size-can : (generation ino size : ℕ) (old : File) (files : List (ℕ × File)) → AreWritableFiles files
    → value_at ino files ≡ Some old → IsWritableFile (ino, with_size generation size old)
    → CanExchange ino (pieces_cut size old.pieces) (before size (pieces_cut size old.pieces))
    (flat_map items_of_file files)
size-can generation ino size old files are there new_is =
    let cut = pieces_cut size old.pieces in
    let sound = sound-pieces ino old files are there in
    can-where ino (before size old.pieces) cut (before size cut) old files are there
    (cut-exchanged size old.size old.pieces sound)
    (pieces-ascend_of (ino, with_size generation size old) new_is)

pub made-can : (ino : ℕ) (file : File) (files : List (ℕ × File)) → AreWritableFiles files → IsWritableFile (ino, file)
    → value_at ino files ≡ None → CanExchange ino [] file.pieces (flat_map items_of_file files)
made-can ino file files are is none =
    let exchange : IsExchange [] file.pieces [] file.pieces =
    record { front = []; back = []; was = refl; is = sym (append-nil file.pieces) }
    in
    can-exchange ino file.pieces [] file.pieces files are
    (subst (λ (found : Option File). IsExchange (pieces_or_none found) file.pieces [] file.pieces) (sym none) exchange)
    (pieces-ascend_of (ino, file) is)

pub removed-can : (ino : ℕ) (old : File) (files : List (ℕ × File)) → AreWritableFiles files
    → value_at ino files ≡ Some old
    → CanExchange ino old.pieces [] (flat_map items_of_file files)
unfolding AscendFrom
removed-can ino old files are there =
    can-where ino [] old.pieces [] old files are there (all-gone old.pieces)
    (increasing-AscendFrom 0 (positions []) tt)
