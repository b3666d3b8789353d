-- The edits of a range of a file, and of its size.
use Rattle.std.proofs.Common.{◌≡◌, ℕ, true, List, [], ◌∷◌, Some, Option, refl, sym, subst, inl, inr, ◌∙◌}
use Rattle.std.specs.Prelude.{IsTrue, ◌==◌}
use Rattle.std.specs.List.{AllByRecursion, flat_map}
use Rattle.std.proofs.lemmas.Bool.{cases_Bool, eqb-true}
use Rattle.std.proofs.lemmas.List.Elements.{recursion_from_All}
use Rattle.std.proofs.lemmas.Option.{none-some, same_Some}
use Rattle.qg_num.specs.declared.piece.Piece.{Piece}
use Rattle.qg_image.specs.declared.file.File.{File}
use Rattle.qg_image.specs.FilesOf.{are_pieces, is_aligned}
use Rattle.qg_image.specs.Table.{value_at, with_value}
use Rattle.qg_image.proofs.Pieces.{WholeFile-is_file}
use Rattle.qg_machine.specs.FileChange.{before, pieces_or_none, with_pieces, with_range, with_size}
use Rattle.qg_files.proofs.Kept.{are_pieces-before, are_pieces-with_range}
use Rattle.qg_tree_items.specs.Writable.{AreWritableFiles, IsWritableFile}
use Rattle.qg_root_items.specs.Written.{items_of_file}
use Rattle.qg_inodes.specs.FileEdits.{AreExchanged, file_edited}
use Rattle.qg_inodes.specs.PiecesWritten.{pieces_cut, pieces_met}
use Rattle.qg_inodes.proofs.Exchanged.{exchanges}
use Rattle.qg_inodes.proofs.MetPieces.{cut-exchanged, filter-are, range-exchanged}

-- what is true of all files is true of the one with a number
found_file : (P : ℕ × File → Type 0) (ino : ℕ) (old : File) (files : List (ℕ × File)) → value_at ino files ≡ Some old
    → AllByRecursion P files → P (ino, old)
found_file P ino old [] is all = absurd (none-some old is)
found_file P ino old (file ∷ files) is all = elim (cases_Bool (file.0 == ino)) [
  | inl here ↦
      let number = eqb-true file.0 ino here in
      let same : file.1 ≡ old = same_Some file.1 old (sym (rw here refl) ∙ is) in
      subst (λ (f : File). P (ino, f)) same (subst (λ (n : ℕ). P (n, file.1)) number all.0)
  | inr later ↦ found_file P ino old files (sym (rw later refl) ∙ is) all.1
]

sound_pieces : (ino : ℕ) (old : File) (files : List (ℕ × File)) → AreWritableFiles files → value_at ino files ≡ Some old
    → are_pieces 0 old.size old.pieces ≡ true
sound_pieces ino old files are there =
    let found = found_file IsWritableFile ino old files there (recursion_from_All IsWritableFile files are.each) in
    (WholeFile-is_file old found.sound).pieces

pub edits-range : (generation ino from to : ℕ) (given : List Piece) (old : File) (files : List (ℕ × File))
    → AreWritableFiles files
    → value_at ino files ≡ Some old → IsTrue (is_aligned from) → IsTrue (is_aligned to)
    → IsTrue (are_pieces from to given)
    → IsWritableFile (ino, with_pieces generation from to given old)
    → file_edited ino (with_pieces generation from to given old) (pieces_met from to old.pieces)
    (with_range from to given (pieces_met from to old.pieces)) (flat_map items_of_file files)
    ≡ flat_map items_of_file (with_value ino (with_pieces generation from to given old) files)
edits-range generation ino from to given old files are there from_aligned to_aligned given_are new_is =
    let new = with_pieces generation from to given old in
    let met = pieces_met from to old.pieces in
    let put = with_range from to given met in
    let old_are = sound_pieces ino old files are there in
    let met_are = filter-are _ 0 old.size old.pieces old_are in
    let put_are = are_pieces-with_range old.size from to given met from_aligned to_aligned given_are met_are in
    let exchanged = range-exchanged from to old.size given old.pieces given_are old_are in
    exchanges ino new met put files are new_is put_are
    (subst (λ (found : Option File). AreExchanged met put (pieces_or_none found) new.pieces) (sym there) exchanged)

pub edits-size : (generation ino size : ℕ) (old : File) (files : List (ℕ × File)) → AreWritableFiles files
    → value_at ino files ≡ Some old → IsTrue (is_aligned size) → IsWritableFile (ino, with_size generation size old)
    → file_edited ino (with_size generation size old) (pieces_cut size old.pieces)
    (before size (pieces_cut size old.pieces))
    (flat_map items_of_file files)
    ≡ flat_map items_of_file (with_value ino (with_size generation size old) files)
edits-size generation ino size old files are there aligned new_is =
    let new = with_size generation size old in
    let cut = pieces_cut size old.pieces in
    let old_are = sound_pieces ino old files are there in
    let cut_are = filter-are _ 0 old.size old.pieces old_are in
    let put_are = are_pieces-before old.size size cut aligned cut_are in
    let exchanged = cut-exchanged size old.size old.pieces old_are in
    exchanges ino new cut (before size cut) files are new_is put_are
    (subst (λ (found : Option File). AreExchanged cut (before size cut) (pieces_or_none found) new.pieces)
    (sym there) exchanged)
