-- What stands under the keys of one file whose pieces are known by position.
use Rattle.std.proofs.Common.{◌≡◌, ℕ, List, Some, refl, ap, ◌∙◌}
use Rattle.std.specs.Prelude.{IsTrue}
use Rattle.std.specs.List.{flat_map}
use Rattle.std.specs.List.Sorted.{IsStrictlyIncreasing}
use Rattle.std.specs.Option.{option_map}
use Rattle.std.proofs.lemmas.Bool.{eq-eqb}
use Rattle.qg_num.specs.declared.piece.Piece.{Piece}
use Rattle.qg_image.specs.declared.file.File.{File}
use Rattle.qg_image.specs.FilesOf.{are_pieces}
use Rattle.qg_image.specs.Table.{keys_of, with_value}
use Rattle.qg_machine.specs.FileChange.{with_pieces, with_size}
use Rattle.qg_tree_items.specs.Keys.{key_with}
use Rattle.qg_root_items.specs.Written.{items_of_file}
use Rattle.qg_tree_read.specs.Reading.{body_at}
use Rattle.qg_inodes.specs.Bodies.{inode_body, piece_at, piece_body}
use Rattle.qg_inodes.specs.FileItemsLaws.{HasCutBodies, HasRangeBodies}
use Rattle.qg_inodes.proofs.OneFile.{body-with_file}
use Rattle.qg_inodes.proofs.PiecesByPosition.{at-cut, at-range}

module _ (ino : ℕ) (file : File) (files : List (ℕ × File)) (up : IsStrictlyIncreasing (keys_of files)) where
  under_inode : body_at (key_with ino 1 0) (flat_map items_of_file (with_value ino file files)) ≡ Some (inode_body file)
  under_inode = body-with_file ino files up (key_with ino 1 0) file ∙ rw (eq-eqb ino ino refl) refl

  under_piece : (position : ℕ) → body_at (key_with ino 108 position)
      (flat_map items_of_file (with_value ino file files))
      ≡ option_map piece_body (piece_at position file.pieces)
  under_piece position = body-with_file ino files up (key_with ino 108 position) file ∙ rw (eq-eqb ino ino refl) refl

pub range-bodies : (generation ino from to : ℕ) (given : List Piece) (old : File) (files : List (ℕ × File))
    → IsStrictlyIncreasing (keys_of files) → IsTrue (are_pieces from to given)
    → HasRangeBodies ino from to given old (with_pieces generation from to given old)
    (flat_map items_of_file (with_value ino (with_pieces generation from to given old) files))
range-bodies generation ino from to given old files up are =
    let new = with_pieces generation from to given old in
    record {
      inode = under_inode ino new files up;
      pieces = λ position.
          under_piece ino new files up position
          ∙ ap (option_map piece_body) (at-range from to given old.pieces position are);
    }

pub cut-bodies : (generation ino size : ℕ) (old : File) (files : List (ℕ × File)) → IsStrictlyIncreasing (keys_of files)
    → HasCutBodies ino size old (with_size generation size old)
    (flat_map items_of_file (with_value ino (with_size generation size old) files))
cut-bodies generation ino size old files up =
    let new = with_size generation size old in
    record {
      inode = under_inode ino new files up;
      pieces =
          λ position. under_piece ino new files up position
          ∙ ap (option_map piece_body) (at-cut size old.pieces position);
    }
