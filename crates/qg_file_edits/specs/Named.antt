-- Which pieces of files name extents (this project's own).
use Rattle.std.specs.Prelude.{ℕ, List, ◌++◌, map}
use Rattle.std.specs.List.{filter_map, flat_map}
use Rattle.std.specs.List.Sorted.{IsPermutation}
use Rattle.qg_num.specs.declared.piece.Piece.{Piece}
use Rattle.qg_image.specs.declared.file.File.{File}
use Rattle.qg_root_items.specs.Written.{items_of_file}
use Rattle.qg_fs_tree.specs.Standing.{name_told}

-- pieces, each with the number of its file
abbrev pub names_of : ℕ → List Piece → List (ℕ × Piece)
names_of ino pieces = map (λ piece. (ino, piece)) pieces

-- those of all files
abbrev pub names_by : List (ℕ × File) → List (ℕ × Piece)
names_by files = flat_map (λ file. names_of file.0 file.1.pieces) files

-- those that the items of files tell
abbrev pub named : List (ℕ × File) → List (ℕ × Piece)
named files = filter_map name_told (flat_map items_of_file files)

-- some of these go, and others come; the rest stays
pub record AreNamesExchanged (old new gone put : List (ℕ × Piece)) : Type 0 where
  pub rest : List (ℕ × Piece)
  pub was : IsPermutation old (gone ++ rest)
  pub is : IsPermutation new (put ++ rest)
