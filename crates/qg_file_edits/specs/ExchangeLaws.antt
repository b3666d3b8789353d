-- What exchanges of a file's pieces make of items, names and sums (this project's own).
--
-- Positions, lengths and sizes are in bytes.
use Rattle.std.specs.Prelude.{◌≡◌, ℕ, ◌+◌, ◌^◌, ◌<◌, ◌≤◌, List, [], ◌++◌, map, length, Some, None, IsTrue, Contains}
use Rattle.std.specs.List.{All, flat_map}
use Rattle.std.specs.List.Sorted.{IsPermutation, IsStrictlyIncreasing}
use Rattle.qg_num.specs.declared.piece.Piece.{Piece}
use Rattle.qg_node.specs.declared.item.Item.{Item}
use Rattle.qg_items.specs.declared.extent.Reference.{Reference}
use Rattle.qg_image.specs.declared.file.File.{File}
use Rattle.qg_image.specs.FilesOf.{are_pieces, pieces_bytes}
use Rattle.qg_image.specs.Table.{keys_of, value_at, with_value, without_key as without_value}
use Rattle.qg_machine.specs.FileChange.{before, moved, pieces_meeting, pieces_or_none, pieces_past, with_pieces}
use Rattle.qg_machine.specs.FileChange.{with_range, with_size, within}
use Rattle.qg_image.specs.Reach.{extent_of}
use Rattle.qg_tree_items.specs.Writable.{AreWritableFiles, IsFileBy, IsWritableFile}
use Rattle.qg_root_items.specs.Written.{items_of_file}
use Rattle.qg_fs_tree.specs.Standing.{names_times}
use Rattle.qg_inodes.specs.PiecesWritten.{pieces_cut, pieces_met}
use Rattle.qg_file_edits.specs.declared.step.Step.{Step}
use Rattle.qg_file_edits.specs.Steps.{AreSteps, AscendByPosition}
use Rattle.qg_file_edits.specs.Applying.{CanExchange, MakesExchange}
use Rattle.qg_file_edits.specs.Exchange.{IsExchange}
use Rattle.qg_file_edits.specs.Named.{AreNamesExchanged, named, names_by, names_of}

-- ---- steps

-- where pieces can be exchanged, the steps between them make the exchange
abbrev pub StepsExchange : Type 0
StepsExchange = (ino : ℕ) (gone put : List Piece) (steps : List Step) (items : List Item)
    → CanExchange ino gone put items
    → AreSteps gone put steps → MakesExchange ino gone put steps items

-- ---- which exchanges file commands make

-- a range of a file gets other pieces: those that it meets go, and what rests of them comes with those given
abbrev pub RangeIsExchanged : Type 0
RangeIsExchanged = (from to size : ℕ) (given old : List Piece) → IsTrue (are_pieces from to given)
    → IsTrue (are_pieces 0 size old)
    → let met = pieces_met from to old in
    IsExchange old (with_range from to given old) met (with_range from to given met)

-- a file is cut to a size: the pieces that end past it go, and what rests of them comes
abbrev pub CutIsExchanged : Type 0
CutIsExchanged = (by size : ℕ) (old : List Piece) → IsTrue (are_pieces 0 size old)
    → let cut = pieces_cut by old in IsExchange old (before by old) cut (before by cut)

-- a file is made: all its pieces come
abbrev pub AllIsPut : Type 0
AllIsPut = (from to : ℕ) (given : List Piece)
    → IsExchange [] (with_range from to given []) [] given

-- a file is taken out: all its pieces go
abbrev pub AllIsGone : Type 0
AllIsGone = (old : List Piece) → IsExchange old [] old []

-- ---- which can be made

-- of files that can be written, an exchange that leaves pieces which ascend can be made
abbrev pub ExchangesCanBeMade : Type 0
ExchangesCanBeMade = (ino : ℕ) (new gone put : List Piece) (files : List (ℕ × File)) → AreWritableFiles files
    → IsExchange (pieces_or_none (value_at ino files)) new gone put → AscendByPosition new
    → CanExchange ino gone put (flat_map items_of_file files)

-- so it is where a range of a file gets other pieces
abbrev pub RangeCanBeMade : Type 0
RangeCanBeMade =
    (generation ino from to : ℕ) (given : List Piece) (old : File) (files : List (ℕ × File)) → AreWritableFiles files
    → value_at ino files ≡ Some old → IsTrue (are_pieces from to given)
    → IsWritableFile (ino, with_pieces generation from to given old)
    → let met = pieces_met from to old.pieces in
    CanExchange ino met (with_range from to given met) (flat_map items_of_file files)

-- where a file is cut to a size, or gets a greater one
abbrev pub SizeCanBeMade : Type 0
SizeCanBeMade =
    (generation ino size : ℕ) (old : File) (files : List (ℕ × File)) → AreWritableFiles files
    → value_at ino files ≡ Some old → IsWritableFile (ino, with_size generation size old)
    → let cut = pieces_cut size old.pieces in
    CanExchange ino cut (before size cut) (flat_map items_of_file files)

-- where a file is made
abbrev pub FileCanBeMade : Type 0
FileCanBeMade =
    (ino : ℕ) (file : File) (files : List (ℕ × File)) → AreWritableFiles files → IsWritableFile (ino, file)
    → value_at ino files ≡ None → CanExchange ino [] file.pieces (flat_map items_of_file files)

-- where a file is taken out
abbrev pub FileCanGo : Type 0
FileCanGo =
    (ino : ℕ) (old : File) (files : List (ℕ × File)) → AreWritableFiles files → value_at ino files ≡ Some old
    → CanExchange ino old.pieces [] (flat_map items_of_file files)

-- ---- how many steps

-- no more than pieces that go and pieces that come
abbrev pub StepsAreFew : Type 0
StepsAreFew = (gone put : List Piece) (steps : List Step) → AreSteps gone put steps
    → length steps ≤ length gone + length put

-- of a range, what rests in front of it keeps its position, and what rests behind it stands at its end
abbrev pub RangeStepsAreFew : Type 0
RangeStepsAreFew = (from to : ℕ) (given old : List Piece) (steps : List Step)
    → let met = pieces_met from to old in
    AreSteps met (with_range from to given met) steps
    → length steps ≤ pieces_meeting from to old + length given + 1

-- of a cut, what rests keeps its position
abbrev pub CutStepsAreFew : Type 0
CutStepsAreFew = (size : ℕ) (old : List Piece) (steps : List Step)
    → let cut = pieces_cut size old in AreSteps cut (before size cut) steps
    → length steps ≤ pieces_past size old

-- ---- names

-- the items of files that can be written, and that tell no generation past one that fits its field, tell the pieces of
-- these files, in their order
abbrev pub NamesAreThoseOfPieces : Type 0
NamesAreThoseOfPieces = (generation : ℕ) (files : List (ℕ × File)) → generation < 2 ^ 64 → AreWritableFiles files
    → All (IsFileBy generation) files → named files ≡ names_by files

-- where pieces of a file are exchanged, or those of one that is made are put in, so are the names
abbrev pub ExchangesNames : Type 0
ExchangesNames =
    (ino : ℕ) (new : File) (gone put : List Piece) (files : List (ℕ × File)) → IsStrictlyIncreasing (keys_of files)
    → IsExchange (pieces_or_none (value_at ino files)) new.pieces gone put
    → AreNamesExchanged (names_by files) (names_by (with_value ino new files)) (names_of ino gone) (names_of ino put)

-- where a file is taken out, its names go
abbrev pub RemovesNames : Type 0
RemovesNames =
    (ino : ℕ) (old : File) (files : List (ℕ × File)) → IsStrictlyIncreasing (keys_of files)
    → value_at ino files ≡ Some old
    → AreNamesExchanged (names_by files) (names_by (without_value ino files)) (names_of ino old.pieces) []

-- ---- extents

-- each of these pieces names, whole, an extent that one of those names
abbrev pub NameExtentsOf : List Piece → List Piece → Type 0
NameExtentsOf those these = All (λ piece. Contains (map extent_of those) (extent_of piece)) these

-- what rests beside a range names extents of what met it
abbrev pub RangeRestsNameExtents : Type 0
RangeRestsNameExtents = (from to : ℕ) (met : List Piece) → NameExtentsOf met (with_range from to [] met)

-- what rests in front of a size names extents of what ended past it
abbrev pub CutRestsNameExtents : Type 0
CutRestsNameExtents = (size : ℕ) (cut : List Piece) → NameExtentsOf cut (before size cut)

-- what lies in a range names extents of the file
abbrev pub PartsNameExtents : Type 0
PartsNameExtents = (from to : ℕ) (pieces : List Piece) → NameExtentsOf pieces (within from to pieces)

-- a piece that is moved names the same extent
abbrev pub MovedNamesExtent : Type 0
MovedNamesExtent = (from to : ℕ) (piece : Piece) → extent_of (moved from to piece) ≡ extent_of piece

-- ---- how often a reference is there

-- each piece has a sector at least, and ends by 2^40
abbrev pub PiecesAreFew : Type 0
PiecesAreFew = (file : ℕ × File) → IsWritableFile file → length file.1.pieces ≤ 268435456

-- a name of one file is none of another
abbrev pub NamesAreFew : Type 0
NamesAreFew = (owner : ℕ) (files : List (ℕ × File)) → AreWritableFiles files → (at : ℕ) (reference : Reference)
    → names_times owner (names_by files) at reference ≤ 268435456

-- a reference is named no more often than there are names
abbrev pub NamesCountOnce : Type 0
NamesCountOnce = (owner : ℕ) (names : List (ℕ × Piece)) (at : ℕ) (reference : Reference)
    → names_times owner names at reference ≤ length names

-- the names of two lists count together
abbrev pub NamesAdd : Type 0
NamesAdd = (owner : ℕ) (some others : List (ℕ × Piece)) (at : ℕ) (reference : Reference)
    → names_times owner (some ++ others) at reference
    ≡ names_times owner some at reference + names_times owner others at reference

-- names count the same in any order
abbrev pub NamesInAnyOrder : Type 0
NamesInAnyOrder = (owner : ℕ) (some others : List (ℕ × Piece)) → IsPermutation some others
    → (at : ℕ) (reference : Reference)
    → names_times owner others at reference ≡ names_times owner some at reference

-- ---- sums

-- the bytes of what goes and of what comes make the difference
abbrev pub SumsAreExchanged : Type 0
SumsAreExchanged = (old new gone put : List Piece) → IsExchange old new gone put
    → pieces_bytes new + pieces_bytes gone ≡ pieces_bytes old + pieces_bytes put
