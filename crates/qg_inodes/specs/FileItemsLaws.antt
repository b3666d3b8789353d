-- What edits of items, one by one, make of a subvolume's files (this project's own).
use Rattle.std.specs.Prelude.{◌≡◌, ℕ, List, [], All, IsTrue, is_some, length, Some, None, if◌then◌else◌}
use Rattle.std.specs.List.{flat_map}
use Rattle.std.specs.List.Sorted.{IsStrictlyIncreasing}
use Rattle.std.specs.Option.{option_map}
use Rattle.qg_num.specs.declared.key.Key.{Key}
use Rattle.qg_num.specs.declared.piece.Piece.{Piece}
use Rattle.qg_num.specs.Fields.{IsBytes}
use Rattle.qg_node.specs.declared.item.Item.{Item}
use Rattle.qg_items.specs.declared.kind.TheConstants.{EXTENT_DATA, INODE_ITEM}
use Rattle.qg_image.specs.declared.file.File.{File}
use Rattle.qg_image.specs.IsShaped.{same_key}
use Rattle.qg_image.specs.FilesOf.{are_pieces, is_aligned, largest_size, AreItemsOfFiles}
use Rattle.qg_image.specs.Table.{keys_of, value_at, with_value, without_key as without_value}
use Rattle.qg_machine.specs.FileChange.{before, pieces_meeting, pieces_or_none, pieces_past}
use Rattle.qg_machine.specs.FileChange.{with_pieces, with_range, with_size}
use Rattle.qg_tree_items.specs.Keys.{key_with}
use Rattle.qg_tree_items.specs.Writable.{AreWritableFiles, IsFileBy, IsWritableFile}
use Rattle.qg_root_items.specs.Written.{items_of_file}
use Rattle.qg_edit.specs.Edits.{has_key, with_item, without_key}
use Rattle.qg_tree_read.specs.Reading.{body_at}
use Rattle.qg_inodes.specs.Bodies.{Ascend, body_in_files, body_with_file, body_without_file, inode_body, piece_at}
use Rattle.qg_inodes.specs.Bodies.{piece_body}
use Rattle.qg_inodes.specs.FileEdits.{AreExchanged, file_edited, without_items}
use Rattle.qg_inodes.specs.PiecesWritten.{piece_at_cut, piece_at_range, pieces_cut, pieces_met}

-- ---- items by their bodies

-- items whose keys ascend are told by what stands under each key
abbrev pub AreTold : Type 0
AreTold = (a b : List Item) → Ascend a → Ascend b → ((key : Key) → body_at key a ≡ body_at key b) → a ≡ b

-- an item stands under a key exactly where it has a body there
abbrev pub HasBody : Type 0
HasBody = (key : Key) (items : List Item) → has_key key items ≡ is_some (body_at key items)

-- once an item is put in, it stands under its key, and what it was under any other; keys go on ascending
pub record IsPutIn (new : Item) (items : List Item) : Type 0 where
  pub bodies : (key : Key) → body_at key (with_item new items)
      ≡ (if same_key new.key key then Some new.body else body_at key items)
  pub ascending : Ascend items → Ascend (with_item new items)

-- so it is for each item
abbrev pub PutsIn : Type 0
PutsIn = (new : Item) (items : List Item) → IsPutIn new items

-- once a key is taken out, nothing stands under it, and what it was under any other; keys go on ascending
pub record IsTakenOut (gone : Key) (items : List Item) : Type 0 where
  pub bodies : (key : Key) → body_at key (without_key gone items)
      ≡ (if same_key gone key then None else body_at key items)
  pub ascending : Ascend items → Ascend (without_key gone items)

-- so it is for each key
abbrev pub TakesOut : Type 0
TakesOut = (gone : Key) (items : List Item) → IsTakenOut gone items

-- ---- the items of files

-- items that are read as files are those that are written for these files, which can be written
pub record AreItemsOf (generation : ℕ) (files : List (ℕ × File)) (items : List Item) : Type 0 where
  pub are : items ≡ flat_map items_of_file files
  pub writable : AreWritableFiles files
  pub by : All (IsFileBy generation) files

-- so it is for items of bytes whose keys ascend
abbrev pub AreSpelled : Type 0
AreSpelled =
    (generation : ℕ) (items : List Item) (files : List (ℕ × File)) → All (λ item. IsBytes item.body) items
    → Ascend items
    → AreItemsOfFiles generation items files → AreItemsOf generation files items

-- their keys ascend
abbrev pub FilesAscend : Type 0
FilesAscend = (files : List (ℕ × File)) → AreWritableFiles files → Ascend (flat_map items_of_file files)

-- under each key stands what the file of its number has there
abbrev pub FilesHaveBodies : Type 0
FilesHaveBodies = (files : List (ℕ × File)) → IsStrictlyIncreasing (keys_of files) → (key : Key)
    → body_at key (flat_map items_of_file files) ≡ body_in_files key files

-- ---- one file changed

-- with one file put in the place of another, or made, its bodies stand under the keys of its number
abbrev pub HasFileBodies : Type 0
HasFileBodies = (ino : ℕ) (file : File) (files : List (ℕ × File)) → IsStrictlyIncreasing (keys_of files) → (key : Key)
    → body_at key (flat_map items_of_file (with_value ino file files))
    ≡ body_with_file ino file (flat_map items_of_file files) key

-- and with a file taken out, none
abbrev pub HasNoFileBodies : Type 0
HasNoFileBodies = (ino : ℕ) (files : List (ℕ × File)) → IsStrictlyIncreasing (keys_of files) → (key : Key)
    → body_at key (flat_map items_of_file (without_value ino files))
    ≡ body_without_file ino (flat_map items_of_file files) key

-- so items with these bodies are those of the files with this one in its place
abbrev pub PutsFile : Type 0
PutsFile =
    (ino : ℕ) (file : File) (files : List (ℕ × File)) (items : List Item) → AreWritableFiles files
    → IsWritableFile (ino, file)
    → Ascend items → ((key : Key) → body_at key items ≡ body_with_file ino file (flat_map items_of_file files) key)
    → items ≡ flat_map items_of_file (with_value ino file files)

-- or of the files without it
abbrev pub TakesFile : Type 0
TakesFile = (ino : ℕ) (files : List (ℕ × File)) (items : List Item) → AreWritableFiles files → Ascend items
    → ((key : Key) → body_at key items ≡ body_without_file ino (flat_map items_of_file files) key)
    → items ≡ flat_map items_of_file (without_value ino files)

-- ---- one range of a file

-- the piece at each position once a range of a file has other pieces
abbrev pub PutsRange : Type 0
PutsRange = (from to : ℕ) (given pieces : List Piece) → IsTrue (are_pieces from to given) → (position : ℕ)
    → piece_at position (with_range from to given pieces) ≡ piece_at_range from to given pieces position

-- and once it is cut to a size
abbrev pub CutsPieces : Type 0
CutsPieces =
    (size : ℕ) (pieces : List Piece) (position : ℕ)
    → piece_at position (before size pieces) ≡ piece_at_cut size pieces position

-- what stands under the keys of a file once a range of it has other pieces
pub record HasRangeBodies (ino from to : ℕ) (given : List Piece) (old new : File) (items : List Item) : Type 0 where
  pub inode : body_at (key_with ino INODE_ITEM 0) items ≡ Some (inode_body new)
  pub pieces : (position : ℕ)
      → body_at (key_with ino EXTENT_DATA position) items
      ≡ option_map piece_body (piece_at_range from to given old.pieces position)

-- so it is once the file is in its place among the others
abbrev pub RangeHasBodies : Type 0
RangeHasBodies = (generation ino from to : ℕ) (given : List Piece) (old : File) (files : List (ℕ × File))
    → IsStrictlyIncreasing (keys_of files) → IsTrue (are_pieces from to given)
    → let new = with_pieces generation from to given old in
    HasRangeBodies ino from to given old new (flat_map items_of_file (with_value ino new files))

-- what stands under the keys of a file once it is cut to a size
pub record HasCutBodies (ino size : ℕ) (old new : File) (items : List Item) : Type 0 where
  pub inode : body_at (key_with ino INODE_ITEM 0) items ≡ Some (inode_body new)
  pub pieces : (position : ℕ)
      → body_at (key_with ino EXTENT_DATA position) items
      ≡ option_map piece_body (piece_at_cut size old.pieces position)

-- so it is once the file is in its place among the others
abbrev pub CutHasBodies : Type 0
CutHasBodies = (generation ino size : ℕ) (old : File) (files : List (ℕ × File)) → IsStrictlyIncreasing (keys_of files)
    → let new = with_size generation size old in HasCutBodies ino size old new
    (flat_map items_of_file (with_value ino new files))

-- ---- edits one after the other

-- where pieces are exchanged for others, the items become those of the files with the new one
abbrev pub ExchangesPieces : Type 0
ExchangesPieces = (ino : ℕ) (file : File) (gone put : List Piece) (files : List (ℕ × File)) → AreWritableFiles files
    → IsWritableFile (ino, file) → IsTrue (are_pieces 0 file.size put)
    → AreExchanged gone put (pieces_or_none (value_at ino files)) file.pieces
    → file_edited ino file gone put (flat_map items_of_file files) ≡ flat_map items_of_file (with_value ino file files)

-- a file is made: its pieces are put in
abbrev pub MakesFile : Type 0
MakesFile =
    (ino : ℕ) (file : File) (files : List (ℕ × File)) → AreWritableFiles files → IsWritableFile (ino, file)
    → value_at ino files ≡ None
    → file_edited ino file [] file.pieces (flat_map items_of_file files)
    ≡ flat_map items_of_file (with_value ino file files)

-- a range of a file gets other pieces: those that it meets are taken out, and what rests of them is put in with those
-- given
abbrev pub EditsRange : Type 0
EditsRange =
    (generation ino from to : ℕ) (given : List Piece) (old : File) (files : List (ℕ × File)) → AreWritableFiles files
    → value_at ino files ≡ Some old → IsTrue (is_aligned from) → IsTrue (is_aligned to)
    → IsTrue (are_pieces from to given)
    → let met = pieces_met from to old.pieces in
    let new = with_pieces generation from to given old in
    IsWritableFile (ino, new)
    → file_edited ino new met (with_range from to given met) (flat_map items_of_file files)
    ≡ flat_map items_of_file (with_value ino new files)

-- a file is cut to a size: the pieces that end past it are taken out, and what rests of them is put in
abbrev pub EditsSize : Type 0
EditsSize =
    (generation ino size : ℕ) (old : File) (files : List (ℕ × File)) → AreWritableFiles files
    → value_at ino files ≡ Some old
    → IsTrue (is_aligned size)
    → let cut = pieces_cut size old.pieces in
    let new = with_size generation size old in
    IsWritableFile (ino, new)
    → file_edited ino new cut (before size cut) (flat_map items_of_file files)
    ≡ flat_map items_of_file (with_value ino new files)

-- a file is taken out: so are all its items
abbrev pub RemovesFile : Type 0
RemovesFile =
    (ino : ℕ) (file : File) (files : List (ℕ × File)) → AreWritableFiles files → value_at ino files ≡ Some file
    → without_items (items_of_file (ino, file)) (flat_map items_of_file files)
    ≡ flat_map items_of_file (without_value ino files)

-- ---- how many pieces

-- as many meet a range as are counted there
abbrev pub CountsMet : Type 0
CountsMet = (from to : ℕ) (pieces : List Piece) → length (pieces_met from to pieces) ≡ pieces_meeting from to pieces

-- of a file that can be written, as many meet the range from a size on as end past it
abbrev pub CountsPast : Type 0
CountsPast = (ino size : ℕ) (file : File) → IsWritableFile (ino, file)
    → length (pieces_met size largest_size file.pieces) ≡ pieces_past size file.pieces

-- they are those that end past it
abbrev pub MeetsPast : Type 0
MeetsPast = (ino size : ℕ) (file : File) → IsWritableFile (ino, file)
    → pieces_met size largest_size file.pieces ≡ pieces_cut size file.pieces

-- and all of them meet the range of all
abbrev pub MeetsAll : Type 0
MeetsAll = (ino : ℕ) (file : File) → IsWritableFile (ino, file) → pieces_met 0 largest_size file.pieces ≡ file.pieces
