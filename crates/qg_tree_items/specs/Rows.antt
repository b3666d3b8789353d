-- What is kept of a row of a subvolume's items. Positions, lengths and sizes are in bytes.
use Rattle.std.specs.Prelude.{◌≡◌, ℕ, false, ◌&&◌, List, [], ◌∷◌, ◌++◌, map, Option, Some, None, IsTrue, nat_le}
use Rattle.qg_num.specs.declared.piece.Piece.{Piece}
use Rattle.qg_node.specs.Nodes.{is_ascending}
use Rattle.qg_items.specs.declared.file.InodeItem.{InodeItem}
use Rattle.qg_image.specs.declared.part.FilePart.{FilePart}
use Rattle.qg_image.specs.declared.part.FilePart.TheVariants.{Inode, PieceOf}
use Rattle.qg_image.specs.FilesOf.{are_files, are_pieces, pieces_bytes}
use Rattle.qg_tree_items.specs.Keys.{file_key}
use Rattle.qg_tree_items.specs.declared.last.LastFile.{LastFile}
use Rattle.qg_tree_items.specs.declared.row.Ends.{Ends}
use Rattle.qg_tree_items.specs.declared.row.FileRow.{FileRow}
use Rattle.qg_tree_items.specs.declared.run.PieceRun.{PieceRun}

-- no sound files have the items in a row, whatever stands before and behind them (this project's own)
abbrev pub AreOfNoFiles : List FilePart → Type 0
AreOfNoFiles parts =
    (front behind : List FilePart)
    → IsTrue (is_ascending (map file_key (front ++ (parts ++ behind)))) → are_files (front ++ (parts ++ behind)) ≡ false

-- what is told is so of the items; where nothing is told, no sound files have them in a row (this project's own)
abbrev pub IsToldOf : {A : Type 0} → (A → List FilePart → Type 0) → Option A → List FilePart → Type 0
IsToldOf is None parts = AreOfNoFiles parts
IsToldOf is (Some told) parts = is told parts

-- the items are pieces of the run's file, and fit between two positions exactly where the run does (this project's own)
pub record IsRun (run : PieceRun) (parts : List FilePart) : Type 0 where
  pub pieces : List Piece
  pub stand : parts ≡ map (PieceOf run.ino) pieces
  pub fit : (from size : ℕ) → are_pieces from size pieces ≡ (nat_le from run.begin && nat_le run.end size)
  pub bytes : pieces_bytes pieces ≡ run.bytes

-- there are no items, or they are a run (this project's own)
abbrev pub ArePieces : Option PieceRun → List FilePart → Type 0
ArePieces None parts = parts ≡ []
ArePieces (Some run) parts = IsRun run parts

-- the items are the file's INODE_ITEM and pieces of it, which fit a size exactly where they end by it (this project's
-- own)
pub record IsLast (file : LastFile) (parts : List FilePart) : Type 0 where
  pub inode : InodeItem
  pub pieces : List Piece
  pub stand : parts ≡ Inode file.ino inode ∷ map (PieceOf file.ino) pieces
  pub size : inode.size ≡ file.size
  pub nbytes : inode.nbytes ≡ file.nbytes
  pub fit : (whole : ℕ) → are_pieces 0 whole pieces ≡ nat_le file.end whole
  pub bytes : pieces_bytes pieces ≡ file.bytes

-- the items are those of sound files, and then of the last one (this project's own)
pub record EndIn (file : LastFile) (parts : List FilePart) : Type 0 where
  pub within : List FilePart
  pub last : List FilePart
  pub stand : parts ≡ within ++ last
  pub sound : IsTrue (are_files within)
  pub is : IsLast file last

-- there are no items, or they end in the last file (this project's own)
abbrev pub AreFilesTo : Option LastFile → List FilePart → Type 0
AreFilesTo None parts = parts ≡ []
AreFilesTo (Some file) parts = EndIn file parts

-- the items are pieces before the first INODE_ITEM, and then files (this project's own)
pub record HasEnds (ends : Ends) (parts : List FilePart) : Type 0 where
  pub before : List FilePart
  pub files : List FilePart
  pub stand : parts ≡ before ++ files
  pub begin : ArePieces ends.before before
  pub end : AreFilesTo ends.last files

-- what is kept of a row tells its items (this project's own)
abbrev pub Tells : FileRow → List FilePart → Type 0
Tells row parts = IsToldOf HasEnds row.ends parts
