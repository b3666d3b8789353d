-- What is made of the items and pieces that were read (this project's own).
use Rattle.std.specs.Prelude.{◌≡◌, ⊤, ℕ, ◌≤◌, ◌++◌, List, Option, Some, None, Result, Ok, Err, IsTrue, is_none}
use Rattle.std.specs.List.{filter_map, list_any}
use Rattle.qg_num.specs.declared.fault.BlockFault.{BlockFault}
use Rattle.qg_num.specs.declared.fault.BlockFault.TheVariants.{NoMemory, Disk, Image}
use Rattle.qg_num.specs.declared.rule.Rule.TheVariants as rule
use Rattle.qg_num.specs.declared.piece.Piece.{Piece}
use Rattle.qg_node.specs.declared.item.Item.{Item}
use Rattle.qg_image.specs.FilesOf.{are_pieces, largest_size}
use Rattle.qg_files.specs.Apart.{AreApart}
use Rattle.qg_tree_read.specs.Tree.{Root}
use Rattle.qg_inodes.specs.Items.{piece_of}
use Rattle.qg_inodes.specs.Pieces.{is_piece_of, own_piece}

-- an item that is a piece of a file by its key, whose body says nothing
abbrev pub IsUnreadPiece : ℕ → Option Item → Type 0
IsUnreadPiece ino None = ⊥
IsUnreadPiece ino (Some item) = IsTrue (is_piece_of ino item) × (piece_of item ≡ None)

-- the piece of a file that an item tells, or the rule `item` where it says nothing
abbrev pub IsOwnPiece : Root → ℕ → Option Item → Result (Option Piece) BlockFault → Type 0
IsOwnPiece root ino item (Ok piece) = piece ≡ own_piece ino item
IsOwnPiece root ino item (Err fault) = (fault ≡ Image rule.Item root.address) × IsUnreadPiece ino item

-- the pieces that items tell are put behind others; or one of the items says nothing
abbrev pub AreAdded : {A : Type 0} → Root → List Item → List Piece → List Piece → Result A BlockFault → Type 0
AreAdded root items old new (Ok x) = new ≡ old ++ filter_map piece_of items
AreAdded root items old new (Err NoMemory) = ⊤
AreAdded root items old new (Err Disk) = ⊥
AreAdded root items old new (Err (Image broken at)) =
    (broken ≡ rule.Item) × (at ≡ root.address) × IsTrue (list_any (λ item. is_none (piece_of item)) items)

-- pieces that no file has
abbrev pub AreOfNoFile : List Piece → Type 0
AreOfNoFile pieces = (size : ℕ) → size ≤ largest_size → IsTrue (are_pieces 0 size pieces) → ⊥

-- pieces that were read are answered where they may be edited; or else no file has them
abbrev pub IsJudged : Root → List Piece → Result (List Piece) BlockFault → Type 0
IsJudged root pieces (Ok answered) = (answered ≡ pieces) × AreApart pieces
IsJudged root pieces (Err fault) = (fault ≡ Image rule.File root.address) × AreOfNoFile pieces
