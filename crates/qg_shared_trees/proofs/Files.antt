-- Items that are written for files fit.
use Rattle.std.proofs.Common.{◌≡◌, ℕ, ◌+◌, ◌≤◌, ◌<◌, ◌^◌, true, List, [], ◌∷◌, map, arith, lit<}
use Rattle.std.specs.Prelude.{All}
use Rattle.std.specs.List.{AllByRecursion, flat_map}
use Rattle.std.proofs.lemmas.Bool.{leb-true}
use Rattle.std.proofs.lemmas.List.Elements.{All-append, All-cons, All-nil, recursion_from_All}
use Rattle.qg_num.specs.declared.piece.Piece.{Piece}
use Rattle.qg_node.specs.Fits.{ItemFits}
use Rattle.qg_items.specs.ItemText.{extent_data_text, inode_text}
use Rattle.qg_image.specs.declared.file.File.{File}
use Rattle.qg_image.specs.FilesOf.{are_pieces, piece_end}
use Rattle.qg_image.proofs.Pieces.{FirstPiece-are_pieces, WholeFile-is_file}
use Rattle.qg_tree_items.specs.Writable.{AreWritableFiles, IsWritableFile}
use Rattle.qg_root_items.specs.Written.{extent_data_of, inode_of, item_of_inode, item_of_piece, items_of_file}
use Rattle.qg_node.proofs.ItemUnder.{item-fits}
use Rattle.qg_root_items.proofs.Bodies.{extent_data_text-AreBytes, inode_text-AreBytes}

-- pieces end by the size
end_low : (from size : ℕ) (pieces : List Piece) → are_pieces from size pieces ≡ true → from ≤ size
unfolding are_pieces
end_low from size [] are = leb-true from size are
end_low from size (piece ∷ pieces) are =
    let first = FirstPiece-are_pieces from size piece pieces are in
    let begins = first.begins in
    let ends : piece.position + piece.len ≤ size = end_low (piece_end piece) size pieces first.rest in
    omega arith

pieces_fit : (ino from size : ℕ) (pieces : List Piece) → ino < 2 ^ 64 → size ≤ 2 ^ 40
    → are_pieces from size pieces ≡ true → All ItemFits (map (item_of_piece ino) pieces)
pieces_fit ino from size [] numbered small are = All-nil ItemFits
pieces_fit ino from size (piece ∷ pieces) numbered small are =
    let first = FirstPiece-are_pieces from size piece pieces are in
    let ends : piece.position + piece.len ≤ size = end_low (piece_end piece) size pieces first.rest in
    let told = extent_data_of piece in
    let here = item-fits ino 108 piece.position (extent_data_text told) numbered (lit< tt) (omega arith)
    (extent_data_text-AreBytes told) in
    All-cons ItemFits (item_of_piece ino piece) (map (item_of_piece ino) pieces) here
    (pieces_fit ino (piece_end piece) size pieces numbered small first.rest)

file_fits : (file : ℕ × File) → IsWritableFile file → All ItemFits (items_of_file file)
file_fits file is =
    let whole = WholeFile-is_file file.1 is.sound in
    let below : file.0 < 281474976710656 = is.below in
    let numbered : file.0 < 2 ^ 64 = omega arith in
    let told = inode_of file.1 in
    let first = item-fits file.0 1 0 (inode_text told) numbered (lit< tt) (lit< tt) (inode_text-AreBytes told) in
    All-cons ItemFits (item_of_inode file.0 file.1) (map (item_of_piece file.0) file.1.pieces) first
    (pieces_fit file.0 0 file.1.size file.1.pieces numbered whole.least whole.pieces)

each_fits : (files : List (ℕ × File)) → AllByRecursion IsWritableFile files
    → All ItemFits (flat_map items_of_file files)
each_fits [] are = All-nil ItemFits
each_fits (file ∷ files) are =
    All-append ItemFits (items_of_file file) (flat_map items_of_file files) (file_fits file are.0)
    (each_fits files are.1)

pub files-fit : (files : List (ℕ × File)) → AreWritableFiles files → All ItemFits (flat_map items_of_file files)
files-fit files are = each_fits files (recursion_from_All IsWritableFile files are.each)
