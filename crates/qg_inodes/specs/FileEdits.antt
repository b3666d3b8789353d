-- Edits of the items of one file, one after the other (this project's own).
use Rattle.std.specs.Prelude.{◌≡◌, ℕ, List, [], ◌∷◌, None, map, is_some, if◌then◌else◌}
use Rattle.qg_num.specs.declared.piece.Piece.{Piece}
use Rattle.qg_node.specs.declared.item.Item.{Item}
use Rattle.qg_image.specs.declared.file.File.{File}
use Rattle.qg_image.specs.ItemMeaning.{◌orelse◌}
use Rattle.qg_root_items.specs.Written.{item_of_inode, item_of_piece}
use Rattle.qg_edit.specs.Edits.{with_item, without_key}
use Rattle.qg_inodes.specs.Bodies.{piece_at}

-- these items put in, the first one first
abbrev pub with_items : List Item → List Item → List Item
with_items [] items = items
with_items (new ∷ news) items = with_items news (with_item new items)

-- the keys of these taken out
abbrev pub without_items : List Item → List Item → List Item
without_items [] items = items
without_items (gone ∷ later) items = without_items later (without_key gone.key items)

-- pieces of a file taken out, others put in, and then its INODE_ITEM
abbrev pub file_edited : ℕ → File → List Piece → List Piece → List Item → List Item
file_edited ino file gone put items =
    with_item (item_of_inode ino file)
    (with_items (map (item_of_piece ino) put) (without_items (map (item_of_piece ino) gone) items))

-- so old pieces become new ones: at each position the piece that is put in, else none where one is taken out, else the
-- old one
abbrev pub AreExchanged : List Piece → List Piece → List Piece → List Piece → Type 0
AreExchanged gone put old new = (position : ℕ)
    → piece_at position new ≡ (piece_at position put
    orelse (if is_some (piece_at position gone) then None else piece_at position old))
