-- The piece that an item tells.
use Rattle.std.proofs.Common.{◌≡◌, ℕ, Bool, true, false, refl, ap, ◌∙◌, arith}
use Rattle.std.specs.Prelude.{Option, Some, None, ◌==◌}
use Rattle.std.specs.Option.{option_map, option_and_then}
use Rattle.std.proofs.lemmas.Bool.Decides.{nat_tests}
use Rattle.qg_num.specs.declared.piece.Piece.{Piece}
use Rattle.qg_items.specs.declared.file.InodeItem.{InodeItem}
use Rattle.qg_items.specs.declared.kind.TheConstants.{INODE_ITEM, EXTENT_DATA}
use Rattle.qg_items.specs.ItemReading.{inode_read, extent_data_read}
use Rattle.qg_node.specs.declared.item.Item.{Item}
use Rattle.qg_image.specs.declared.part.FilePart.TheVariants.{Inode, PieceOf}
use Rattle.qg_image.specs.ItemMeaning.{when, is_keyed, piece_told, file_part, ◌orelse◌}
use Rattle.qg_image.specs.Reach.{piece_of_part}

inode_none : (keyed : Bool) (ino : ℕ) (inode : Option InodeItem)
    → option_and_then piece_of_part (when keyed (option_map (Inode ino) inode) orelse None) ≡ None
inode_none false ino inode = refl
inode_none true ino None = refl
inode_none true ino (Some inode) = refl

piece_some : (ino : ℕ) (piece : Option Piece) → option_and_then piece_of_part (option_map (PieceOf ino) piece) ≡ piece
piece_some ino None = refl
piece_some ino (Some piece) = refl

-- an item of another kind tells no piece
pub piece_none : (item : Item) → (item.key.kind == EXTENT_DATA) ≡ false
    → option_and_then piece_of_part (file_part item) ≡ None
unfolding file_part
piece_none item other =
    ap (λ b. option_and_then piece_of_part
    (when (is_keyed item.key.objectid INODE_ITEM 0 item) (option_map (Inode item.key.objectid) (inode_read item.body))
    orelse when b (option_map (PieceOf item.key.objectid)
    (option_and_then (piece_told item.key.offset) (extent_data_read item.body))))) other
    ∙ inode_none (is_keyed item.key.objectid INODE_ITEM 0 item) item.key.objectid (inode_read item.body)

apart : (item : Item) → (item.key.kind == EXTENT_DATA) ≡ true → is_keyed item.key.objectid INODE_ITEM 0 item ≡ false
apart item is = grind (arith, nat_tests)

-- one of this kind tells the piece of its body
pub piece_is : (item : Item) → (item.key.kind == EXTENT_DATA) ≡ true
    → option_and_then piece_of_part (file_part item)
    ≡ option_and_then (piece_told item.key.offset) (extent_data_read item.body)
unfolding file_part
piece_is item is =
    ap (λ b. option_and_then piece_of_part
    (when b (option_map (Inode item.key.objectid) (inode_read item.body))
    orelse when (item.key.kind == EXTENT_DATA) (option_map (PieceOf item.key.objectid)
    (option_and_then (piece_told item.key.offset) (extent_data_read item.body))))) (apart item is)
    ∙ ap (λ b. option_and_then piece_of_part (when b (option_map (PieceOf item.key.objectid)
    (option_and_then (piece_told item.key.offset) (extent_data_read item.body))))) is
    ∙ piece_some item.key.objectid (option_and_then (piece_told item.key.offset) (extent_data_read item.body))
