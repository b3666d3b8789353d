-- The items of a small tree, and what they stand for.
use Rattle.std.specs.Prelude.{◌≡◌, [], ◌∷◌, Some, None, refl}
use Rattle.qg_num.specs.Fields.{u64_bytes, u16_bytes, u64_at}
use Rattle.qg_node.specs.declared.item.Item.{Item}
use Rattle.qg_items.specs.ItemText.{inode_text, extent_data_text}
use Rattle.qg_items.specs.ItemReading.{inode_read, extent_data_read}
use Rattle.qg_items.specs.Examples.{first_piece}
use Rattle.qg_image.specs.ItemMeaning.{file_part}
use Rattle.qg_image.specs.FilesOf.{is_piece, are_pieces, is_file, is_file_item, are_files, files_of}

-- the file of the first write
abbrev pub first_inode_item : Item
first_inode_item = record {
  key = record { objectid = 257; kind = 1; offset = 0 };
  body = inode_text (record { generation = 2; transid = 2; size = 8192; nbytes = 8192 });
}

abbrev pub first_piece_item : Item
first_piece_item = record {
  key = record { objectid = 257; kind = 108; offset = 0 };
  body = extent_data_text first_piece;
}

first_write_is_a_file :
    files_of 2 (first_inode_item ∷ first_piece_item ∷ [])
    ≡ Some ((
      257,
      record {
        size = 8192;
        generation = 2;
        transid = 2;
        pieces = record { position = 0; len = 8192; extent = 67174400; offset = 0; stamp = 2; extent_bytes = 8192 }
            ∷ [];
      },
    ) ∷ [])
unfolding files_of are_files is_file_item is_file are_pieces is_piece file_part inode_read extent_data_read inode_text
    extent_data_text u64_bytes u16_bytes u64_at
first_write_is_a_file = refl

piece_without_its_file : files_of 2 (first_piece_item ∷ []) ≡ None
unfolding files_of are_files is_file_item is_file are_pieces is_piece file_part inode_read extent_data_read inode_text
    extent_data_text u64_bytes u16_bytes u64_at
piece_without_its_file = refl

generation_to_come : files_of 1 (first_inode_item ∷ first_piece_item ∷ []) ≡ None
unfolding files_of are_files is_file_item is_file are_pieces is_piece file_part inode_read extent_data_read inode_text
    extent_data_text u64_bytes u16_bytes u64_at
generation_to_come = refl

-- an item of another tree stands for no file
item_of_another_tree : files_of 2 (record { key = record { objectid = 257; kind = 132; offset = 0 }; body = [] } ∷ [])
    ≡ None
unfolding files_of are_files is_file_item is_file are_pieces is_piece file_part inode_read extent_data_read
item_of_another_tree = refl
