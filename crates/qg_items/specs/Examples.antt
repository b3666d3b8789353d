-- Bodies whose bytes were worked out by hand.
use Rattle.std.specs.Prelude.{◌≡◌, ℕ, List, [], ◌∷◌, ◌++◌, Some, refl}
use Rattle.qg_num.specs.Fields.{u64_bytes, u32_bytes, u16_bytes, u64_at, u32_at}
use Rattle.qg_items.specs.declared.file.ExtentData.{ExtentData}
use Rattle.qg_items.specs.declared.extent.ExtentDataRef.{ExtentDataRef}
use Rattle.qg_items.specs.ItemText.{extent_data_text, data_ref_text}
use Rattle.qg_items.specs.ItemReading.{extent_data_read, data_ref_read}

-- the piece of the first write: 8192 bytes at 0, written in generation 2
abbrev pub first_piece : ExtentData
first_piece = record {
  generation = 2;
  ram_bytes = 8192;
  disk_bytenr = 67174400;
  disk_num_bytes = 8192;
  offset = 0;
  num_bytes = 8192;
}

-- its 53 bytes
abbrev pub first_piece_bytes : List ℕ
first_piece_bytes =
    (0x02 ∷ 0x00 ∷ 0x00 ∷ 0x00 ∷ 0x00 ∷ 0x00 ∷ 0x00 ∷ 0x00 ∷ [])
    ++ (0x00 ∷ 0x20 ∷ 0x00 ∷ 0x00 ∷ 0x00 ∷ 0x00 ∷ 0x00 ∷ 0x00 ∷ [])
    ++ (0x00 ∷ 0x00 ∷ 0x00 ∷ 0x00 ∷ 0x01 ∷ []) ++ (0x00 ∷ 0x00 ∷ 0x01 ∷ 0x04 ∷ 0x00 ∷ 0x00 ∷ 0x00 ∷ 0x00 ∷ [])
    ++ (0x00 ∷ 0x20 ∷ 0x00 ∷ 0x00 ∷ 0x00 ∷ 0x00 ∷ 0x00 ∷ 0x00 ∷ [])
    ++ (0x00 ∷ 0x00 ∷ 0x00 ∷ 0x00 ∷ 0x00 ∷ 0x00 ∷ 0x00 ∷ 0x00 ∷ [])
    ++ (0x00 ∷ 0x20 ∷ 0x00 ∷ 0x00 ∷ 0x00 ∷ 0x00 ∷ 0x00 ∷ 0x00 ∷ [])

first_piece_is_written : extent_data_text first_piece ≡ first_piece_bytes
unfolding extent_data_text u64_bytes u16_bytes
first_piece_is_written = refl

first_piece_is_read : extent_data_read first_piece_bytes ≡ Some first_piece
unfolding extent_data_read u64_at
first_piece_is_read = refl

-- a piece at position 0 with offset 4096 in its extent: the reference's offset is 2^64 less 4096
abbrev pub negative_reference : ExtentDataRef
negative_reference = record { root = 5; objectid = 258; offset = 18446744073709547520; count = 1 }

negative_reference_is_written :
    data_ref_text negative_reference
    ≡ (5 ∷ 0 ∷ 0 ∷ 0 ∷ 0 ∷ 0 ∷ 0 ∷ 0 ∷ []) ++ (0x02 ∷ 0x01 ∷ 0 ∷ 0 ∷ 0 ∷ 0 ∷ 0 ∷ 0 ∷ [])
    ++ (0x00 ∷ 0xf0 ∷ 0xff ∷ 0xff ∷ 0xff ∷ 0xff ∷ 0xff ∷ 0xff ∷ []) ++ (1 ∷ 0 ∷ 0 ∷ 0 ∷ [])
unfolding data_ref_text u64_bytes u32_bytes
negative_reference_is_written = refl

negative_reference_is_read : data_ref_read (data_ref_text negative_reference) ≡ Some negative_reference
unfolding data_ref_text data_ref_read u64_bytes u32_bytes u64_at u32_at
negative_reference_is_read = refl
