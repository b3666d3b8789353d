-- The extent tree's items of small images, as they stand in a leaf. All were worked out by hand.
use Rattle.std.specs.Prelude.{◌≡◌, ℕ, Bool, true, false, List, [], ◌∷◌, ◌++◌, Some, None, refl}
use Rattle.qg_num.specs.Fields.{u64_bytes, u32_bytes, u16_bytes, u64_at}
use Rattle.qg_items.specs.declared.extent.Reference.{Reference}
use Rattle.qg_items.specs.declared.extent.Reference.TheVariants.{KeyedBlock, SharedBlock, KeyedData, SharedData}
use Rattle.qg_items.specs.ItemText.{inode_text, extent_data_text, extent_text, data_ref_text, shared_data_ref_text}
use Rattle.qg_items.specs.ItemReading.{inode_read, extent_data_read}
use Rattle.qg_tree_items.specs.ItemMeaning.{file_part}
use Rattle.qg_tree_items.specs.State.{Layout, layout_of}
use Rattle.qg_tree_items.specs.Reach.{pieces_of}
use Rattle.qg_tree_items.specs.Owed.{owed_by_node, owed, layout_extents, agrees_at, recorded_addresses, disagreement}
use Rattle.qg_tree_items.specs.ExamplesOfState.{piece, file, first_write, snapshot}
use Rattle.qg_tree_items.specs.ExamplesOfReferences.{leaf_of, layout}
use Rattle.qg_refs.specs.declared.counted.Counted.{Counted}
use Rattle.qg_refs.specs.declared.kept.Kept.{Kept}
use Rattle.qg_extents.specs.Fresh.{fresh_table}
use Rattle.qg_extents.specs.Written.{item_at, items_of_book, items_of_extent, parts_of_book}

-- ---- words

-- a number below 256 in eight bytes, and in four
abbrev pub eight : ℕ → List ℕ
eight n = n ∷ 0 ∷ 0 ∷ 0 ∷ 0 ∷ 0 ∷ 0 ∷ 0 ∷ []

abbrev pub four : ℕ → List ℕ
four n = n ∷ 0 ∷ 0 ∷ 0 ∷ []

-- 256, 257 and 258 in eight bytes
abbrev pub next_hundreds : ℕ → List ℕ
next_hundreds low = low ∷ 1 ∷ 0 ∷ 0 ∷ 0 ∷ 0 ∷ 0 ∷ 0 ∷ []

-- a reference that is there once
abbrev pub once : Reference → Counted
once reference = record { reference = reference; count = 1 }

-- what is kept of a leaf of 16384 bytes, of a generation, with its full mark and one reference
abbrev pub leaf_kept : ℕ → Bool → Reference → Kept
leaf_kept generation full reference = record {
  what = record { bytes = 16384; level = Some 0; generation = generation };
  full = full;
  references = once reference ∷ [];
}

-- what is kept of a data extent of so many bytes, of a generation, with these references
abbrev pub extent_kept : ℕ → ℕ → List Counted → Kept
extent_kept bytes generation references = record {
  what = record { bytes = bytes; level = None; generation = generation };
  full = false;
  references = references;
}

-- ---- an image that is just made: the root of subvolume 5 lies in the third slot

fresh-items :
    items_of_book (fresh_table 16384 1081344)
    ≡ item_at 1081344 169 0 (eight 1 ++ eight 1 ++ eight 2)
    ∷ item_at 1081344 176 5 []
    ∷ []
unfolding extent_text u64_bytes
fresh-items = refl

-- ---- the first write: 8192 bytes of file 257 in subvolume 5, in generation 2

abbrev pub first_extent : List Counted → ℕ × Kept
first_extent references = (67174400, extent_kept 8192 2 references)

abbrev pub first_table : List (ℕ × Kept)
first_table = (1048576, leaf_kept 2 false (KeyedBlock 5)) ∷ first_extent (once (KeyedData 5 257 0) ∷ []) ∷ []

first_write-items :
    items_of_book first_table
    ≡ item_at 1048576 169 0 (eight 1 ++ eight 2 ++ eight 2)
    ∷ item_at 1048576 176 5 []
    ∷ item_at 67174400 168 8192 (eight 1 ++ eight 2 ++ eight 1)
    ∷ item_at 67174400 178 0 (eight 5 ++ next_hundreds 1 ++ eight 0 ++ four 1)
    ∷ []
unfolding extent_text data_ref_text u64_bytes u32_bytes
first_write-items = refl

first_write-agrees : disagreement (layout_of first_write) (parts_of_book first_table) ≡ None
unfolding disagreement recorded_addresses agrees_at layout_extents owed owed_by_node pieces_of file_part inode_read
    extent_data_read inode_text extent_data_text u64_bytes u16_bytes u64_at
first_write-agrees = refl

-- ---- its snapshot 256: the extent has two references, which are numbered in their order

abbrev pub snapshot_extent : ℕ × Kept
snapshot_extent = first_extent (once (KeyedData 5 257 0) ∷ once (KeyedData 256 257 0) ∷ [])

abbrev pub snapshot_table : List (ℕ × Kept)
snapshot_table =
    (1048576, leaf_kept 2 false (KeyedBlock 5)) ∷ (1064960, leaf_kept 2 false (KeyedBlock 256)) ∷ snapshot_extent ∷ []

snapshot-items :
    items_of_extent snapshot_extent
    ≡ item_at 67174400 168 8192 (eight 2 ++ eight 2 ++ eight 1)
    ∷ item_at 67174400 178 0 (eight 5 ++ next_hundreds 1 ++ eight 0 ++ four 1)
    ∷ item_at 67174400 178 1 (next_hundreds 0 ++ next_hundreds 1 ++ eight 0 ++ four 1)
    ∷ []
unfolding extent_text data_ref_text u64_bytes u32_bytes
snapshot-items = refl

snapshot-agrees : disagreement (layout_of snapshot) (parts_of_book snapshot_table) ≡ None
unfolding disagreement recorded_addresses agrees_at layout_extents owed owed_by_node pieces_of file_part inode_read
    extent_data_read inode_text extent_data_text u64_bytes u16_bytes u64_at
snapshot-agrees = refl

-- ---- the write after it: in generation 4 subvolume 5 writes the first 4096 bytes of its file anew. Its leaf is now a
-- copy at 1081344. The rest of the piece stands at position 4096 and begins at 4096 in the extent, so the reference to
-- the first extent is the one that it was

abbrev pub written_again : Layout
written_again =
    layout ((5, 1081344) ∷ (256, 1064960) ∷ [])
    (leaf_of 1064960 2 256 false ((257, file 8192 (piece 0 8192 0 ∷ [])) ∷ [])
    ∷ leaf_of 1081344 4 5 false
    ((
      257,
      file 8192 (record { position = 0; len = 4096; extent = 67182592; offset = 0; stamp = 4; extent_bytes = 4096 }
          ∷ piece 4096 4096 4096 ∷ []),
    ) ∷ [])
    ∷ [])

abbrev pub second_extent : ℕ × Kept
second_extent = (67182592, extent_kept 4096 4 (once (KeyedData 5 257 0) ∷ []))

abbrev pub written_again_table : List (ℕ × Kept)
written_again_table =
    (1064960, leaf_kept 2 false (KeyedBlock 256))
    ∷ (1081344, leaf_kept 4 false (KeyedBlock 5))
    ∷ snapshot_extent
    ∷ second_extent
    ∷ []

written_again-items :
    items_of_extent second_extent
    ≡ item_at 67182592 168 4096 (eight 1 ++ eight 4 ++ eight 1)
    ∷ item_at 67182592 178 0 (eight 5 ++ next_hundreds 1 ++ eight 0 ++ four 1)
    ∷ []
unfolding extent_text data_ref_text u64_bytes u32_bytes
written_again-items = refl

written_again-agrees : disagreement written_again (parts_of_book written_again_table) ≡ None
unfolding disagreement recorded_addresses agrees_at layout_extents owed owed_by_node pieces_of file_part inode_read
    extent_data_read inode_text extent_data_text u64_bytes u16_bytes u64_at
written_again-agrees = refl

-- ---- a clone within a file whose position is below its offset: file 257 has the extent from position 8192 on, and the
-- extent's last 4096 bytes at position 0 too. That piece's reference has the offset 2^64 less 4096

abbrev pub cloned_below : Layout
cloned_below =
    layout ((5, 1048576) ∷ [])
    (leaf_of 1048576 2 5 false ((257, file 16384 (piece 0 4096 4096 ∷ piece 8192 8192 0 ∷ [])) ∷ []) ∷ [])

abbrev pub cloned_extent : ℕ × Kept
cloned_extent = first_extent (once (KeyedData 5 257 8192) ∷ once (KeyedData 5 257 18446744073709547520) ∷ [])

cloned_below-items :
    items_of_extent cloned_extent
    ≡ item_at 67174400 168 8192 (eight 2 ++ eight 2 ++ eight 1)
    ∷ item_at 67174400 178 0 (eight 5 ++ next_hundreds 1 ++ (0 ∷ 0x20 ∷ 0 ∷ 0 ∷ 0 ∷ 0 ∷ 0 ∷ 0 ∷ []) ++ four 1)
    ∷ item_at 67174400 178 1
    (eight 5 ++ next_hundreds 1 ++ (0 ∷ 0xf0 ∷ 0xff ∷ 0xff ∷ 0xff ∷ 0xff ∷ 0xff ∷ 0xff ∷ []) ++ four 1)
    ∷ []
unfolding extent_text data_ref_text u64_bytes u32_bytes
cloned_below-items = refl

cloned_below-agrees :
    disagreement cloned_below (parts_of_book ((1048576, leaf_kept 2 false (KeyedBlock 5)) ∷ cloned_extent ∷ [])) ≡ None
unfolding disagreement recorded_addresses agrees_at layout_extents owed owed_by_node pieces_of file_part inode_read
    extent_data_read inode_text extent_data_text u64_bytes u16_bytes u64_at
cloned_below-agrees = refl

-- ---- a full node, and an extent with a shared reference that counts 2 behind a keyed one

full_leaf-items :
    items_of_extent (1048576, leaf_kept 2 true (SharedBlock 1097728))
    ≡ item_at 1048576 169 0 (eight 1 ++ eight 2 ++ (2 ∷ 1 ∷ 0 ∷ 0 ∷ 0 ∷ 0 ∷ 0 ∷ 0 ∷ []))
    ∷ item_at 1048576 182 1097728 []
    ∷ []
unfolding extent_text u64_bytes
full_leaf-items = refl

shared_extent-items :
    items_of_extent (first_extent (once (KeyedData 5 257 0) ∷ record { reference = SharedData 1048576; count = 2 }
    ∷ []))
    ≡ item_at 67174400 168 8192 (eight 3 ++ eight 2 ++ eight 1)
    ∷ item_at 67174400 178 0 (eight 5 ++ next_hundreds 1 ++ eight 0 ++ four 1)
    ∷ item_at 67174400 184 1048576 (four 2)
    ∷ []
unfolding extent_text data_ref_text shared_data_ref_text u64_bytes u32_bytes
shared_extent-items = refl
