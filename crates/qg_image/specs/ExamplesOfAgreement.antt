-- Items of the extent tree that are what is owed, and items that are not. All numbers were worked out by hand.
use Rattle.std.specs.Prelude.{◌≡◌, ℕ, true, false, List, [], ◌∷◌, ◌++◌, Some, None, refl}
use Rattle.qg_num.specs.Fields.{u64_bytes, u16_bytes, u64_at}
use Rattle.qg_items.specs.declared.extent.Reference.TheVariants.{KeyedBlock, KeyedData, SharedData}
use Rattle.qg_items.specs.ItemText.{inode_text, extent_data_text}
use Rattle.qg_items.specs.ItemReading.{inode_read, extent_data_read}
use Rattle.qg_image.specs.ItemMeaning.{file_part}
use Rattle.qg_image.specs.declared.part.ExtentPart.{ExtentPart}
use Rattle.qg_image.specs.declared.part.ExtentPart.TheVariants.{DataRecord, NodeRecord, Referenced}
use Rattle.qg_image.specs.State.{Layout, layout_of}
use Rattle.qg_image.specs.Reach.{pieces_of}
use Rattle.qg_image.specs.Owed.{owed_by_node, owed, owed_to, layout_extents, agrees_at, recorded_addresses}
use Rattle.qg_image.specs.Owed.{disagreement}
use Rattle.qg_image.specs.ExamplesOfState.{piece, file, snapshot}
use Rattle.qg_image.specs.ExamplesOfReferences.{leaf_of, layout, written_source}

-- the record of a node of a level and a generation, with so many references and these flags
abbrev pub node_record : ℕ → ℕ → ℕ → ℕ → ℕ → ExtentPart
node_record address level generation refs flags =
    NodeRecord address level (record { refs = refs; generation = generation; flags = flags })

-- the record of a data extent of so many bytes, with so many references
abbrev pub data_record : ℕ → ℕ → ℕ → ExtentPart
data_record address bytes refs = DataRecord address bytes (record { refs = refs; generation = 2; flags = 1 })

-- ---- a first write and its snapshot: two root leaves that share an extent of 8192 bytes

abbrev pub shared : Layout
shared = layout_of snapshot

-- the items of the two roots
abbrev pub root_records : List ExtentPart
root_records =
    node_record 1048576 0 2 1 2
    ∷ Referenced 1048576 (KeyedBlock 5) 1
    ∷ node_record 1064960 0 2 1 2
    ∷ Referenced 1064960 (KeyedBlock 256) 1
    ∷ []

-- the items of the extent: its record with so many references, and the counts of the two references to it
abbrev pub extent_records : ℕ → ℕ → ℕ → List ExtentPart
extent_records refs first second =
    data_record 67174400 8192 refs ∷ Referenced 67174400 (KeyedData 5 257 0) first ∷ Referenced 67174400
    (KeyedData 256 257 0) second ∷ []

snapshot-agrees : disagreement shared (root_records ++ extent_records 2 1 1) ≡ None
unfolding disagreement recorded_addresses agrees_at layout_extents owed owed_by_node pieces_of file_part inode_read
    extent_data_read inode_text extent_data_text u64_bytes u16_bytes u64_at
snapshot-agrees = refl

snapshot-agrees_at_the_extent : agrees_at shared (root_records ++ extent_records 2 1 1) 67174400 ≡ true
unfolding agrees_at layout_extents owed owed_by_node pieces_of file_part inode_read extent_data_read inode_text
    extent_data_text u64_bytes u16_bytes u64_at
snapshot-agrees_at_the_extent = refl

-- where nothing begins and nothing is recorded
snapshot-agrees_elsewhere : agrees_at shared (root_records ++ extent_records 2 1 1) 67178496 ≡ true
unfolding agrees_at layout_extents owed owed_by_node pieces_of file_part inode_read extent_data_read inode_text
    extent_data_text u64_bytes u16_bytes u64_at
snapshot-agrees_elsewhere = refl

-- the order of the items does not matter
snapshot-in_another_order : disagreement shared (extent_records 2 1 1 ++ root_records) ≡ None
unfolding disagreement recorded_addresses agrees_at layout_extents owed owed_by_node pieces_of file_part inode_read
    extent_data_read inode_text extent_data_text u64_bytes u16_bytes u64_at
snapshot-in_another_order = refl

-- a reference counted twice, though the record has the sum
snapshot-count_of_2 : disagreement shared (root_records ++ extent_records 3 2 1) ≡ Some 67174400
unfolding disagreement recorded_addresses agrees_at layout_extents owed owed_by_node pieces_of file_part inode_read
    extent_data_read inode_text extent_data_text u64_bytes u16_bytes u64_at
snapshot-count_of_2 = refl

snapshot-count_of_2_at_the_extent : agrees_at shared (root_records ++ extent_records 3 2 1) 67174400 ≡ false
unfolding agrees_at layout_extents owed owed_by_node pieces_of file_part inode_read extent_data_read inode_text
    extent_data_text u64_bytes u16_bytes u64_at
snapshot-count_of_2_at_the_extent = refl

-- what is recorded at a root is right all the same
snapshot-count_of_2_at_a_root : agrees_at shared (root_records ++ extent_records 3 2 1) 1048576 ≡ true
unfolding agrees_at layout_extents owed owed_by_node pieces_of file_part inode_read extent_data_read inode_text
    extent_data_text u64_bytes u16_bytes u64_at
snapshot-count_of_2_at_a_root = refl

-- the sum of the counts is right, and neither of them is
snapshot-counts_of_2_and_0 : disagreement shared (root_records ++ extent_records 2 2 0) ≡ Some 67174400
unfolding disagreement recorded_addresses agrees_at layout_extents owed owed_by_node pieces_of file_part inode_read
    extent_data_read inode_text extent_data_text u64_bytes u16_bytes u64_at
snapshot-counts_of_2_and_0 = refl

-- a record that counts one of its two references
snapshot-refs_of_1 : disagreement shared (root_records ++ extent_records 1 1 1) ≡ Some 67174400
unfolding disagreement recorded_addresses agrees_at layout_extents owed owed_by_node pieces_of file_part inode_read
    extent_data_read inode_text extent_data_text u64_bytes u16_bytes u64_at
snapshot-refs_of_1 = refl

-- a reference that is not recorded
snapshot-reference_missing : disagreement shared (root_records ++ data_record 67174400 8192 1 ∷ Referenced 67174400
    (KeyedData 5 257 0) 1 ∷ []) ≡ Some 67174400
unfolding disagreement recorded_addresses agrees_at layout_extents owed owed_by_node pieces_of file_part inode_read
    extent_data_read inode_text extent_data_text u64_bytes u16_bytes u64_at
snapshot-reference_missing = refl

-- a reference that is not owed: neither leaf has the full mark
snapshot-reference_too_many : disagreement shared (root_records ++ extent_records 3 1 1
    ++ Referenced 67174400 (SharedData 1048576) 1 ∷ []) ≡ Some 67174400
unfolding disagreement recorded_addresses agrees_at layout_extents owed owed_by_node pieces_of file_part inode_read
    extent_data_read inode_text extent_data_text u64_bytes u16_bytes u64_at
snapshot-reference_too_many = refl

-- nor may one that is not owed stand there with the count 0
snapshot-count_of_0 : disagreement shared (root_records ++ extent_records 2 1 1
    ++ Referenced 67174400 (SharedData 1048576) 0 ∷ []) ≡ Some 67174400
unfolding disagreement recorded_addresses agrees_at layout_extents owed owed_by_node pieces_of file_part inode_read
    extent_data_read inode_text extent_data_text u64_bytes u16_bytes u64_at
snapshot-count_of_0 = refl

-- an extent of another length
snapshot-another_length : disagreement shared (root_records ++ data_record 67174400 4096 2 ∷ Referenced 67174400
    (KeyedData 5 257 0) 1 ∷ Referenced 67174400 (KeyedData 256 257 0) 1 ∷ []) ≡ Some 67174400
unfolding disagreement recorded_addresses agrees_at layout_extents owed owed_by_node pieces_of file_part inode_read
    extent_data_read inode_text extent_data_text u64_bytes u16_bytes u64_at
snapshot-another_length = refl

-- an extent with the flag of a node, TREE_BLOCK, in place of DATA
snapshot-extent_with_flags_of_2 : disagreement shared
    (root_records ++ DataRecord 67174400 8192 (record { refs = 2; generation = 2; flags = 2 }) ∷ Referenced 67174400
    (KeyedData 5 257 0) 1 ∷ Referenced 67174400 (KeyedData 256 257 0) 1 ∷ []) ≡ Some 67174400
unfolding disagreement recorded_addresses agrees_at layout_extents owed owed_by_node pieces_of file_part inode_read
    extent_data_read inode_text extent_data_text u64_bytes u16_bytes u64_at
snapshot-extent_with_flags_of_2 = refl

-- its references, and no record
snapshot-record_missing : disagreement shared (root_records ++ Referenced 67174400 (KeyedData 5 257 0) 1
    ∷ Referenced 67174400 (KeyedData 256 257 0) 1 ∷ []) ≡ Some 67174400
unfolding disagreement recorded_addresses agrees_at layout_extents owed owed_by_node pieces_of file_part inode_read
    extent_data_read inode_text extent_data_text u64_bytes u16_bytes u64_at
snapshot-record_missing = refl

-- no record of the extent, nor any reference to it
snapshot-extent_missing : disagreement shared root_records ≡ Some 67174400
unfolding disagreement recorded_addresses agrees_at layout_extents owed owed_by_node pieces_of file_part inode_read
    extent_data_read inode_text extent_data_text u64_bytes u16_bytes u64_at
snapshot-extent_missing = refl

-- a record of an extent that no leaf names
snapshot-extent_too_many : disagreement shared (root_records ++ extent_records 2 1 1 ++ data_record 67182592 4096 0
    ∷ []) ≡ Some 67182592
unfolding disagreement recorded_addresses agrees_at layout_extents owed owed_by_node pieces_of file_part inode_read
    extent_data_read inode_text extent_data_text u64_bytes u16_bytes u64_at
snapshot-extent_too_many = refl

-- a reference to an address where nothing begins
snapshot-reference_to_nothing : disagreement shared (root_records ++ extent_records 2 1 1
    ++ Referenced 67182592 (KeyedData 5 257 0) 1 ∷ []) ≡ Some 67182592
unfolding disagreement recorded_addresses agrees_at layout_extents owed owed_by_node pieces_of file_part inode_read
    extent_data_read inode_text extent_data_text u64_bytes u16_bytes u64_at
snapshot-reference_to_nothing = refl

-- ---- one node of generation 2, owned and reached by 5 as its root, and its items

abbrev pub single : Layout
single = layout ((5, 1048576) ∷ []) (leaf_of 1048576 2 5 false [] ∷ [])

-- the same node with the full mark
abbrev pub single_full : Layout
single_full = layout ((5, 1048576) ∷ []) (leaf_of 1048576 2 5 true [] ∷ [])

-- the items of the node, its record having this level, generation and flags
abbrev pub single_records : ℕ → ℕ → ℕ → List ExtentPart
single_records level generation flags = node_record 1048576 level generation 1 flags ∷ Referenced 1048576
    (KeyedBlock 5) 1 ∷ []

node_without_mark : disagreement single (single_records 0 2 2) ≡ None
unfolding disagreement recorded_addresses agrees_at layout_extents owed owed_by_node pieces_of file_part
node_without_mark = refl

-- FULL_BACKREF on a node without the mark
node_without_mark-flags_of_258 : disagreement single (single_records 0 2 258) ≡ Some 1048576
unfolding disagreement recorded_addresses agrees_at layout_extents owed owed_by_node pieces_of file_part
node_without_mark-flags_of_258 = refl

node_with_mark : disagreement single_full (single_records 0 2 258) ≡ None
unfolding disagreement recorded_addresses agrees_at layout_extents owed owed_by_node pieces_of file_part
node_with_mark = refl

-- no FULL_BACKREF on a node with the mark
node_with_mark-flags_of_2 : disagreement single_full (single_records 0 2 2) ≡ Some 1048576
unfolding disagreement recorded_addresses agrees_at layout_extents owed owed_by_node pieces_of file_part
node_with_mark-flags_of_2 = refl

-- FULL_BACKREF without TREE_BLOCK
node_with_mark-flags_of_256 : disagreement single_full (single_records 0 2 256) ≡ Some 1048576
unfolding disagreement recorded_addresses agrees_at layout_extents owed owed_by_node pieces_of file_part
node_with_mark-flags_of_256 = refl

node_of_another_level : disagreement single (single_records 1 2 2) ≡ Some 1048576
unfolding disagreement recorded_addresses agrees_at layout_extents owed owed_by_node pieces_of file_part
node_of_another_level = refl

node_of_another_generation : disagreement single (single_records 0 1 2) ≡ Some 1048576
unfolding disagreement recorded_addresses agrees_at layout_extents owed owed_by_node pieces_of file_part
node_of_another_generation = refl

-- a record that counts a reference too many
node_with_refs_of_2 : disagreement single (node_record 1048576 0 2 2 2 ∷ Referenced 1048576 (KeyedBlock 5) 1 ∷ [])
    ≡ Some 1048576
unfolding disagreement recorded_addresses agrees_at layout_extents owed owed_by_node pieces_of file_part
node_with_refs_of_2 = refl

-- no record of the node, nor any reference to it
node_missing : disagreement single [] ≡ Some 1048576
unfolding disagreement recorded_addresses agrees_at layout_extents owed owed_by_node pieces_of file_part
node_missing = refl

-- two records of one node
node_recorded_twice : disagreement single (node_record 1048576 1 2 1 2 ∷ single_records 0 2 2) ≡ Some 1048576
unfolding disagreement recorded_addresses agrees_at layout_extents owed owed_by_node pieces_of file_part
node_recorded_twice = refl

-- ---- a piece that was cut in two: both parts are owed one reference, which counts 2

abbrev pub cut_in_two : Layout
cut_in_two = layout ((5, 1048576) ∷ [])
    (leaf_of 1048576 2 5 false ((257, file 8192 (piece 0 4096 0 ∷ piece 4096 4096 4096 ∷ [])) ∷ []) ∷ [])

cut_in_two-owed : owed_to cut_in_two 67174400 ≡ KeyedData 5 257 0 ∷ KeyedData 5 257 0 ∷ []
unfolding owed owed_by_node file_part inode_read extent_data_read inode_text extent_data_text u64_bytes u16_bytes u64_at
cut_in_two-owed = refl

counted_twice : disagreement cut_in_two (single_records 0 2 2 ++ data_record 67174400 8192 2 ∷ Referenced 67174400
    (KeyedData 5 257 0) 2 ∷ []) ≡ None
unfolding disagreement recorded_addresses agrees_at layout_extents owed owed_by_node pieces_of file_part inode_read
    extent_data_read inode_text extent_data_text u64_bytes u16_bytes u64_at
counted_twice = refl

-- one reference is recorded once, with its count: not twice with 1, and not twice with 2
recorded_twice :
    disagreement cut_in_two (single_records 0 2 2 ++ data_record 67174400 8192 2 ∷ Referenced 67174400
    (KeyedData 5 257 0) 1 ∷ Referenced 67174400 (KeyedData 5 257 0) 1 ∷ [])
    ≡ Some 67174400
unfolding disagreement recorded_addresses agrees_at layout_extents owed owed_by_node pieces_of file_part inode_read
    extent_data_read inode_text extent_data_text u64_bytes u16_bytes u64_at
recorded_twice = refl

recorded_twice_with_2 :
    disagreement cut_in_two (single_records 0 2 2 ++ data_record 67174400 8192 4 ∷ Referenced 67174400
    (KeyedData 5 257 0) 2 ∷ Referenced 67174400 (KeyedData 5 257 0) 2 ∷ [])
    ≡ Some 67174400
unfolding disagreement recorded_addresses agrees_at layout_extents owed owed_by_node pieces_of file_part inode_read
    extent_data_read inode_text extent_data_text u64_bytes u16_bytes u64_at
recorded_twice_with_2 = refl

-- ---- a snapshot, and then a write into its source: the old leaf at 1048576 has the full mark

-- all items, the record of the old leaf having these flags
abbrev pub written_source_records : ℕ → List ExtentPart
written_source_records flags =
    node_record 1048576 0 2 1 flags
    ∷ Referenced 1048576 (KeyedBlock 256) 1
    ∷ node_record 1064960 0 2 2 2
    ∷ Referenced 1064960 (KeyedBlock 5) 1
    ∷ Referenced 1064960 (KeyedBlock 256) 1
    ∷ node_record 1097728 1 3 1 2
    ∷ Referenced 1097728 (KeyedBlock 256) 1
    ∷ node_record 1114112 1 4 1 2
    ∷ Referenced 1114112 (KeyedBlock 5) 1
    ∷ node_record 1130496 0 4 1 2
    ∷ Referenced 1130496 (KeyedBlock 5) 1
    ∷ data_record 67174400 8192 2
    ∷ Referenced 67174400 (KeyedData 5 257 0) 1
    ∷ Referenced 67174400 (SharedData 1048576) 1
    ∷ data_record 67182592 4096 1
    ∷ Referenced 67182592 (KeyedData 5 258 0) 1
    ∷ data_record 67186688 4096 1
    ∷ Referenced 67186688 (KeyedData 5 257 0) 1
    ∷ []

written_source-agrees : disagreement written_source (written_source_records 258) ≡ None
unfolding disagreement recorded_addresses agrees_at layout_extents owed owed_by_node pieces_of file_part inode_read
    extent_data_read inode_text extent_data_text u64_bytes u16_bytes u64_at
written_source-agrees = refl

written_source-mark_missing : disagreement written_source (written_source_records 2) ≡ Some 1048576
unfolding disagreement recorded_addresses agrees_at layout_extents owed owed_by_node pieces_of file_part inode_read
    extent_data_read inode_text extent_data_text u64_bytes u16_bytes u64_at
written_source-mark_missing = refl
