-- Trees that subvolumes share, and what is reached, counted and owed in them. All numbers were worked out by hand.
use Rattle.std.specs.Prelude.{◌≡◌, ℕ, Bool, true, false, List, [], ◌∷◌, Some, None, refl}
use Rattle.std.specs.List.{flat_map}
use Rattle.qg_num.specs.Fields.{u64_bytes, u16_bytes, u64_at}
use Rattle.qg_node.specs.declared.pointer.Pointer.{Pointer}
use Rattle.qg_node.specs.declared.node.Node.TheVariants.{Leaf, Inner}
use Rattle.qg_items.specs.declared.extent.Reference.TheVariants.{KeyedBlock, SharedBlock, KeyedData, SharedData}
use Rattle.qg_items.specs.ItemText.{inode_text, extent_data_text}
use Rattle.qg_items.specs.ItemReading.{inode_read, extent_data_read}
use Rattle.qg_image.specs.declared.file.File.{File}
use Rattle.qg_image.specs.ItemMeaning.{file_part}
use Rattle.qg_image.specs.State.{Layout, Placed}
use Rattle.qg_image.specs.Reach.{pieces_of, reach_of_root, reach, owners}
use Rattle.qg_image.specs.Members.{Hierarchy, leads, is_below, members}
use Rattle.qg_image.specs.Counts.{reach_of_group, is_reached_outside, referenced, exclusive}
use Rattle.qg_image.specs.Owed.{owed_by_node, owed, owed_to, owed_count, homeless}
use Rattle.qg_image.specs.ExamplesOfState.{file_items, piece, file, groups_of}

-- ---- making layouts

-- a leaf at an address, of a generation, made by this tree, with its full mark and these files
abbrev pub leaf_of : ℕ → ℕ → ℕ → Bool → List (ℕ × File) → ℕ × Placed
leaf_of address generation owner full files = (
  address,
  record {
    node = Leaf (record { address = address; generation = generation; owner = owner; level = 0 })
        (flat_map (λ entry. file_items entry.0 entry.1) files);
    full = full;
  },
)

-- a pointer to a node of a generation whose first key is that of a file
abbrev pub pointer : ℕ → ℕ → ℕ → Pointer
pointer ino child generation = record {
  key = record { objectid = ino; kind = 1; offset = 0 };
  child = child;
  generation = generation;
}

-- a node above leaves
abbrev pub inner_of : ℕ → ℕ → ℕ → Bool → List Pointer → ℕ × Placed
inner_of address generation owner full pointers = (
  address,
  record {
    node = Inner (record { address = address; generation = generation; owner = owner; level = 1 }) pointers;
    full = full;
  },
)

-- a layout of nodes of 16384 bytes
abbrev pub layout : List (ℕ × ℕ) → List (ℕ × Placed) → Layout
layout roots nodes = record { nodesize = 16384; roots = roots; nodes = nodes }

-- the file 257 before: 8192 bytes in an extent at 67174400
abbrev pub first_file : ℕ × File
first_file = (257, file 8192 (piece 0 8192 0 ∷ []))

-- the file 258: 4096 bytes in an extent at 67182592
abbrev pub second_file : ℕ × File
second_file = (
  258,
  file 4096 (record {
    position = 0;
    len = 4096;
    extent = 67182592;
    offset = 0;
    stamp = 2;
    extent_bytes = 4096;
  } ∷ []),
)

-- the file 257 once its first 4096 bytes are written anew, into an extent at 67186688
abbrev pub rewritten_file : ℕ × File
rewritten_file = (
  257,
  file 8192 (record {
    position = 0;
    len = 4096;
    extent = 67186688;
    offset = 0;
    stamp = 4;
    extent_bytes = 4096;
  } ∷ piece 4096 4096 4096 ∷ []),
)

-- ---- a snapshot, and then a write into its source
--
-- In generation 2 subvolume 5 had a root above the leaves 1048576 and 1064960. Generation 3 made 256 its snapshot,
-- whose root 1097728 leads to both. In generation 4 subvolume 5 writes into its first file: its root is now 1114112 and
-- its first leaf 1130496, both copies. The old first leaf was made by 5, and 5 no longer reaches it: it has the full
-- mark.

abbrev pub written_source_by : Bool → Layout
written_source_by full =
    layout ((5, 1114112) ∷ (256, 1097728) ∷ [])
    (leaf_of 1048576 2 5 full (first_file ∷ [])
    ∷ leaf_of 1064960 2 5 false (second_file ∷ [])
    ∷ inner_of 1097728 3 256 false (pointer 257 1048576 2 ∷ pointer 258 1064960 2 ∷ [])
    ∷ inner_of 1114112 4 5 false (pointer 257 1130496 4 ∷ pointer 258 1064960 2 ∷ [])
    ∷ leaf_of 1130496 4 5 false (rewritten_file ∷ [])
    ∷ [])

abbrev pub written_source : Layout
written_source = written_source_by true

abbrev pub two_groups : Hierarchy
two_groups = groups_of (5 ∷ 256 ∷ []) []

-- what 5 reaches, as often as it is met
written_source-reach :
    reach written_source 5
    ≡ record { address = 1114112; bytes = 16384 }
    ∷ record { address = 1130496; bytes = 16384 }
    ∷ record { address = 67186688; bytes = 4096 }
    ∷ record { address = 67174400; bytes = 8192 }
    ∷ record { address = 1064960; bytes = 16384 }
    ∷ record { address = 67182592; bytes = 4096 }
    ∷ []
unfolding reach reach_of_root pieces_of file_part inode_read extent_data_read inode_text extent_data_text u64_bytes
    u16_bytes u64_at
written_source-reach = refl

written_source-owners_of_old_leaf : owners written_source 1048576 ≡ 256 ∷ []
unfolding owners reach reach_of_root pieces_of file_part inode_read extent_data_read inode_text extent_data_text
    u64_bytes u16_bytes u64_at
written_source-owners_of_old_leaf = refl

written_source-owners_of_shared_leaf : owners written_source 1064960 ≡ 5 ∷ 256 ∷ []
unfolding owners reach reach_of_root pieces_of file_part inode_read extent_data_read inode_text extent_data_text
    u64_bytes u16_bytes u64_at
written_source-owners_of_shared_leaf = refl

written_source-owners_of_new_leaf : owners written_source 1130496 ≡ 5 ∷ []
unfolding owners reach reach_of_root pieces_of file_part inode_read extent_data_read inode_text extent_data_text
    u64_bytes u16_bytes u64_at
written_source-owners_of_new_leaf = refl

-- the new leaf still names the old extent, for the bytes that were not written anew
written_source-owners_of_old_extent : owners written_source 67174400 ≡ 5 ∷ 256 ∷ []
unfolding owners reach reach_of_root pieces_of file_part inode_read extent_data_read inode_text extent_data_text
    u64_bytes u16_bytes u64_at
written_source-owners_of_old_extent = refl

written_source-owners_of_new_extent : owners written_source 67186688 ≡ 5 ∷ []
unfolding owners reach reach_of_root pieces_of file_part inode_read extent_data_read inode_text extent_data_text
    u64_bytes u16_bytes u64_at
written_source-owners_of_new_extent = refl

-- three nodes, and the extents of 8192, 4096 and 4096 bytes
written_source-referenced : referenced written_source two_groups 5 ≡ 65536
unfolding referenced reach_of_group members is_below leads reach reach_of_root pieces_of file_part inode_read
    extent_data_read inode_text extent_data_text u64_bytes u16_bytes u64_at
written_source-referenced = refl

-- its root, its new leaf and the new extent
written_source-exclusive : exclusive written_source two_groups 5 ≡ 36864
unfolding exclusive is_reached_outside reach_of_group members is_below leads reach reach_of_root pieces_of file_part
    inode_read extent_data_read inode_text extent_data_text u64_bytes u16_bytes u64_at
written_source-exclusive = refl

-- three nodes, and the extents of 8192 and 4096 bytes
written_source-copy_referenced : referenced written_source two_groups 256 ≡ 61440
unfolding referenced reach_of_group members is_below leads reach reach_of_root pieces_of file_part inode_read
    extent_data_read inode_text extent_data_text u64_bytes u16_bytes u64_at
written_source-copy_referenced = refl

-- its root and the old leaf
written_source-copy_exclusive : exclusive written_source two_groups 256 ≡ 32768
unfolding exclusive is_reached_outside reach_of_group members is_below leads reach reach_of_root pieces_of file_part
    inode_read extent_data_read inode_text extent_data_text u64_bytes u16_bytes u64_at
written_source-copy_exclusive = refl

-- the old leaf is owed a reference by the snapshot's root, and none by 5
written_source-owed_to_old_leaf : owed_to written_source 1048576 ≡ KeyedBlock 256 ∷ []
unfolding owed owed_by_node file_part inode_read extent_data_read inode_text extent_data_text u64_bytes u16_bytes u64_at
written_source-owed_to_old_leaf = refl

written_source-none_of_5 : owed_count written_source 1048576 (KeyedBlock 5) ≡ 0
unfolding owed_count owed owed_by_node file_part inode_read extent_data_read inode_text extent_data_text u64_bytes
    u16_bytes u64_at
written_source-none_of_5 = refl

-- the shared leaf is owed one by each root
written_source-owed_to_shared_leaf : owed_to written_source 1064960 ≡ KeyedBlock 256 ∷ KeyedBlock 5 ∷ []
unfolding owed owed_by_node file_part inode_read extent_data_read inode_text extent_data_text u64_bytes u16_bytes u64_at
written_source-owed_to_shared_leaf = refl

written_source-owed_to_new_leaf : owed_to written_source 1130496 ≡ KeyedBlock 5 ∷ []
unfolding owed owed_by_node file_part inode_read extent_data_read inode_text extent_data_text u64_bytes u16_bytes u64_at
written_source-owed_to_new_leaf = refl

-- a root is owed one by its subvolume alone
written_source-owed_to_root : owed_to written_source 1097728 ≡ KeyedBlock 256 ∷ []
unfolding owed owed_by_node file_part inode_read extent_data_read inode_text extent_data_text u64_bytes u16_bytes u64_at
written_source-owed_to_root = refl

-- the old extent is owed a shared reference by the old leaf, which is full, and a keyed one by the new leaf
written_source-owed_to_old_extent : owed_to written_source 67174400 ≡ SharedData 1048576 ∷ KeyedData 5 257 0 ∷ []
unfolding owed owed_by_node file_part inode_read extent_data_read inode_text extent_data_text u64_bytes u16_bytes u64_at
written_source-owed_to_old_extent = refl

written_source-shared_once : owed_count written_source 67174400 (SharedData 1048576) ≡ 1
unfolding owed_count owed owed_by_node file_part inode_read extent_data_read inode_text extent_data_text u64_bytes
    u16_bytes u64_at
written_source-shared_once = refl

written_source-keyed_once : owed_count written_source 67174400 (KeyedData 5 257 0) ≡ 1
unfolding owed_count owed owed_by_node file_part inode_read extent_data_read inode_text extent_data_text u64_bytes
    u16_bytes u64_at
written_source-keyed_once = refl

-- the extent in the shared leaf is owed one reference by the leaf's owner, though two subvolumes reach it
written_source-owed_to_shared_extent : owed_to written_source 67182592 ≡ KeyedData 5 258 0 ∷ []
unfolding owed owed_by_node file_part inode_read extent_data_read inode_text extent_data_text u64_bytes u16_bytes u64_at
written_source-owed_to_shared_extent = refl

written_source-owed_to_new_extent : owed_to written_source 67186688 ≡ KeyedData 5 257 0 ∷ []
unfolding owed owed_by_node file_part inode_read extent_data_read inode_text extent_data_text u64_bytes u16_bytes u64_at
written_source-owed_to_new_extent = refl

written_source-all_at_home : homeless written_source ≡ None
unfolding homeless reach reach_of_root pieces_of file_part inode_read extent_data_read inode_text extent_data_text
    u64_bytes u16_bytes u64_at
written_source-all_at_home = refl

-- without the full mark the old leaf would be one of 5 that 5 does not reach, and would owe the extent a keyed
-- reference of 5
unmarked-old_leaf : homeless (written_source_by false) ≡ Some 1048576
unfolding homeless reach reach_of_root pieces_of file_part inode_read extent_data_read inode_text extent_data_text
    u64_bytes u16_bytes u64_at
unmarked-old_leaf = refl

unmarked-keyed_twice : owed_count (written_source_by false) 67174400 (KeyedData 5 257 0) ≡ 2
unfolding owed_count owed owed_by_node file_part inode_read extent_data_read inode_text extent_data_text u64_bytes
    u16_bytes u64_at
unmarked-keyed_twice = refl

-- ---- a source that is deleted while its snapshot lives
--
-- Subvolume 256 had a root above the leaves 1064960 and 1081344, and 257 is its snapshot, with the root 1114112. Then
-- 256 is deleted: its root goes, and its leaves live on and have the full mark. Subvolume 5 is empty.

abbrev pub deleted_source_by : Bool → Layout
deleted_source_by full =
    layout ((5, 1048576) ∷ (257, 1114112) ∷ [])
    (leaf_of 1048576 1 5 false []
    ∷ leaf_of 1064960 2 256 full (first_file ∷ [])
    ∷ leaf_of 1081344 2 256 full (second_file ∷ [])
    ∷ inner_of 1114112 3 257 false (pointer 257 1064960 2 ∷ pointer 258 1081344 2 ∷ [])
    ∷ [])

abbrev pub deleted_source : Layout
deleted_source = deleted_source_by true

-- both leaves and what they name are the snapshot's alone
deleted_source-owners_of_leaf : owners deleted_source 1064960 ≡ 257 ∷ []
unfolding owners reach reach_of_root pieces_of file_part inode_read extent_data_read inode_text extent_data_text
    u64_bytes u16_bytes u64_at
deleted_source-owners_of_leaf = refl

deleted_source-owners_of_extent : owners deleted_source 67174400 ≡ 257 ∷ []
unfolding owners reach reach_of_root pieces_of file_part inode_read extent_data_read inode_text extent_data_text
    u64_bytes u16_bytes u64_at
deleted_source-owners_of_extent = refl

-- a leaf is owed a keyed reference of the subvolume whose root leads to it
deleted_source-owed_to_leaf : owed_to deleted_source 1064960 ≡ KeyedBlock 257 ∷ []
unfolding owed owed_by_node file_part inode_read extent_data_read inode_text extent_data_text u64_bytes u16_bytes u64_at
deleted_source-owed_to_leaf = refl

-- an extent is owed a shared reference with the leaf as parent, and none of 256 or 257
deleted_source-owed_to_first_extent : owed_to deleted_source 67174400 ≡ SharedData 1064960 ∷ []
unfolding owed owed_by_node file_part inode_read extent_data_read inode_text extent_data_text u64_bytes u16_bytes u64_at
deleted_source-owed_to_first_extent = refl

deleted_source-owed_to_second_extent : owed_to deleted_source 67182592 ≡ SharedData 1081344 ∷ []
unfolding owed owed_by_node file_part inode_read extent_data_read inode_text extent_data_text u64_bytes u16_bytes u64_at
deleted_source-owed_to_second_extent = refl

deleted_source-all_at_home : homeless deleted_source ≡ None
unfolding homeless reach reach_of_root pieces_of file_part inode_read extent_data_read inode_text extent_data_text
    u64_bytes u16_bytes u64_at
deleted_source-all_at_home = refl

-- without the mark the first of the two leaves is found
unmarked-leaf_of_deleted : homeless (deleted_source_by false) ≡ Some 1064960
unfolding homeless reach reach_of_root pieces_of file_part inode_read extent_data_read inode_text extent_data_text
    u64_bytes u16_bytes u64_at
unmarked-leaf_of_deleted = refl

-- ---- one node

-- a full node above leaves owes its children shared references with itself as parent, and one that is not full keyed
-- ones of its owner
full_inner_node : owed_by_node (inner_of 1097728 2 256 true (pointer 257 1048576 2 ∷ [])).1
    ≡ record { address = 1048576; reference = SharedBlock 1097728 } ∷ []
unfolding owed_by_node
full_inner_node = refl

other_inner_node : owed_by_node (inner_of 1097728 2 256 false (pointer 257 1048576 2 ∷ [])).1
    ≡ record { address = 1048576; reference = KeyedBlock 256 } ∷ []
unfolding owed_by_node
other_inner_node = refl
