-- Small states, and what is counted, owed and needed in them. All numbers were worked out by hand.
use Rattle.std.specs.Prelude.{◌≡◌, ℕ, ◌+◌, ◌*◌, ◌^◌, false, List, [], ◌∷◌, map, Some, None, refl}
use Rattle.std.specs.List.{flat_map, sum_by}
use Rattle.qg_num.specs.Fields.{u64_bytes, u32_bytes, u16_bytes, u64_at, u32_at}
use Rattle.qg_num.specs.declared.piece.Piece.{Piece}
use Rattle.qg_num.specs.declared.counters.Which.TheVariants.{Rfer}
use Rattle.qg_node.specs.declared.item.Item.{Item}
use Rattle.qg_node.specs.declared.node.Node.{Node}
use Rattle.qg_node.specs.declared.node.Node.TheVariants.{Leaf}
use Rattle.qg_items.specs.declared.extent.Reference.TheVariants.{KeyedBlock, KeyedData}
use Rattle.qg_items.specs.ItemText.{inode_text, extent_data_text, root_text, extent_text, status_text, info_text}
use Rattle.qg_items.specs.ItemText.{limit_text}
use Rattle.qg_items.specs.ItemReading.{inode_read, extent_data_read, root_read, extent_read, status_read, info_read}
use Rattle.qg_items.specs.ItemReading.{limit_read}
use Rattle.qg_super.specs.declared.sizes.Sizes.{Sizes}
use Rattle.qg_super.specs.Places.{is_slot, is_run}
use Rattle.qg_image.specs.declared.file.File.{File}
use Rattle.qg_image.specs.ItemMeaning.{file_part, root_part, extent_part, quota_part, is_subvolume_number}
use Rattle.qg_image.specs.declared.quota.Group.{Group}
use Rattle.qg_image.specs.declared.quota.Quota.{Quota}
use Rattle.qg_image.specs.State.{State, Subvolume, Placed, blank_state, blank_subvolume, blank_quota, nothing_held}
use Rattle.qg_image.specs.State.{layout_of}
use Rattle.qg_image.specs.Reach.{pieces_of, reach_of_root, reach, owners}
use Rattle.qg_image.specs.Members.{Hierarchy, leads, is_below, members, next_subvolume}
use Rattle.qg_image.specs.Counts.{reach_of_group, is_reached_outside, referenced, exclusive}
use Rattle.qg_image.specs.Limits.{bytes_reserved, first_over, over}
use Rattle.qg_image.specs.Space.{present_extents, is_free_run, is_free_slot, free_slots, least, first_run}
use Rattle.qg_image.specs.Owed.{owed_by_node, owed, owed_count, layout_extents}
use Rattle.qg_image.specs.Record.{RootOf, NodeOf, ReferenceTo, Status, InfoOf, LimitOf, record_named}
use Rattle.qg_image.specs.Need.{present_records, held_records, weight, file_copies, file_need, structural_need}
use Rattle.qg_image.specs.Need.{commit_room}

-- ---- making states

abbrev pub piece_item : ℕ → Piece → Item
piece_item ino piece = record {
  key = record { objectid = ino; kind = 108; offset = piece.position };
  body = extent_data_text (record {
    generation = piece.stamp;
    ram_bytes = piece.extent_bytes;
    disk_bytenr = piece.extent;
    disk_num_bytes = piece.extent_bytes;
    offset = piece.offset;
    num_bytes = piece.len;
  });
}

abbrev pub file_items : ℕ → File → List Item
file_items ino file =
    record {
      key = record { objectid = ino; kind = 1; offset = 0 };
      body = inode_text (record {
        generation = file.generation;
        transid = file.transid;
        size = file.size;
        nbytes = sum_by (λ piece. piece.len) file.pieces;
      });
    }
    ∷ map (piece_item ino) file.pieces

-- a leaf with these files
abbrev pub leaf : ℕ → ℕ → List (ℕ × File) → ℕ × Placed
leaf address owner files = (
  address,
  record {
    node = Leaf (record { address = address; generation = 2; owner = owner; level = 0 })
        (flat_map (λ entry. file_items entry.0 entry.1) files);
    full = false;
  },
)

-- a subvolume whose tree is one leaf
abbrev pub subvolume : ℕ → List (ℕ × File) → Subvolume
subvolume root files = record (blank_subvolume root) { files = files }

abbrev pub group : Group
group = record { counters = record { rfer = 0; excl = 0 }; max_rfer = None; max_excl = None; stamp = 1 }

abbrev pub small : Sizes
small = record { nodesize = 16384; slots = 64; sectors = 1024 }

abbrev pub state_of : List (ℕ × Subvolume) → List (ℕ × Placed) → List ℕ → List (ℕ × ℕ) → State
state_of subvolumes layout groups pairs = record (blank_state small) {
  generation = 2;
  subvolumes = subvolumes;
  layout = layout;
  quota = Some (record blank_quota { groups = map (λ g. (g, group)) groups; pairs = pairs });
}

abbrev pub groups_of : List ℕ → List (ℕ × ℕ) → Hierarchy
groups_of groups pairs = record { groups = groups; pairs = pairs }

-- a piece of the extent of 8192 bytes at the first sector
abbrev pub piece : ℕ → ℕ → ℕ → Piece
piece position len offset = record {
  position = position;
  len = len;
  extent = 67174400;
  offset = offset;
  stamp = 2;
  extent_bytes = 8192;
}

abbrev pub file : ℕ → List Piece → File
file size pieces = record { size = size; generation = 2; transid = 2; pieces = pieces }

-- ---- the first write: 8192 bytes in subvolume 5

abbrev pub written : List (ℕ × File)
written = (257, file 8192 (piece 0 8192 0 ∷ [])) ∷ []

abbrev pub first_write : State
first_write = state_of ((5, subvolume 1048576 written) ∷ []) (leaf 1048576 5 written ∷ []) (5 ∷ []) []

first_write-referenced : referenced (layout_of first_write) (groups_of (5 ∷ []) []) 5 ≡ 24576
unfolding referenced reach_of_group members is_below leads reach reach_of_root pieces_of file_part inode_read
    extent_data_read inode_text extent_data_text u64_bytes u16_bytes u64_at
first_write-referenced = refl

first_write-exclusive : exclusive (layout_of first_write) (groups_of (5 ∷ []) []) 5 ≡ 24576
unfolding exclusive is_reached_outside reach_of_group members is_below leads reach reach_of_root pieces_of file_part
    inode_read extent_data_read inode_text extent_data_text u64_bytes u16_bytes u64_at
first_write-exclusive = refl

-- ---- its snapshot: subvolume 256 has a root of its own and shares the extent; both groups are members of 1/1

abbrev pub one_one : ℕ
one_one = 2 ^ 48 + 1

abbrev pub shared_groups : Hierarchy
shared_groups = groups_of (5 ∷ 256 ∷ one_one ∷ []) ((5, one_one) ∷ (256, one_one) ∷ [])

abbrev pub snapshot : State
snapshot = state_of ((5, subvolume 1048576 written) ∷ (256, subvolume 1064960 written) ∷ [])
    (leaf 1048576 5 written ∷ leaf 1064960 256 written ∷ []) (5 ∷ 256 ∷ one_one ∷ [])
    ((5, one_one) ∷ (256, one_one) ∷ [])

snapshot-referenced : referenced (layout_of snapshot) shared_groups 256 ≡ 24576
unfolding referenced reach_of_group members is_below leads reach reach_of_root pieces_of file_part inode_read
    extent_data_read inode_text extent_data_text u64_bytes u16_bytes u64_at
snapshot-referenced = refl

snapshot-exclusive : exclusive (layout_of snapshot) shared_groups 256 ≡ 16384
unfolding exclusive is_reached_outside reach_of_group members is_below leads reach reach_of_root pieces_of file_part
    inode_read extent_data_read inode_text extent_data_text u64_bytes u16_bytes u64_at
snapshot-exclusive = refl

-- two roots, and the extent once
snapshot-parent_referenced : referenced (layout_of snapshot) shared_groups one_one ≡ 40960
unfolding referenced reach_of_group members is_below leads reach reach_of_root pieces_of file_part inode_read
    extent_data_read inode_text extent_data_text u64_bytes u16_bytes u64_at
snapshot-parent_referenced = refl

snapshot-parent_exclusive : exclusive (layout_of snapshot) shared_groups one_one ≡ 40960
unfolding exclusive is_reached_outside reach_of_group members is_below leads reach reach_of_root pieces_of file_part
    inode_read extent_data_read inode_text extent_data_text u64_bytes u16_bytes u64_at
snapshot-parent_exclusive = refl

snapshot-owners : owners (layout_of snapshot) 67174400 ≡ 5 ∷ 256 ∷ []
unfolding owners reach reach_of_root pieces_of file_part inode_read extent_data_read inode_text extent_data_text
    u64_bytes u16_bytes u64_at
snapshot-owners = refl

snapshot-owed : owed_count (layout_of snapshot) 67174400 (KeyedData 256 257 0) ≡ 1
unfolding owed_count owed owed_by_node file_part inode_read extent_data_read inode_text extent_data_text u64_bytes
    u16_bytes u64_at
snapshot-owed = refl

-- a subvolume that is gone is a member while its group stands, and reaches nothing
abbrev pub deleted : State
deleted = state_of ((5, subvolume 1048576 written) ∷ []) (leaf 1048576 5 written ∷ []) (5 ∷ 256 ∷ one_one ∷ [])
    ((5, one_one) ∷ (256, one_one) ∷ [])

deleted-is_member : members shared_groups one_one ≡ 5 ∷ 256 ∷ []
unfolding members is_below leads
deleted-is_member = refl

deleted-referenced : referenced (layout_of deleted) shared_groups 256 ≡ 0
unfolding referenced reach_of_group members is_below leads reach reach_of_root pieces_of file_part inode_read
    extent_data_read inode_text extent_data_text u64_bytes u16_bytes u64_at
deleted-referenced = refl

-- ---- a diamond: 0/5 leads to 2/1 by 1/1 and by 1/2, and counts there once

abbrev pub one_two : ℕ
one_two = 2 ^ 48 + 2

abbrev pub two_one : ℕ
two_one = 2 * 2 ^ 48 + 1

abbrev pub diamond : Hierarchy
diamond = groups_of (5 ∷ one_one ∷ one_two ∷ two_one ∷ []) ((5, one_one) ∷ (5, one_two) ∷ (one_one, two_one)
    ∷ (one_two, two_one) ∷ [])

diamond-members : members diamond two_one ≡ 5 ∷ []
unfolding members is_below leads
diamond-members = refl

diamond-referenced : referenced (layout_of (state_of ((5, subvolume 1048576 []) ∷ []) (leaf 1048576 5 [] ∷ []) [] []))
    diamond two_one ≡ 16384
unfolding referenced reach_of_group members is_below leads reach reach_of_root pieces_of file_part inode_read
    extent_data_read inode_text extent_data_text u64_bytes u16_bytes u64_at
diamond-referenced = refl

-- ---- a clone inside the subvolume: two pieces of one extent count it once

abbrev pub cloned_inside : List (ℕ × File)
cloned_inside = (257, file 16384 (piece 0 8192 0 ∷ piece 8192 8192 0 ∷ [])) ∷ []

clone_inside-referenced : referenced
    (layout_of (state_of ((5, subvolume 1048576 cloned_inside) ∷ []) (leaf 1048576 5 cloned_inside ∷ []) (5 ∷ []) []))
    (groups_of (5 ∷ []) []) 5 ≡ 24576
unfolding referenced reach_of_group members is_below leads reach reach_of_root pieces_of file_part inode_read
    extent_data_read inode_text extent_data_text u64_bytes u16_bytes u64_at
clone_inside-referenced = refl

-- the second piece is owed a reference of its own
clone_inside-owed : owed_count
    (layout_of (state_of ((5, subvolume 1048576 cloned_inside) ∷ []) (leaf 1048576 5 cloned_inside ∷ []) [] []))
    67174400 (KeyedData 5 257 8192) ≡ 1
unfolding owed_count owed owed_by_node file_part inode_read extent_data_read inode_text extent_data_text u64_bytes
    u16_bytes u64_at
clone_inside-owed = refl

-- ---- a clone between two subvolumes: the extent is exclusive to neither

abbrev pub cloned_between : State
cloned_between = state_of ((5, subvolume 1048576 written) ∷ (256, subvolume 1064960 written) ∷ [])
    (leaf 1048576 5 written ∷ leaf 1064960 256 written ∷ []) (5 ∷ 256 ∷ []) []

clone_between-referenced : referenced (layout_of cloned_between) (groups_of (5 ∷ 256 ∷ []) []) 5 ≡ 24576
unfolding referenced reach_of_group members is_below leads reach reach_of_root pieces_of file_part inode_read
    extent_data_read inode_text extent_data_text u64_bytes u16_bytes u64_at
clone_between-referenced = refl

clone_between-exclusive : exclusive (layout_of cloned_between) (groups_of (5 ∷ 256 ∷ []) []) 5 ≡ 16384
unfolding exclusive is_reached_outside reach_of_group members is_below leads reach reach_of_root pieces_of file_part
    inode_read extent_data_read inode_text extent_data_text u64_bytes u16_bytes u64_at
clone_between-exclusive = refl

-- ---- a cut piece: its extent counts whole

abbrev pub cut : List (ℕ × File)
cut = (257, file 4096 (piece 0 4096 0 ∷ [])) ∷ []

cut_piece-referenced : referenced
    (layout_of (state_of ((5, subvolume 1048576 cut) ∷ []) (leaf 1048576 5 cut ∷ []) (5 ∷ []) []))
    (groups_of (5 ∷ []) []) 5 ≡ 24576
unfolding referenced reach_of_group members is_below leads reach reach_of_root pieces_of file_part inode_read
    extent_data_read inode_text extent_data_text u64_bytes u16_bytes u64_at
cut_piece-referenced = refl

-- ---- a piece whose position is less than its offset: the reference's offset is 2^64 less 4096

abbrev pub behind : List (ℕ × File)
behind = (258, file 4096 (piece 0 4096 4096 ∷ [])) ∷ []

behind-owed : owed_count (layout_of (state_of ((5, subvolume 1048576 behind) ∷ []) (leaf 1048576 5 behind ∷ []) [] []))
    67174400 (KeyedData 5 258 18446744073709547520) ≡ 1
unfolding owed_count owed owed_by_node file_part inode_read extent_data_read inode_text extent_data_text u64_bytes
    u16_bytes u64_at
behind-owed = refl

-- ---- need: a fresh image of 64 slots, with its root, extent and quota trees, each a leaf. The extent tree's records
-- the root node of the subvolume and the reference to it, as it will once it records what is referenced

abbrev pub item_at : ℕ → ℕ → ℕ → List ℕ → Item
item_at objectid kind offset body = record {
  key = record { objectid = objectid; kind = kind; offset = offset };
  body = body;
}

abbrev pub tree_leaf : ℕ → ℕ → List Item → Node
tree_leaf address owner items = Leaf (record { address = address; generation = 1; owner = owner; level = 0 }) items

-- the ROOT_ITEM of a tree whose root is a leaf at an address
abbrev pub root_item : ℕ → ℕ → Item
root_item tree address =
    item_at tree 132 0 (root_text (record { generation = 1; bytenr = address; last_snapshot = 0; refs = 1; level = 0 }))

abbrev pub fresh_others : List Node
fresh_others =
    tree_leaf 1048576 1 (root_item 2 1064960 ∷ root_item 5 1097728 ∷ root_item 8 1081344 ∷ [])
    ∷ tree_leaf 1064960 2 (item_at 1097728 169 0 (extent_text (record { refs = 1; generation = 1; flags = 2 }))
    ∷ item_at 1097728 176 5 [] ∷ [])
    ∷ tree_leaf 1081344 8
    (item_at 0 240 0 (status_text (record { generation = 1; flags = 1; cursor = 0 }))
    ∷ item_at 0 242 5 (info_text (record {
      generation = 1;
      rfer = 16384;
      rfer_cmpr = 16384;
      excl = 16384;
      excl_cmpr = 16384;
    }))
    ∷ item_at 0 244 5 (limit_text (record { flags = 0; max_rfer = 0; max_excl = 0 }))
    ∷ [])
    ∷ []

abbrev pub fresh : State
fresh = record (blank_state small) {
  generation = 1;
  subvolumes = (5, subvolume 1097728 []) ∷ [];
  layout = (
    1097728,
    record {
      node = Leaf (record { address = 1097728; generation = 1; owner = 5; level = 0 }) [];
      full = false;
    },
  ) ∷ [];
  quota = Some (record blank_quota {
    groups = (
      5,
      record {
        counters = record { rfer = 16384; excl = 16384 };
        max_rfer = None;
        max_excl = None;
        stamp = 1;
      },
    ) ∷ [];
  });
  held = record nothing_held {
    nodes = 1048576 ∷ 1064960 ∷ 1081344 ∷ 1097728 ∷ [];
    others = fresh_others;
  };
}

-- what its three trees' items name
pub fresh-records : held_records fresh.held ≡ RootOf 2 ∷ RootOf 5 ∷ RootOf 8 ∷ NodeOf 1097728 0 ∷ ReferenceTo 1097728
    (KeyedBlock 5) ∷ Status ∷ InfoOf 5 ∷ LimitOf 5 ∷ []
unfolding held_records record_named root_part extent_part quota_part is_subvolume_number root_read extent_read
    status_read info_read limit_read root_text extent_text status_text info_text limit_text u64_bytes u32_bytes u32_at
    u16_bytes u64_at
fresh-records = refl

pub fresh-weight : weight fresh ≡ 1653
unfolding weight present_records owed owed_by_node layout_extents pieces_of
fresh-weight = rw fresh-records refl

fresh-free_slots : free_slots fresh ≡ 60
unfolding free_slots is_free_slot is_slot
fresh-free_slots = refl

fresh-write_need : file_need fresh (file_copies 0 0) ≡ 228
fresh-write_need = rw fresh-weight refl

fresh-structural_need : structural_need fresh 18 ≡ 276
fresh-structural_need = rw fresh-weight refl

fresh-commit_room : commit_room fresh ≡ 45
fresh-commit_room = rw fresh-weight refl

fresh-first_run : first_run fresh 4096 ≡ Some 67174400
unfolding first_run least is_free_run is_run present_extents
fresh-first_run = refl

-- the run after the extent that the file names
written-first_run : first_run first_write 4096 ≡ Some 67182592
unfolding first_run least is_free_run is_run present_extents
written-first_run = refl

-- the number to come
fresh-next_subvolume : next_subvolume (5 ∷ []) (5 ∷ one_one ∷ []) ≡ 256
unfolding next_subvolume
fresh-next_subvolume = refl

-- ---- limits: a reservation that reaches a limit is accepted, one byte more is not

abbrev pub limited : ℕ → Quota
limited max = record blank_quota {
  groups = (
    5,
    record {
      counters = record { rfer = 16384; excl = 16384 };
      max_rfer = Some max;
      max_excl = None;
      stamp = 1;
    },
  ) ∷ [];
}

equality_is_accepted : over (limited 36864) [] 5 20480 ≡ None
unfolding over first_over bytes_reserved members is_below leads
equality_is_accepted = refl

one_more_is_refused : over (limited 36863) [] 5 20480 ≡ Some (5, Rfer)
unfolding over first_over bytes_reserved members is_below leads
one_more_is_refused = refl
