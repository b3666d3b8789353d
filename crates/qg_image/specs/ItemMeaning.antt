-- What an item of each tree stands for (on-disk format, "item types"): nothing where its key or body is none that the
-- tree holds.
use Rattle.std.specs.Prelude.{ℕ, ◌^◌, Bool, true, false, ◌&&◌, ◌||◌, List, [], ◌∷◌, length, Option, Some, None, ◌==◌}
use Rattle.std.specs.Prelude.{nat_le, nat_lt}
use Rattle.std.specs.Option.{option_map, option_and_then}
use Rattle.std.specs.Bool.{then_some}
use Rattle.qg_num.specs.declared.piece.Piece.{Piece}
use Rattle.qg_node.specs.declared.item.Item.{Item}
use Rattle.qg_items.specs.declared.kind.TheConstants.{INODE_ITEM, EXTENT_DATA, ROOT_ITEM, EXTENT_ITEM, METADATA_ITEM}
use Rattle.qg_items.specs.declared.kind.TheConstants.{TREE_BLOCK_REF, EXTENT_DATA_REF, SHARED_BLOCK_REF}
use Rattle.qg_items.specs.declared.kind.TheConstants.{SHARED_DATA_REF, QGROUP_STATUS, QGROUP_INFO, QGROUP_LIMIT}
use Rattle.qg_items.specs.declared.kind.TheConstants.{QGROUP_RELATION}
use Rattle.qg_items.specs.declared.tree.TheConstants.{EXTENT_TREE, TOP_LEVEL, QUOTA_TREE, FIRST_FREE}
use Rattle.qg_items.specs.declared.file.ExtentData.{ExtentData}
use Rattle.qg_items.specs.declared.root.RootItem.{RootItem}
use Rattle.qg_items.specs.declared.extent.Reference.TheVariants.{KeyedBlock, SharedBlock, KeyedData, SharedData}
use Rattle.qg_items.specs.declared.quota.QgroupStatus.{QgroupStatus}
use Rattle.qg_image.specs.declared.part.FilePart.{FilePart}
use Rattle.qg_image.specs.declared.part.FilePart.TheVariants.{Inode, PieceOf}
use Rattle.qg_image.specs.declared.part.ExtentPart.{ExtentPart}
use Rattle.qg_image.specs.declared.part.ExtentPart.TheVariants.{DataRecord, NodeRecord, Referenced}
use Rattle.qg_image.specs.declared.part.QuotaPart.{QuotaPart}
use Rattle.qg_image.specs.declared.part.QuotaPart.TheVariants.{Status, Info, Limits, Relation}
use Rattle.qg_items.specs.ItemReading.{inode_read, extent_data_read, root_read, extent_read, data_ref_read}
use Rattle.qg_items.specs.ItemReading.{shared_data_ref_read, status_read, info_read, limit_read}

-- ---- cases

-- what is given, where the test passes
abbrev pub when : {A : Type 0} → Bool → Option A → Option A
when true given = given
when false given = None

-- there is something, and it passes the test
abbrev pub some_passes : {A : Type 0} → (A → Bool) → Option A → Bool
some_passes test None = false
some_passes test (Some x) = test x

-- the first of several that is something
abbrev pub first_some : {A : Type 0} → List (Option A) → Option A
first_some [] = None
first_some (None ∷ later) = first_some later
first_some (Some x ∷ later) = Some x

-- the first of two that is something
infixr 20 ◌orelse◌
abbrev pub ◌orelse◌ : {A : Type 0} → Option A → Option A → Option A
(Some x) orelse y = Some x
None orelse y = y

-- the item's key is (object, kind, offset)
abbrev pub is_keyed : ℕ → ℕ → ℕ → Item → Bool
is_keyed objectid kind offset item = (item.key.objectid == objectid) && (item.key.kind == kind)
    && (item.key.offset == offset)

-- ---- subvolumes

-- the piece that an item at a position tells; its extent's length stands in it twice
abbrev pub piece_told : ℕ → ExtentData → Option Piece
piece_told position told =
    then_some (told.ram_bytes == told.disk_num_bytes)
    (record {
      position = position;
      len = told.num_bytes;
      extent = told.disk_bytenr;
      offset = told.offset;
      stamp = told.generation;
      extent_bytes = told.disk_num_bytes;
    })

-- a file, by its INODE_ITEM, or a piece of one, by an EXTENT_DATA
unfoldable pub file_part : Item → Option FilePart
file_part item =
    when (is_keyed item.key.objectid INODE_ITEM 0 item) (option_map (Inode item.key.objectid) (inode_read item.body))
    orelse when (item.key.kind == EXTENT_DATA)
    (option_map (PieceOf item.key.objectid)
    (option_and_then (piece_told item.key.offset) (extent_data_read item.body)))

-- the generations that an item tells
abbrev pub file_part_stamps : FilePart → List ℕ
file_part_stamps (Inode ino inode) = inode.generation ∷ inode.transid ∷ []
file_part_stamps (PieceOf ino piece) = piece.stamp ∷ []

-- ---- the root tree

-- a number that a subvolume may have
unfoldable pub is_subvolume_number : ℕ → Bool
is_subvolume_number tree = (tree == TOP_LEVEL) || (nat_le FIRST_FREE tree && nat_lt tree (2 ^ 48))

-- a tree's number and its ROOT_ITEM, whose refs is 1
unfoldable pub root_part : Item → Option (ℕ × RootItem)
root_part item =
    when (is_keyed item.key.objectid ROOT_ITEM 0 item
    && ((item.key.objectid == EXTENT_TREE) || (item.key.objectid == QUOTA_TREE)
    || is_subvolume_number item.key.objectid))
    (option_and_then (λ root. then_some (root.refs == 1) (item.key.objectid, root)) (root_read item.body))

-- the generations that a ROOT_ITEM tells
abbrev pub root_part_stamps : ℕ × RootItem → List ℕ
root_part_stamps part = part.1.generation ∷ part.1.last_snapshot ∷ []

-- ---- the extent tree

-- the record of a data extent or of a node, or a reference to one; a reference to a node has an empty body, and counts
-- 1
unfoldable pub extent_part : Item → Option ExtentPart
extent_part item =
    when (item.key.kind == EXTENT_ITEM) (option_map (DataRecord item.key.objectid item.key.offset)
    (extent_read item.body))
    orelse when (item.key.kind == METADATA_ITEM) (option_map (NodeRecord item.key.objectid item.key.offset)
    (extent_read item.body))
    orelse when ((item.key.kind == TREE_BLOCK_REF) && (length item.body == 0))
    (Some (Referenced item.key.objectid (KeyedBlock item.key.offset) 1))
    orelse when ((item.key.kind == SHARED_BLOCK_REF) && (length item.body == 0))
    (Some (Referenced item.key.objectid (SharedBlock item.key.offset) 1))
    orelse when (item.key.kind == EXTENT_DATA_REF)
    (option_map (λ keyed. Referenced item.key.objectid (KeyedData keyed.root keyed.objectid keyed.offset) keyed.count)
    (data_ref_read item.body))
    orelse when (item.key.kind == SHARED_DATA_REF)
    (option_map (λ shared. Referenced item.key.objectid (SharedData item.key.offset) shared.count)
    (shared_data_ref_read item.body))

-- the generations that an item tells; a reference tells none
abbrev pub extent_part_stamps : ExtentPart → List ℕ
extent_part_stamps (DataRecord address bytes extent) = extent.generation ∷ []
extent_part_stamps (NodeRecord address level extent) = extent.generation ∷ []
extent_part_stamps (Referenced address reference count) = []

-- ---- the quota tree

-- quota is on, and no rescan runs
abbrev pub is_status : QgroupStatus → Bool
is_status status = (status.flags == 1) && (status.cursor == 0)

-- the state of quota, a group's counters, its limits, or one end of a relation, whose body is empty
unfoldable pub quota_part : Item → Option QuotaPart
quota_part item =
    when (is_keyed 0 QGROUP_STATUS 0 item) (option_and_then (λ status. then_some (is_status status) (Status status))
    (status_read item.body))
    orelse when (is_keyed 0 QGROUP_INFO item.key.offset item) (option_map (Info item.key.offset) (info_read item.body))
    orelse when (is_keyed 0 QGROUP_LIMIT item.key.offset item)
    (option_and_then (λ limit. then_some (nat_le limit.flags 3) (Limits item.key.offset limit))
    (limit_read item.body))
    orelse when ((item.key.kind == QGROUP_RELATION) && (length item.body == 0))
    (Some (Relation item.key.objectid item.key.offset))

-- the generations that an item tells; limits and relations tell none
abbrev pub quota_part_stamps : QuotaPart → List ℕ
quota_part_stamps (Status status) = status.generation ∷ []
quota_part_stamps (Info group info) = info.generation ∷ []
quota_part_stamps (Limits group limit) = []
quota_part_stamps (Relation group other) = []
