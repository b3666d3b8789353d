-- The one text of each item's body, field by field (on-disk format, "item types").
--
-- What a text has as `zeros` is 0 in this project's own profile.
use Rattle.std.specs.Prelude.{ℕ, List, [], ◌∷◌, ◌++◌}
use Rattle.qg_num.specs.Fields.{u64_bytes, u32_bytes, u16_bytes, zeros}
use Rattle.qg_items.specs.declared.file.InodeItem.{InodeItem}
use Rattle.qg_items.specs.declared.file.ExtentData.{ExtentData}
use Rattle.qg_items.specs.declared.root.RootItem.{RootItem}
use Rattle.qg_items.specs.declared.extent.ExtentItem.{ExtentItem}
use Rattle.qg_items.specs.declared.extent.ExtentDataRef.{ExtentDataRef}
use Rattle.qg_items.specs.declared.extent.SharedDataRef.{SharedDataRef}
use Rattle.qg_items.specs.declared.quota.QgroupStatus.{QgroupStatus}
use Rattle.qg_items.specs.declared.quota.QgroupInfo.{QgroupInfo}
use Rattle.qg_items.specs.declared.quota.QgroupLimit.{QgroupLimit}

-- 160 bytes
unfoldable pub inode_text : InodeItem → List ℕ
inode_text inode = u64_bytes inode.generation ++ u64_bytes inode.transid ++ u64_bytes inode.size
    ++ u64_bytes inode.nbytes ++ zeros 128

-- 53 bytes: no compression, no encryption, no other encoding, type 1 (regular)
unfoldable pub extent_data_text : ExtentData → List ℕ
extent_data_text piece =
    u64_bytes piece.generation ++ u64_bytes piece.ram_bytes ++ (0 ∷ 0 ∷ []) ++ u16_bytes 0 ++ (1 ∷ [])
    ++ u64_bytes piece.disk_bytenr ++ u64_bytes piece.disk_num_bytes ++ u64_bytes piece.offset
    ++ u64_bytes piece.num_bytes

-- 439 bytes: the generation at 160, the address at 176, last_snapshot at 200, refs at 216, the level at 238
unfoldable pub root_text : RootItem → List ℕ
root_text root =
    zeros 160 ++ u64_bytes root.generation ++ zeros 8 ++ u64_bytes root.bytenr ++ zeros 16
    ++ u64_bytes root.last_snapshot
    ++ zeros 8 ++ u32_bytes root.refs ++ zeros 18 ++ (root.level ∷ []) ++ zeros 200

-- 24 bytes
unfoldable pub extent_text : ExtentItem → List ℕ
extent_text extent = u64_bytes extent.refs ++ u64_bytes extent.generation ++ u64_bytes extent.flags

-- 28 bytes
unfoldable pub data_ref_text : ExtentDataRef → List ℕ
data_ref_text reference = u64_bytes reference.root ++ u64_bytes reference.objectid ++ u64_bytes reference.offset
    ++ u32_bytes reference.count

-- 4 bytes
unfoldable pub shared_data_ref_text : SharedDataRef → List ℕ
shared_data_ref_text reference = u32_bytes reference.count

-- 32 bytes: version 1, in the layout without the later field enable_gen
unfoldable pub status_text : QgroupStatus → List ℕ
status_text status = u64_bytes 1 ++ u64_bytes status.generation ++ u64_bytes status.flags ++ u64_bytes status.cursor

-- 40 bytes
unfoldable pub info_text : QgroupInfo → List ℕ
info_text info = u64_bytes info.generation ++ u64_bytes info.rfer ++ u64_bytes info.rfer_cmpr ++ u64_bytes info.excl
    ++ u64_bytes info.excl_cmpr

-- 40 bytes: the two limits on reservations are 0
unfoldable pub limit_text : QgroupLimit → List ℕ
limit_text limit = u64_bytes limit.flags ++ u64_bytes limit.max_rfer ++ u64_bytes limit.max_excl ++ zeros 16
