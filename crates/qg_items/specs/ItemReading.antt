-- What a body's bytes are read as (on-disk format, "item types"): nothing exactly where the length or a constant byte
-- differs.
use Rattle.std.specs.Prelude.{ℕ, ◌&&◌, List, length, slice_index, Option, ◌==◌}
use Rattle.std.specs.Bool.{then_some}
use Rattle.qg_num.specs.Fields.{u64_at, u32_at, is_zero}
use Rattle.qg_items.specs.declared.file.InodeItem.{InodeItem}
use Rattle.qg_items.specs.declared.file.ExtentData.{ExtentData}
use Rattle.qg_items.specs.declared.root.RootItem.{RootItem}
use Rattle.qg_items.specs.declared.extent.ExtentItem.{ExtentItem}
use Rattle.qg_items.specs.declared.extent.ExtentDataRef.{ExtentDataRef}
use Rattle.qg_items.specs.declared.extent.SharedDataRef.{SharedDataRef}
use Rattle.qg_items.specs.declared.quota.QgroupStatus.{QgroupStatus}
use Rattle.qg_items.specs.declared.quota.QgroupInfo.{QgroupInfo}
use Rattle.qg_items.specs.declared.quota.QgroupLimit.{QgroupLimit}

-- an INODE_ITEM: 160 bytes, and those from 32 on are 0
unfoldable pub inode_read : List ℕ → Option InodeItem
inode_read bytes =
    then_some ((length bytes == 160) && is_zero 32 160 bytes)
    (record { generation = u64_at 0 bytes; transid = u64_at 8 bytes; size = u64_at 16 bytes; nbytes = u64_at 24 bytes })

-- an EXTENT_DATA: 53 bytes; compression, encryption and other encoding are 0, the type is 1 (regular)
unfoldable pub extent_data_read : List ℕ → Option ExtentData
extent_data_read bytes =
    then_some ((length bytes == 53) && is_zero 16 20 bytes && (slice_index bytes 20 == 1))
    (record {
      generation = u64_at 0 bytes;
      ram_bytes = u64_at 8 bytes;
      disk_bytenr = u64_at 21 bytes;
      disk_num_bytes = u64_at 29 bytes;
      offset = u64_at 37 bytes;
      num_bytes = u64_at 45 bytes;
    })

-- a ROOT_ITEM: 439 bytes, and all but these five fields are 0
unfoldable pub root_read : List ℕ → Option RootItem
root_read bytes =
    then_some ((length bytes == 439) && is_zero 0 160 bytes && is_zero 168 176 bytes && is_zero 184 200 bytes
    && is_zero 208 216 bytes && is_zero 220 238 bytes && is_zero 239 439 bytes)
    (record {
      generation = u64_at 160 bytes;
      bytenr = u64_at 176 bytes;
      last_snapshot = u64_at 200 bytes;
      refs = u32_at 216 bytes;
      level = slice_index bytes 238;
    })

-- an EXTENT_ITEM or a METADATA_ITEM: 24 bytes
unfoldable pub extent_read : List ℕ → Option ExtentItem
extent_read bytes =
    then_some (length bytes == 24)
    (record { refs = u64_at 0 bytes; generation = u64_at 8 bytes; flags = u64_at 16 bytes })

-- an EXTENT_DATA_REF: 28 bytes
unfoldable pub data_ref_read : List ℕ → Option ExtentDataRef
data_ref_read bytes =
    then_some (length bytes == 28)
    (record { root = u64_at 0 bytes; objectid = u64_at 8 bytes; offset = u64_at 16 bytes; count = u32_at 24 bytes })

-- a SHARED_DATA_REF: 4 bytes
unfoldable pub shared_data_ref_read : List ℕ → Option SharedDataRef
shared_data_ref_read bytes = then_some (length bytes == 4) (record { count = u32_at 0 bytes })

-- a QGROUP_STATUS: 32 bytes of version 1, in the layout without the later field enable_gen
unfoldable pub status_read : List ℕ → Option QgroupStatus
status_read bytes =
    then_some ((length bytes == 32) && (u64_at 0 bytes == 1))
    (record { generation = u64_at 8 bytes; flags = u64_at 16 bytes; cursor = u64_at 24 bytes })

-- a QGROUP_INFO: 40 bytes
unfoldable pub info_read : List ℕ → Option QgroupInfo
info_read bytes =
    then_some (length bytes == 40)
    (record {
      generation = u64_at 0 bytes;
      rfer = u64_at 8 bytes;
      rfer_cmpr = u64_at 16 bytes;
      excl = u64_at 24 bytes;
      excl_cmpr = u64_at 32 bytes;
    })

-- a QGROUP_LIMIT: 40 bytes, and the two limits on reservations are 0
unfoldable pub limit_read : List ℕ → Option QgroupLimit
limit_read bytes =
    then_some ((length bytes == 40) && is_zero 24 40 bytes)
    (record { flags = u64_at 0 bytes; max_rfer = u64_at 8 bytes; max_excl = u64_at 16 bytes })
