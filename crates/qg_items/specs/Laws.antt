-- What reading and writing a body are to each other (this project's own).
use Rattle.std.specs.Prelude.{◌≡◌, ℕ, ◌^◌, ◌<◌, List, Option, Some}
use Rattle.qg_num.specs.Fields.{IsBytes}
use Rattle.qg_items.specs.declared.file.InodeItem.{InodeItem}
use Rattle.qg_items.specs.declared.file.ExtentData.{ExtentData}
use Rattle.qg_items.specs.declared.root.RootItem.{RootItem}
use Rattle.qg_items.specs.declared.extent.ExtentItem.{ExtentItem}
use Rattle.qg_items.specs.declared.extent.ExtentDataRef.{ExtentDataRef}
use Rattle.qg_items.specs.declared.extent.SharedDataRef.{SharedDataRef}
use Rattle.qg_items.specs.declared.quota.QgroupStatus.{QgroupStatus}
use Rattle.qg_items.specs.declared.quota.QgroupInfo.{QgroupInfo}
use Rattle.qg_items.specs.declared.quota.QgroupLimit.{QgroupLimit}

-- the text of an item and the reading of bytes undo each other
pub record RoundTrips {Item : Type 0} (Fits : Item → Type 0) (text : Item → List ℕ) (read : List ℕ
    → Option Item) : Type 0 where
  -- an item whose numbers fit is read from its text
  pub reads_back : (item : Item) → Fits item → read (text item) ≡ Some item
  -- bytes that are read as an item are its text
  pub writes_back : (bytes : List ℕ) (item : Item) → IsBytes bytes → read bytes ≡ Some item → bytes ≡ text item
  -- and its numbers fit
  pub fits : (bytes : List ℕ) (item : Item) → IsBytes bytes → read bytes ≡ Some item → Fits item
  -- so bytes are the text of one item at most
  pub one_item : (a b : Item) → Fits a → Fits b → text a ≡ text b → a ≡ b
  -- and an item is read from one text
  pub one_text : (a b : List ℕ) (item : Item) → IsBytes a → IsBytes b → read a ≡ Some item → read b ≡ Some item → a ≡ b

-- ---- the numbers of an item fit their fields

-- of an INODE_ITEM: four fields of 8 bytes
pub record InodeFits (inode : InodeItem) : Type 0 where
  pub generation : inode.generation < 2 ^ 64
  pub transid : inode.transid < 2 ^ 64
  pub size : inode.size < 2 ^ 64
  pub nbytes : inode.nbytes < 2 ^ 64

-- of an EXTENT_DATA: six fields of 8 bytes
pub record ExtentDataFits (piece : ExtentData) : Type 0 where
  pub generation : piece.generation < 2 ^ 64
  pub ram_bytes : piece.ram_bytes < 2 ^ 64
  pub disk_bytenr : piece.disk_bytenr < 2 ^ 64
  pub disk_num_bytes : piece.disk_num_bytes < 2 ^ 64
  pub offset : piece.offset < 2 ^ 64
  pub num_bytes : piece.num_bytes < 2 ^ 64

-- of a ROOT_ITEM: three fields of 8 bytes, one of 4 and one of 1
pub record RootFits (root : RootItem) : Type 0 where
  pub generation : root.generation < 2 ^ 64
  pub bytenr : root.bytenr < 2 ^ 64
  pub last_snapshot : root.last_snapshot < 2 ^ 64
  pub refs : root.refs < 2 ^ 32
  pub level : root.level < 2 ^ 8

-- of an EXTENT_ITEM or a METADATA_ITEM: three fields of 8 bytes
pub record ExtentFits (extent : ExtentItem) : Type 0 where
  pub refs : extent.refs < 2 ^ 64
  pub generation : extent.generation < 2 ^ 64
  pub flags : extent.flags < 2 ^ 64

-- of an EXTENT_DATA_REF: three fields of 8 bytes and one of 4
pub record DataRefFits (reference : ExtentDataRef) : Type 0 where
  pub root : reference.root < 2 ^ 64
  pub objectid : reference.objectid < 2 ^ 64
  pub offset : reference.offset < 2 ^ 64
  pub count : reference.count < 2 ^ 32

-- of a SHARED_DATA_REF: one field of 4 bytes
pub record SharedDataRefFits (reference : SharedDataRef) : Type 0 where
  pub count : reference.count < 2 ^ 32

-- of a QGROUP_STATUS, behind its version: three fields of 8 bytes
pub record StatusFits (status : QgroupStatus) : Type 0 where
  pub generation : status.generation < 2 ^ 64
  pub flags : status.flags < 2 ^ 64
  pub cursor : status.cursor < 2 ^ 64

-- of a QGROUP_INFO: five fields of 8 bytes
pub record InfoFits (info : QgroupInfo) : Type 0 where
  pub generation : info.generation < 2 ^ 64
  pub rfer : info.rfer < 2 ^ 64
  pub rfer_cmpr : info.rfer_cmpr < 2 ^ 64
  pub excl : info.excl < 2 ^ 64
  pub excl_cmpr : info.excl_cmpr < 2 ^ 64

-- of a QGROUP_LIMIT, in front of its zeros: three fields of 8 bytes
pub record LimitFits (limit : QgroupLimit) : Type 0 where
  pub flags : limit.flags < 2 ^ 64
  pub max_rfer : limit.max_rfer < 2 ^ 64
  pub max_excl : limit.max_excl < 2 ^ 64
