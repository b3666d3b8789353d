-- The key of the item that says something (on-disk format, "item types").
use Rattle.std.specs.Prelude.{ℕ}
use Rattle.qg_num.specs.declared.key.Key.{Key}
use Rattle.qg_image.specs.Types.{RootItem}
use Rattle.qg_image.specs.Types.{INODE_ITEM, EXTENT_DATA, ROOT_ITEM, QGROUP_STATUS, QGROUP_INFO}
use Rattle.qg_image.specs.Types.{QGROUP_LIMIT, QGROUP_RELATION}
use Rattle.qg_image.specs.declared.part.FilePart.{FilePart}
use Rattle.qg_image.specs.declared.part.FilePart.TheVariants.{Inode, PieceOf}
use Rattle.qg_image.specs.declared.part.QuotaPart.{QuotaPart}
use Rattle.qg_image.specs.declared.part.QuotaPart.TheVariants.{Status, Info, Limits, Relation}

-- the key (object, kind, offset)
abbrev pub key_with : ℕ → ℕ → ℕ → Key
key_with objectid kind offset = record { objectid = objectid; kind = kind; offset = offset }

-- of a tree's root: (tree, ROOT_ITEM, 0)
abbrev pub root_key : ℕ × RootItem → Key
root_key part = key_with part.0 ROOT_ITEM 0

-- of a file: (inode, INODE_ITEM, 0); of a piece of one: (inode, EXTENT_DATA, position)
abbrev pub file_key : FilePart → Key
file_key (Inode ino inode) = key_with ino INODE_ITEM 0
file_key (PieceOf ino piece) = key_with ino EXTENT_DATA piece.position

-- of the state of quota: (0, QGROUP_STATUS, 0); of a group's counters or limits: (0, kind, group); of a relation:
-- (group, QGROUP_RELATION, other)
abbrev pub quota_key : QuotaPart → Key
quota_key (Status status) = key_with 0 QGROUP_STATUS 0
quota_key (Info group info) = key_with 0 QGROUP_INFO group
quota_key (Limits group limit) = key_with 0 QGROUP_LIMIT group
quota_key (Relation group other) = key_with group QGROUP_RELATION other
