-- What the items of the root, extent and quota trees name, and how much room each takes (on-disk format, "item types").
--
-- Two items are one where they name the same: a key for most, and for a reference what it names and not its key's
-- number.
use Rattle.std.specs.Prelude.{ℕ, ◌+◌, Bool, true, false, ◌&&◌, List, [], ◌∷◌, Option, ◌==◌, if◌then◌else◌}
use Rattle.std.specs.List.{list_any, sum_by}
use Rattle.std.specs.Option.{option_map}
use Rattle.qg_node.specs.declared.item.Item.{Item}
use Rattle.qg_items.specs.declared.extent.Reference.{Reference}
use Rattle.qg_items.specs.declared.extent.Reference.TheVariants.{KeyedBlock, SharedBlock, KeyedData, SharedData}
use Rattle.qg_image.specs.declared.part.ExtentPart.{ExtentPart}
use Rattle.qg_image.specs.declared.part.ExtentPart.TheVariants.{DataRecord, NodeRecord, Referenced}
use Rattle.qg_image.specs.declared.part.QuotaPart.{QuotaPart}
use Rattle.qg_image.specs.declared.part.QuotaPart.TheVariants as part
use Rattle.qg_image.specs.ItemMeaning.{first_some, root_part, extent_part, quota_part}

-- what an item names
pub data Record : Type 0 where
  -- the ROOT_ITEM of a tree
  RootOf : (tree : ℕ) → Record
  -- the record of a data extent of so many bytes
  ExtentOf : (address bytes : ℕ) → Record
  -- the record of a node of a level
  NodeOf : (address level : ℕ) → Record
  -- a reference to what lies at an address
  ReferenceTo : (address : ℕ) (reference : Reference) → Record
  -- the state of quota
  Status : Record
  -- a group's counters, and its limits
  InfoOf : (group : ℕ) → Record
  LimitOf : (group : ℕ) → Record
  -- a relation under one of its two keys
  RelationOf : (group other : ℕ) → Record

-- what an item of the extent tree names
abbrev pub extent_record : ExtentPart → Record
extent_record (DataRecord address bytes extent) = ExtentOf address bytes
extent_record (NodeRecord address level extent) = NodeOf address level
extent_record (Referenced address reference count) = ReferenceTo address reference

-- what an item of the quota tree names
abbrev pub quota_record : QuotaPart → Record
quota_record (part.Status status) = Status
quota_record (part.Info group info) = InfoOf group
quota_record (part.Limits group limit) = LimitOf group
quota_record (part.Relation group other) = RelationOf group other

-- what an item of one of the three trees names
unfoldable pub record_named : Item → Option Record
record_named item = first_some
    (option_map (λ entry. RootOf entry.0) (root_part item) ∷ option_map extent_record (extent_part item)
    ∷ option_map quota_record (quota_part item) ∷ [])

-- two references are the same
abbrev pub same_reference : Reference → Reference → Bool
same_reference (KeyedBlock root) (KeyedBlock root') = root == root'
same_reference (SharedBlock parent) (SharedBlock parent') = parent == parent'
same_reference (KeyedData root ino offset) (KeyedData root' ino' offset') = (root == root') && (ino == ino')
    && (offset == offset')
same_reference (SharedData parent) (SharedData parent') = parent == parent'
same_reference _ _ = false

-- two items name the same
abbrev pub same_record : Record → Record → Bool
same_record (RootOf tree) (RootOf tree') = tree == tree'
same_record (ExtentOf address bytes) (ExtentOf address' bytes') = (address == address') && (bytes == bytes')
same_record (NodeOf address level) (NodeOf address' level') = (address == address') && (level == level')
same_record (ReferenceTo address reference) (ReferenceTo address' reference') =
    (address == address') && same_reference reference reference'
same_record Status Status = true
same_record (InfoOf group) (InfoOf group') = group == group'
same_record (LimitOf group) (LimitOf group') = group == group'
same_record (RelationOf group other) (RelationOf group' other') = (group == group') && (other == other')
same_record _ _ = false

-- the bytes of an item's body
abbrev pub reference_body : Reference → ℕ
reference_body (KeyedBlock root) = 0
reference_body (SharedBlock parent) = 0
reference_body (KeyedData root ino offset) = 28
reference_body (SharedData parent) = 4

-- the bytes of the body of an item that names this
abbrev pub record_body : Record → ℕ
record_body (RootOf tree) = 439
record_body (ExtentOf address bytes) = 24
record_body (NodeOf address level) = 24
record_body (ReferenceTo address reference) = reference_body reference
record_body Status = 32
record_body (InfoOf group) = 40
record_body (LimitOf group) = 40
record_body (RelationOf group other) = 0

-- the bytes that an item takes of a leaf: 25 for its header, and its body
abbrev pub record_bytes : Record → ℕ
record_bytes record_ = 25 + record_body record_

-- each record once
abbrev pub distinct_records : List Record → List Record
distinct_records [] = []
distinct_records (first ∷ rest) = if list_any (same_record first) rest then distinct_records rest else first
    ∷ distinct_records rest

-- what records take, each once
abbrev pub records_bytes : List Record → ℕ
records_bytes records = sum_by record_bytes (distinct_records records)
