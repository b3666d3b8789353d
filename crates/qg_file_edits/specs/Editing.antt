-- Several edits of a subvolume's tree, one after the other (this project's own).
use Rattle.std.specs.Prelude.{◌≡◌, ℕ, ◌+◌, ◌*◌, ◌≤◌, List, Result, OnOk, IsTrue, not}
use Rattle.qg_device.specs.History.{Event, History, Recorded}
use Rattle.qg_num.specs.declared.fault.BlockFault.{BlockFault}
use Rattle.qg_num.specs.declared.key.Key.{Key}
use Rattle.qg_num.specs.declared.piece.Piece.{Piece}
use Rattle.qg_node.specs.declared.item.Item.{Item}
use Rattle.qg_items.specs.declared.file.InodeItem.{InodeItem}
use Rattle.qg_items.specs.declared.kind.TheConstants.{INODE_ITEM}
use Rattle.qg_items.specs.ItemText.{inode_text}
use Rattle.qg_tree_items.specs.Keys.{key_with}
use Rattle.qg_blocks.specs.NodesFound.{BreaksNone}
use Rattle.qg_node.specs.Nodes.{item_under}
use Rattle.qg_space.specs.Holding.{free_slots}
use Rattle.qg_edit.specs.Edits.{has_key, with_item, without_key}
use Rattle.qg_shared_trees.specs.Heavier.{BookGetsHeavier, edit_bytes, name_new_bytes}
use Rattle.qg_shared_trees.specs.Types.{FsTree}
use Rattle.qg_shared_trees.specs.Standing.{IsElsewhere, Stands, made_slots, own_slots}
use Rattle.qg_shared_trees.specs.Laying.{IsMoved}
use Rattle.qg_file_edits.specs.declared.inode.InodeEdit.{InodeEdit}
use Rattle.qg_file_edits.specs.declared.inode.InodeEdit.TheVariants.{Insert, Replace, Remove}

-- ---- an INODE_ITEM

-- the key of a file's INODE_ITEM
abbrev pub inode_key : ℕ → Key
inode_key ino = key_with ino INODE_ITEM 0

-- an INODE_ITEM, under the number of its file
abbrev pub inode_item : ℕ → InodeItem → Item
inode_item ino inode = item_under ino INODE_ITEM 0 (inode_text inode)

-- what an edit of a file's INODE_ITEM makes of the items
abbrev pub after_inode : ℕ → InodeEdit → List Item → List Item
after_inode ino (Insert inode) items = with_item (inode_item ino inode) items
after_inode ino (Replace inode) items = with_item (inode_item ino inode) items
after_inode ino Remove items = without_key (inode_key ino) items

-- none is there where one is put in, and one is where it is replaced or taken out
abbrev pub CanEditInode : ℕ → InodeEdit → List Item → Type 0
CanEditInode ino (Insert inode) items = IsTrue (not (has_key (inode_key ino) items))
CanEditInode ino (Replace inode) items = IsTrue (has_key (inode_key ino) items)
CanEditInode ino Remove items = IsTrue (has_key (inode_key ino) items)

-- ---- edits

-- A tree stands with these items and names, as edits between two commits leave it, so many at most. It has three levels
-- above its leaves at most: so with each edit it reaches at most five slots more, at most nine fewer are free, and at
-- most nine are taken that were not before. What the other trees reach they reached before. What the extent tree's
-- items take grows by no more than so many edits and so many names more bring
pub record IsEditedBy (edits added : ℕ) (old new : FsTree) (history : History) (items : List Item)
    (names : List (ℕ × Piece)) : Type 0 where
  pub stands : Stands new history items names
  pub moved : IsMoved old new history
  pub few : own_slots new history ≤ own_slots old history + 5 * edits
  pub others : (q : ℕ) → IsElsewhere new history q → IsElsewhere old history q
  pub free : free_slots old.land.space ≤ free_slots new.land.space + 9 * edits
  pub made : made_slots old.land.space new.land.space ≤ 9 * edits
  pub heavier : BookGetsHeavier old.refs new.refs
      (edits * edit_bytes old.land.space.sizes.nodesize 3 + added * name_new_bytes)

-- So it is once a call is done that takes so many edits and names so many extents at most. It answers no rule where
-- enough slots are free, and takes at most 45 steps for each edit
pub record AreMade (edits added : ℕ) (old new : FsTree) (history : History) (items : List Item)
    (names : List (ℕ × Piece)) (steps steps_new : ℕ) (result : Result (Unit {0}) BlockFault) : Type 0 where
  pub done : OnOk result (IsEditedBy edits added old new history items names)
  pub sound : (events : List Event) → history ≡ Recorded events → 9 * edits + 15 ≤ free_slots old.land.space
      → BreaksNone result
  pub reads : steps_new ≤ steps + 45 * edits
