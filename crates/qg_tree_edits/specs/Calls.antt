-- What a call on a whole tree leaves, and why it answers a fault (this project's own). Addresses are in bytes.
use Rattle.std.specs.Prelude.{◌≡◌, ℕ, List, ◌++◌, Result, OnOk}
use Rattle.qg_device.specs.Cause.{HasCause}
use Rattle.qg_device.specs.History.{Event, History, Recorded}
use Rattle.qg_num.specs.declared.fault.BlockFault.{BlockFault}
use Rattle.qg_num.specs.declared.fault.BlockFault.TheVariants.{Disk}
use Rattle.qg_node.specs.declared.item.Item.{Item}
use Rattle.qg_blocks.specs.NodesFound.{BreaksNone, told}
use Rattle.qg_image.specs.declared.tree.TreeKind.{TreeKind}
use Rattle.qg_node_alloc.specs.declared.ground.Ground.{Ground}
use Rattle.qg_node_alloc.specs.Tellings.{Telling}
use Rattle.qg_edit.specs.declared.edit.Edit.{Edit}
use Rattle.qg_edit.specs.declared.edit.Change.TheVariants.{Clear}
use Rattle.qg_edit.specs.Edits.{CanEdit}
use Rattle.qg_tree_read.specs.Tree.{Root}
use Rattle.qg_tree_edits.specs.First.{least, leaves, leaves_behind}
use Rattle.qg_tree_edits.specs.Rooting.{IsEdited, IsReplaced, IsRooted}
use Rattle.qg_tree_edits.specs.Counting.{IsTreeTold}
use Rattle.qg_tree_edits.specs.Failing.{IsUnfit, NamesOnly}

-- Where a tree stands with items that the edit may be done to: it stands with them once they are edited. Where its
-- first leaf is cleared, each other leaf keeps its items. And the book is told what becomes of the ways
pub record EditsTree {B T : Type 0} (follows : B → List Telling → B → Type 0) (tree : TreeKind) (before after : Root)
    (edit : Edit) (old new : Ground) (history : History) (items : List Item) (book later : B)
    (result : Result T BlockFault) : Type 0 where
  pub edited : OnOk result (IsEdited tree before after old new history edit items)
  pub leaves : edit.key ≡ least → edit.change ≡ Clear
      → OnOk result (leaves (told new.blocks.draft history) after.height after.address
      ≡ leaves_behind (leaves (told old.blocks.draft history) before.height before.address))
  pub told : (start : B) (log : List Telling) → follows start log book
      → OnOk result ((tellings : List Telling) × follows start (log ++ tellings) later
      × IsTreeTold before after old new history tellings)

-- a tree stands with these items then, and the book is told what becomes of the ways
pub record ReplacesItems {B T : Type 0} (follows : B → List Telling → B → Type 0) (tree : TreeKind)
    (before after : Root)
    (old new : Ground) (history : History) (items : List Item) (book later : B)
    (result : Result T BlockFault) : Type 0 where
  pub replaced : OnOk result (IsReplaced tree before after old new history items)
  pub told : (start : B) (log : List Telling) → follows start log book
      → OnOk result ((tellings : List Telling) × follows start (log ++ tellings) later
      × IsTreeTold before after old new history tellings)

-- Over a disk that tells no rule is named where a tree stands with items that the edit may be done to, and else only
-- where something does not fit there. `Disk` is answered exactly where the disk met a fault
pub record FailsToEditTree {T : Type 0} (tree : TreeKind) (root : Root) (edit : Edit) (old new : Ground)
    (history : History) (before now : ℕ) (result : Result T BlockFault) : Type 0 where
  pub sound : (events : List Event) → history ≡ Recorded events → (items : List Item)
      → IsRooted tree root old history items → CanEdit edit items → BreaksNone result
  pub broken : (events : List Event) → history ≡ Recorded events
      → NamesOnly (IsUnfit tree root edit old new events) result
  pub cause : HasCause Disk before now result
