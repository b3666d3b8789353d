-- Files that a subvolume's tree tells, and how a reading of one answers (this project's own). Addresses are in bytes.
use Rattle.std.specs.Prelude.{◌≡◌, ◌⊎◌, ℕ, List, None, Result, Err, IsTrue, ⊤, Ok}
use Rattle.qg_device.specs.History.{Event, History, Recorded}
use Rattle.qg_num.specs.declared.fault.BlockFault.{BlockFault}
use Rattle.qg_num.specs.declared.fault.BlockFault.TheVariants.{NoMemory, Disk, Image}
use Rattle.qg_num.specs.declared.rule.Rule.TheVariants as rule
use Rattle.qg_node.specs.declared.item.Item.{Item}
use Rattle.qg_image.specs.declared.file.File.{File}
use Rattle.qg_image.specs.FilesOf.{files_of, AreItemsOfFiles}
use Rattle.qg_image.specs.declared.tree.TreeKind.TheVariants.{Files}
use Rattle.qg_blocks.specs.NodesInMemory.{Draft}
use Rattle.qg_tree_read.specs.Stopping.{LacksOnWay}
use Rattle.qg_tree_read.specs.Tree.{Root, TellsTree}
use Rattle.qg_tree_read.specs.Way.{FailsOnWay}
use Rattle.qg_inodes.specs.Items.{has_unread}

-- a tree is told, and its items are those of these files, which tell no generation past some
pub record TellsFiles (root : Root) (draft : Draft) (history : History) (files : List (ℕ × File)) : Type
    0 where
  pub items : List Item
  pub tells : TellsTree Files root draft history items
  pub generation : ℕ
  pub are : AreItemsOfFiles generation items files

-- a call answers the rule `item` and the root's address; where a tree is told, it has an item of the file that says
-- nothing
pub record IsMisread {A : Type 0} (root : Root) (draft : Draft) (events : List Event) (ino : ℕ)
    (result : Result A BlockFault)
    : Type 0 where
  pub answer : result ≡ Err (Image rule.Item root.address)
  pub there : (items : List Item) → TellsTree Files root draft (Recorded events) items → IsTrue (has_unread ino items)

-- a call answers a rule and an address only where that rule is broken on the way, or an item of the file says nothing
abbrev pub FailsOnFile : {A : Type 0} → Root → Draft → List Event → ℕ → Result A BlockFault → Type 0
FailsOnFile root draft events ino result =
    FailsOnWay Files root draft events result ⊎ IsMisread root draft events ino result

-- a call answers the rule `file` and the root's address; where a tree is told, its items are those of no files
pub record IsUnfit {A : Type 0} (root : Root) (draft : Draft) (events : List Event) (result : Result A BlockFault)
    : Type 0 where
  pub answer : result ≡ Err (Image rule.File root.address)
  pub none : (items : List Item) → TellsTree Files root draft (Recorded events) items → (generation : ℕ)
      → files_of generation items ≡ None

-- a call that reads pieces answers a rule and an address only where one of these holds
abbrev pub FailsOnPieces : {A : Type 0} → Root → Draft → List Event → ℕ → Result A BlockFault → Type 0
FailsOnPieces root draft events ino result =
    FailsOnFile root draft events ino result ⊎ IsUnfit root draft events result

-- ---- over any disk

-- A call names a rule only at an address on the way down, where there is no node such as is expected for just that
-- rule; or at the root's address, the rule `item` for an item of the file that says nothing, or `file` for pieces that
-- no file has
abbrev pub StopsOnPieces : {A : Type 0} → Result A BlockFault → Root → Draft → ℕ → Type 0
StopsOnPieces (Ok x) root draft bytes = ⊤
StopsOnPieces (Err (Image broken at)) root draft bytes = LacksOnWay Files root draft bytes broken at
    ⊎ (((broken ≡ rule.Item) ⊎ (broken ≡ rule.File)) × (at ≡ root.address))
StopsOnPieces (Err Disk) root draft bytes = ⊤
StopsOnPieces (Err NoMemory) root draft bytes = ⊤
