-- Laws of trees that stand, and of slots that edits take (this project's own).
use Rattle.std.specs.Prelude.{◌≡◌, ℕ, ◌+◌, ◌*◌, ◌<◌, ◌≤◌, List}
use Rattle.std.specs.List.Sorted.{IsPermutation}
use Rattle.qg_device.specs.History.{History}
use Rattle.qg_num.specs.declared.piece.Piece.{Piece}
use Rattle.qg_node.specs.declared.item.Item.{Item}
use Rattle.qg_node.specs.Nodes.{items_bytes}
use Rattle.qg_super.specs.Places.{capacity}
use Rattle.qg_space.specs.Holding.{Holding}
use Rattle.qg_tree_edits.specs.Land.{IsDrafted}
use Rattle.qg_fs_tree.specs.declared.fs_tree.FsTree.{FsTree}
use Rattle.qg_fs_tree.specs.Standing.{KeepsTree, Stands, made_slots}

-- the order of names doesn't matter
abbrev pub StandsInAnotherOrder : Type 0
StandsInAnotherOrder = (fs : FsTree) (history : History) (items : List Item)
    (names others : List (ℕ × Piece))
    → IsPermutation names others → Stands fs history items names → Stands fs history items others

-- a tree whose items take less than three nodes hold has one level above its leaves at most
abbrev pub StandsLow : Type 0
StandsLow = (fs : FsTree) (history : History) (items : List Item) (names : List (ℕ × Piece))
    → Stands fs history items names → IsDrafted fs.land fs.tree.next
    → items_bytes items < 3 * capacity fs.land.space.sizes.nodesize → fs.tree.height ≤ 1

-- of slots that were not taken before, one change and another take together no more than each does
abbrev pub SlotsAddUp : Type 0
SlotsAddUp = (first second third : Holding) → second.sizes ≡ third.sizes
    → made_slots first third ≤ made_slots first second + made_slots second third

-- and where nothing changes there is none
abbrev pub SlotsStay : Type 0
SlotsStay = (holding : Holding) → made_slots holding holding ≡ 0

-- and a piece that names an extent, or names it no more, takes none
abbrev pub SlotsOfNames : Type 0
SlotsOfNames = (old new : FsTree) → KeepsTree old new → made_slots old.land.space new.land.space ≡ 0
