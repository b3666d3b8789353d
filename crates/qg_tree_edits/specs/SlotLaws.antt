-- Laws of the slots that an edited tree takes (this project's own). Addresses are in bytes.
use Rattle.std.specs.Prelude.{◌≡◌, ℕ, ◌+◌, ◌*◌, ◌≤◌, List}
use Rattle.qg_device.specs.History.{History}
use Rattle.qg_node.specs.declared.item.Item.{Item}
use Rattle.qg_node.specs.Nodes.{items_bytes}
use Rattle.qg_image.specs.Need.{nodes_filled}
use Rattle.qg_image.specs.declared.tree.TreeKind.{TreeKind}
use Rattle.qg_space.specs.Holding.{Holding, free_slots}
use Rattle.qg_node_alloc.specs.declared.ground.Ground.{Ground}
use Rattle.qg_node_alloc.specs.Land.{IsDrafted}
use Rattle.qg_node_alloc.specs.SlotTally.{FollowsSlots, SlotTally}
use Rattle.qg_node_alloc.specs.Tellings.{Telling}
use Rattle.qg_tree_read.specs.Tree.{Root}
use Rattle.qg_tree_edits.specs.Counting.{IsTreeTold}
use Rattle.qg_tree_edits.specs.Rooting.{IsRooted}
use Rattle.qg_tree_edits.specs.OwnSlots.{AreApart, nodes_in_tree, ways_in_tree}

-- An edit of a tree takes and gives slots of the tree alone: where the present state had the tree's slots and others
-- apart, and a book of slots was told what the edit did, it has the edited tree's slots and the same others
abbrev pub EditsKeepApart : Type 0
EditsKeepApart =
    (before after : Root) (old new : Ground) (history : History) (tellings : List Telling) (book later : SlotTally)
    (others : List ℕ) → book.slots ≡ old.space.slots → FollowsSlots book tellings later
    → IsTreeTold before after old new history tellings
    → AreApart book.slots (ways_in_tree before old.blocks.draft history) others
    → AreApart later.slots (ways_in_tree after new.blocks.draft history) others

-- A tree that stands has at most so many nodes: each but the root is a quarter full
abbrev pub HasFewNodes : Type 0
HasFewNodes =
    (tree : TreeKind) (root : Root) (land : Ground) (history : History) (items : List Item)
    → IsDrafted land root.next → IsRooted tree root land history items
    → nodes_in_tree root land.blocks.draft history
    ≤ 5 * nodes_filled land.space.sizes.nodesize (items_bytes items) + 1

-- Of free slots a tree takes no more than it has nodes: where two present states have other slots that are the same,
-- and the last commit's, all that was free is free, or one of the tree's nodes lies there
abbrev pub TakesItsNodes : Type 0
TakesItsNodes =
    (tree : TreeKind) (root : Root) (land : Ground) (history : History) (items : List Item) (before : Holding)
    (reached : ℕ → ℕ) (others : List ℕ) → IsDrafted land root.next → IsRooted tree root land history items
    → land.space.sizes ≡ before.sizes → land.space.held_slots ≡ before.held_slots
    → AreApart before.slots reached others
    → AreApart land.space.slots (ways_in_tree root land.blocks.draft history) others
    → free_slots before ≤ free_slots land.space + nodes_in_tree root land.blocks.draft history
