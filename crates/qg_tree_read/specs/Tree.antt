-- A tree over nodes by address (on-disk format, "B-tree"). Addresses are in bytes.
use Rattle.std.specs.Prelude.{◌≡◌, ◌⊎◌, ℕ, zero, suc, List, Option, Some, None, Result, slice_get}
use Rattle.qg_node.specs.declared.item.Item.{Item}
use Rattle.qg_node.specs.declared.pointer.Pointer.{Pointer}
use Rattle.qg_node.specs.declared.node.Node.{Node}
use Rattle.qg_node.specs.Nodes.{own_pointers}
use Rattle.qg_super.specs.declared.superblock.Super.{Super}
use Rattle.qg_blocks.specs.Below.{items_below}
use Rattle.qg_blocks.specs.Types.{Failure}
use Rattle.qg_blocks.specs.Types.{TreeKind}
use Rattle.qg_blocks.specs.Among.{found_there}
use Rattle.qg_blocks.specs.Walk.{root_expected, walk_failure}
use Rattle.qg_walk.specs.Standing.{form_failure}
use Rattle.qg_device.specs.History.{History}
use Rattle.qg_blocks.specs.NodesInMemory.{Draft}
use Rattle.qg_blocks.specs.NodesFound.{told}

-- where a tree stands: its root's address and level, the number of the tree that makes its nodes, and the generation to
-- come
pub record Root : Type 0 where
  pub address : ℕ
  pub height : ℕ
  pub owner : ℕ
  pub next : ℕ

-- the superblock that the rules of a node ask: they ask the generation, which is the one to come, and the bytes of a
-- node, and nothing else
abbrev pub super_for : ℕ → ℕ → Super
super_for next nodesize = record {
  generation = next;
  root = 0;
  nodesize = nodesize;
  slots = 0;
  sectors = 0;
  format = 1;
}

-- what a walk finds where this map tells the nodes
abbrev pub found_in : (ℕ → Option Node) → ℕ → Result Node Failure
found_in map address = found_there (map address) address

-- The node at an address is the root of a tree of this height, and these are its items, from left to right. The walk
-- meets no failure of the rules from `slot` to `shape`
pub record IsTree (tree : TreeKind) (super : Super) (map : ℕ → Option Node) (height address : ℕ)
    (items : List Item) : Type 0 where
  pub walked : walk_failure (form_failure tree super) (found_in map) height (root_expected (Some height) None) address
      ≡ None
  pub items_are : items_below map height address ≡ Some items

-- that of a tree over what nodes in memory tell
abbrev pub super_of : Root → Draft → Super
super_of root draft = super_for root.next draft.sizes.nodesize

-- so is what nodes in memory and a disk tell together, where the tree stands there
abbrev pub TellsTree : TreeKind → Root → Draft → History → List Item → Type 0
TellsTree tree root draft history items =
    IsTree tree (super_of root draft) (told draft history) root.height root.address items

-- a tree reaches an address from the node of a level at another
unfoldable pub Reaches : (ℕ → Option Node) → ℕ → ℕ → ℕ → Type 0
Reaches map zero from address = address ≡ from
Reaches map (suc level) from address = (address ≡ from)
    ⊎ ((node : Node) × (map from ≡ Some node) × (place : ℕ) × (pointer : Pointer)
    × (slice_get (own_pointers node) place ≡ Some pointer)
    × Reaches map level pointer.child address)
