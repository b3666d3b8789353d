-- Which way a key leads down the extent tree, and where its leaves begin (this project's own). Addresses are in bytes.
use Rattle.std.specs.Prelude.{◌≡◌, ℕ, zero, suc, List, Option, Some, None, IsTrue}
use Rattle.qg_device.specs.History.{History}
use Rattle.qg_num.specs.declared.key.Key.{Key}
use Rattle.qg_node.specs.declared.item.Item.{Item}
use Rattle.qg_node.specs.declared.node.Node.{Node}
use Rattle.qg_node.specs.declared.node.Node.TheVariants.{Leaf}
use Rattle.qg_node.specs.Nodes.{is_ascending, own_keys, own_pointers}
use Rattle.qg_blocks.specs.NodesFound.{told}
use Rattle.qg_blocks.specs.NodesInMemory.{Draft, Held}
use Rattle.qg_blocks.specs.Types.{Expected}
use Rattle.qg_blocks.specs.Walk.{root_expected}
use Rattle.qg_tree_items.specs.Types.{Extents}
use Rattle.qg_walk.specs.Standing.{form_failure}
use Rattle.qg_tree_read.specs.declared.way.Way.{Way}
use Rattle.qg_tree_read.specs.Tree.{Root, TellsTree, super_of}
use Rattle.qg_tree_read.specs.Way.{IsReached, LeadsFor}

-- A key leads from the node of a level at an address, of which this is expected, down to a leaf at another, of which
-- that is expected, by nodes whose keys ascend
unfoldable pub LeadsDown : (ℕ → Option Node) → Key → ℕ → Expected → ℕ → Expected → ℕ → Type 0
LeadsDown nodes key zero expected address leaf at = (leaf ≡ expected) × (at ≡ address)
LeadsDown nodes key (suc level) expected address leaf at =
    (node : Node) × (nodes address ≡ Some node) × IsTrue (is_ascending (own_keys node)) × (way : Way)
    × LeadsFor (own_pointers node) expected.to level key way
    × LeadsDown nodes key level way.expected way.address leaf at

-- so it leads from the root of a tree, over what nodes in memory and a disk tell together
abbrev pub LeadsToLeaf : Root → Draft → History → Key → Expected → ℕ → Type 0
LeadsToLeaf root draft history key leaf at =
    LeadsDown (told draft history) key root.height (root_expected (Some root.height) None) root.address leaf at

-- a leaf of a tree begins at a key: the leaf that the key leads to is one that a pointer of this key leads to
abbrev pub BeginsLeaf : Root → Draft → History → Key → Type 0
BeginsLeaf root draft history key = (leaf : Expected) (at : ℕ) → LeadsToLeaf root draft history key leaf at
    → leaf.from ≡ Some key

-- A way has come to the leaf of the extent tree that a key leads to. It is in memory, and breaks no rule from `depth`
-- to `shape`
pub record HasReached (root : Root) (draft : Draft) (history : History) (key : Key) (held : Held)
    (way : Way) : Type 0 where
  pub leaf : IsReached Extents root draft history key held way
  pub formed : form_failure Extents (super_of root draft) way.expected way.address (Leaf leaf.header leaf.items) ≡ None
  pub leads : (whole : List Item) → TellsTree Extents root draft history whole
      → LeadsToLeaf root draft history key way.expected way.address
