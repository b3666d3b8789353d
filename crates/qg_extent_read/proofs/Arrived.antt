-- Where the way down has come to its leaf, and how many nodes were read.
use Rattle.std.proofs.Common.{◌≡◌, ℕ, ◌+◌, ◌≤◌, ◌⊎◌, true, List, arith, sym, subst, ◌∙◌, inl, inr, Some, None}
use Rattle.qg_device.specs.History.{History}
use Rattle.qg_num.specs.declared.key.Key.{Key}
use Rattle.qg_node.specs.declared.item.Item.{Item}
use Rattle.qg_node.specs.declared.node.Header.{Header}
use Rattle.qg_node.specs.declared.node.Node.{Node}
use Rattle.qg_node.specs.declared.node.Node.TheVariants.{Leaf, Inner}
use Rattle.qg_node.specs.NodeText.{IsNode}
use Rattle.qg_node.specs.Nodes.{header_of}
use Rattle.qg_blocks.specs.NodesFound.{told}
use Rattle.qg_blocks.specs.NodesInMemory.{Draft, Held}
use Rattle.qg_tree_items.specs.Types.{Extents}
use Rattle.qg_walk.specs.Added.{is_to}
use Rattle.qg_walk.specs.Standing.{form_failure}
use Rattle.qg_tree_read.specs.declared.way.Way.{Way}
use Rattle.qg_tree_read.specs.Tree.{Root, TellsTree, super_of}
use Rattle.qg_tree_read.specs.Way.{IsVisited}
use Rattle.qg_tree_read.proofs.Leads.{IsOnWay}
use Rattle.qg_tree_read.proofs.Reached.{reached}
use Rattle.qg_extent_read.specs.Ways.{HasReached, LeadsToLeaf}

-- ---- levels

node_low : (nodesize : ℕ) (node : Node) → IsNode nodesize node → (header_of node).level ≤ 7
node_low nodesize (Leaf header items) sound = let low = sound.levelled in omega (arith, low)
node_low nodesize (Inner header pointers) sound = sound.levelled.1

-- a root that was read has a level of seven at most
pub level-low : (nodesize : ℕ) (node : Node) (level height : ℕ) → IsNode nodesize node → (header_of node).level ≡ level
    → (level ≡ height) ⊎ (height ≤ 7) → height ≤ 7
level-low nodesize node level height sound is (inl same) =
    let low = node_low nodesize node sound in omega (arith, low, is, same)
level-low nodesize node level height sound is (inr low) = low

-- so eight nodes are read at most
pub steps-few : (before now later level height : ℕ) → now + level ≡ before + height
    → (level ≡ height) ⊎ (height ≤ 7) → later ≤ now + 1 → later ≤ before + 8
steps-few before now later level height steps (inl same) h = omega (arith, steps, same, h)
steps-few before now later level height steps (inr low) h = omega (arith, steps, low, h)

-- ---- the leaf

-- the node that was visited is the leaf
leaf_is : (held : Held) (node : Node) (header : Header) (items : List Item) (o : _) → o ≡ Some node
    → o ≡ Some (Leaf header items) → node ≡ Leaf header items
leaf_is held node header items o is that = let e = sym is ∙ that in cc

pub arrived : (root : Root) (draft : Draft) (history : History) (key : Key) (held : Held) (way : Way)
    → IsVisited Extents (super_of root draft) way.expected draft history held way.address
    → way.expected.level ≡ Some 0 → is_to way.expected.to key ≡ true
    → ((whole : List Item) → TellsTree Extents root draft history whole
    → IsOnWay Extents (super_of root draft) (told draft history) key 0 way.expected way.address whole)
    → ((whole : List Item) → TellsTree Extents root draft history whole
    → LeadsToLeaf root draft history key way.expected way.address)
    → HasReached root draft history key held way
arrived root draft history key held way visited level past on leads =
    let leaf = reached Extents root draft history key held way visited level past on in
    let same = leaf_is held visited.node leaf.header leaf.items _ visited.is leaf.is in
    record {
      leaf = leaf;
      formed = subst (λ (n : Node). form_failure Extents (super_of root draft) way.expected way.address n ≡ None) same
          visited.formed;
      leads = leads;
    }
