-- How many nodes a subvolume reaches (this project's own). Addresses are in bytes.
use Rattle.std.specs.Prelude.{◌≡◌, ℕ, List, [], ◌∷◌, length, map, Option, Some, None, IsTrue}
use Rattle.std.specs.List.{filter, sum_by}
use Rattle.qg_device.specs.History.{History}
use Rattle.qg_num.specs.declared.key.Key.{Key}
use Rattle.qg_node.specs.declared.item.Item.{Item}
use Rattle.qg_node.specs.declared.pointer.Pointer.{Pointer}
use Rattle.qg_node.specs.Nodes.{is_ascending}
use Rattle.qg_image.specs.Below.{items_below}
use Rattle.qg_image.specs.Table.{has_key, value_at}
use Rattle.qg_image.specs.Reach.{distinct, extent_of, is_among, pieces_of, reach_under}
use Rattle.qg_image.specs.State.{Placed, State, node_at}
use Rattle.qg_image.specs.declared.tree.TreeKind.TheVariants.{Files}
use Rattle.qg_image.specs.Walk.{walk_failure}
use Rattle.qg_machine.specs.Layout.{super_to_come}
use Rattle.qg_blocks.specs.NodesInMemory.{Draft}
use Rattle.qg_blocks.specs.NodesFound.{told}
use Rattle.qg_walk.specs.Standing.{expected_below, form_failure}
use Rattle.qg_tree_read.specs.Tree.{found_in}
use Rattle.qg_tree_read.specs.declared.way.Way.{Way}

-- the ways that pointers lead, to nodes of a level
abbrev pub ways_told : Option Key → ℕ → List Pointer → List Way
ways_told to level [] = []
ways_told to level (pointer ∷ others) =
    record { address = pointer.child; expected = expected_below level to pointer others } ∷ ways_told to level others

-- the nodes of a layout are told by nodes in memory and a disk. No extent that one of them names lies where a node does
pub record TellsNodes (draft : Draft) (history : History) (state : State) : Type 0 where
  pub nodesize : draft.sizes.nodesize ≡ state.sizes.nodesize
  pub tells : (at : ℕ) (placed : Placed) → value_at at state.layout ≡ Some placed
      → told draft history at ≡ Some placed.node
  pub apart : (p at : ℕ) (placed : Placed) → value_at p state.layout ≡ Some placed
      → IsTrue (is_among at (map extent_of (pieces_of placed.node))) → IsTrue (has_key at state.layout) → ⊥

-- a way leads to a branch of a tree: the walk by the rules from `depth` to `shape` meets no failure there, and these
-- are the items under it, whose keys ascend
pub record LeadsToBranch (state : State) (level : ℕ) (way : Way) : Type 0 where
  pub items : List Item
  pub walked : walk_failure (form_failure Files (super_to_come state)) (found_in (node_at state.layout)) level
      way.expected way.address ≡ None
  pub items_are : items_below (node_at state.layout) level way.address ≡ Some items
  pub ascending : IsTrue (is_ascending (map (λ item. item.key) items))

-- how many nodes lie below the node of a level at an address, itself included
abbrev pub node_count_below : State → ℕ → ℕ → ℕ
node_count_below state level at = length (filter (λ element. has_key element.address state.layout)
    (distinct (reach_under (node_at state.layout) state.sizes.nodesize level at)))

-- how many lie below the nodes that ways lead to, each way by itself
abbrev pub ways_reached : State → ℕ → List Way → ℕ
ways_reached state level ways = sum_by (λ (way : Way). node_count_below state level way.address) ways
