-- The slots of a tree that shares no node with another (this project's own). Addresses are in bytes.
use Rattle.std.specs.Prelude.{◌≡◌, ◌⊎◌, ℕ, zero, suc, ◌+◌, ◌<◌, ◌≤◌, List, map, Option, Contains}
use Rattle.std.specs.List.{range_with_len, sum_by}
use Rattle.qg_device.specs.History.{History}
use Rattle.qg_node.specs.declared.node.Node.{Node}
use Rattle.qg_super.specs.declared.sizes.Sizes.{Sizes}
use Rattle.qg_super.specs.Places.{slot_at}
use Rattle.qg_blocks.specs.NodesInMemory.{Draft}
use Rattle.qg_blocks.specs.NodesFound.{told}
use Rattle.qg_tree_read.specs.Tree.{Root}
use Rattle.qg_tree_edits.specs.Counting.{pointers_there, ways}

-- the slots of an image
abbrev pub every_slot : Sizes → List ℕ
every_slot sizes = map (slot_at sizes) (range_with_len 0 sizes.slots)

-- how many ways lead to an address in a tree, where nodes in memory and a disk tell it together
abbrev pub ways_in_tree : Root → Draft → History → ℕ → ℕ
ways_in_tree root draft history q = ways (told draft history) root.height root.address q

-- how many nodes there are from the node of a level at an address down
unfoldable pub nodes_from : (ℕ → Option Node) → ℕ → ℕ → ℕ
nodes_from nodes zero at = 1
nodes_from nodes (suc level) at =
    1 + sum_by (λ pointer. nodes_from nodes level pointer.child) (pointers_there (nodes at))

-- how many nodes a tree has
abbrev pub nodes_in_tree : Root → Draft → History → ℕ
nodes_in_tree root draft history = nodes_from (told draft history) root.height root.address

-- A present state has the slots that so many ways lead to, to each one at most, and others, to which none does; and it
-- has no more
pub record AreApart (slots : List ℕ) (reached : ℕ → ℕ) (others : List ℕ) : Type 0 where
  pub single : (q : ℕ) → reached q ≤ 1
  pub own : (q : ℕ) → 0 < reached q → Contains slots q
  pub others_there : (q : ℕ) → Contains others q → Contains slots q × (reached q ≡ 0)
  pub only : (q : ℕ) → Contains slots q → (0 < reached q) ⊎ Contains others q
