-- A tree that is built of items in order, in nodes and space (this project's own). Addresses are in bytes.
use Rattle.std.specs.Prelude.{◌≡◌, ℕ, ◌+◌, ◌*◌, ◌<◌, ◌≤◌, List, length, map, Option, IsSome, IsTrue}
use Rattle.std.specs.List.{All}
use Rattle.qg_device.specs.History.{History}
use Rattle.qg_node.specs.declared.item.Item.{Item}
use Rattle.qg_node.specs.declared.node.Node.{Node}
use Rattle.qg_node.specs.Nodes.{header_of, is_ascending, items_bytes}
use Rattle.qg_node.specs.NodeText.{IsNode}
use Rattle.qg_image.specs.Need.{nodes_filled}
use Rattle.qg_blocks.specs.NodesFound.{IsBacked, fresh_at, told}
use Rattle.qg_space.specs.Holding.{free_slots, is_free_slot}
use Rattle.qg_image.specs.declared.tree.TreeKind.{TreeKind}
use Rattle.qg_image.specs.Walk.{deepest, is_owner}
use Rattle.qg_node_alloc.specs.declared.ground.Ground.{Ground}
use Rattle.qg_node_alloc.specs.Land.{IsDrafted}
use Rattle.qg_node_alloc.specs.Tellings.Telling.{Made}
use Rattle.qg_tree_read.specs.Tree.{Reaches, Root}
use Rattle.qg_tree_edits.specs.Counting.{IsTold, ways}
use Rattle.qg_tree_edits.specs.Editing.{CanMake, IsEditable}
use Rattle.qg_tree_edits.specs.Rooting.{IsRooted}

-- the most nodes that a tree of these items takes
abbrev pub most_nodes : ℕ → List Item → ℕ
most_nodes nodesize items = 5 * nodes_filled nodesize (items_bytes items) + 1

-- a node can be laid: clean nodes are those of the disk, fresh ones are such as the commit to come may write, the node
-- has a text and the generation of that commit, and the slot that it names is free
pub record CanLay (land : Ground) (history : History) (node : Node) : Type 0 where
  pub backed : IsBacked land.blocks history
  pub drafted : IsDrafted land (header_of node).generation
  pub sound : IsNode land.space.sizes.nodesize node
  pub free : IsTrue (is_free_slot land.space (header_of node).address)

-- what a build asks, over any disk: nodes and space in which a tree is made for the generation to come, a number and a
-- generation that its nodes may have, items in the order of their keys with bodies of at most 1024 bytes, and free
-- slots for the most nodes that they take
pub record CanBuild (tree : TreeKind) (land : Ground) (history : History) (bytes owner next : ℕ)
    (items : List Item) : Type 0 where
  pub editable : IsEditable land history bytes next
  pub owned : IsTrue (is_owner tree owner)
  pub later : 0 < next
  pub ascending : IsTrue (is_ascending (map (λ item. item.key) items))
  pub short : All (λ item. length item.body ≤ 1024) items
  pub slots : most_nodes land.space.sizes.nodesize items ≤ free_slots land.space

-- A tree was built of these items: it has this number and generation, and stands, as an edit asks it. Each node that it
-- reaches is fresh, in a slot that was free. What it does not reach is told as before, and no slot gets free. At most
-- so many slots were taken
pub record IsBuiltIn (tree : TreeKind) (root : Root) (old new : Ground) (history : History)
    (owner next most : ℕ) (items : List Item) : Type 0 where
  pub owned : root.owner ≡ owner
  pub dated : root.next ≡ next
  pub low : root.height ≤ deepest
  pub makes : CanMake tree root
  pub rooted : IsRooted tree root new history items
  pub fresh : (q : ℕ) → Reaches (told new.blocks.draft history) root.height root.address q
      → IsSome (fresh_at new.blocks.draft q)
  pub reach : (q : ℕ) → Reaches (told new.blocks.draft history) root.height root.address q
      → IsTrue (is_free_slot old.space q)
  pub others : (q : ℕ) → (Reaches (told new.blocks.draft history) root.height root.address q → ⊥)
      → told new.blocks.draft history q ≡ told old.blocks.draft history q
  pub freed : (q : ℕ) → IsTrue (is_free_slot new.space q) → IsTrue (is_free_slot old.space q)
  pub count : free_slots old.space ≤ most + free_slots new.space

-- and a book was told that nodes were made in these slots, at most so many: that turns the count where no way leads
-- anywhere into the tree's ways
abbrev pub IsBuildTold : Root → Ground → Ground → History → ℕ → List ℕ → Type 0
IsBuildTold root old new history most made =
    (nodes clean : ℕ → Option Node) → IsTold old nodes clean (λ q. ⊥) (λ q. 0)
    (ways (told new.blocks.draft history) root.height root.address) most 0 most (map Made made)
