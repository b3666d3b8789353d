-- An edit of a whole tree (this project's own). Addresses are in bytes.
use Rattle.std.specs.Prelude.{◌≡◌, ◌⊎◌, ℕ, ◌+◌, ◌*◌, ◌≤◌, List, [], ◌∷◌, length, map, Option, Some, None, IsTrue}
use Rattle.std.specs.List.{All}
use Rattle.qg_device.specs.History.{History}
use Rattle.qg_node.specs.declared.item.Item.{Item}
use Rattle.qg_node.specs.declared.pointer.Pointer.{Pointer}
use Rattle.qg_node.specs.declared.node.Node.{Node}
use Rattle.qg_node.specs.declared.node.Node.TheVariants.{Leaf, Inner}
use Rattle.qg_node.specs.Nodes.{is_ascending}
use Rattle.qg_blocks.specs.NodesFound.{told}
use Rattle.qg_space.specs.Holding.{free_slots, is_free_slot}
use Rattle.qg_image.specs.declared.tree.TreeKind.{TreeKind}
use Rattle.qg_node_alloc.specs.declared.ground.Ground.{Ground}
use Rattle.qg_edit.specs.declared.edit.Edit.{Edit}
use Rattle.qg_tree_edits.specs.declared.instead.Instead.{Instead}
use Rattle.qg_tree_read.specs.Tree.{Reaches, Root, TellsTree, super_of}
use Rattle.qg_tree_edits.specs.First.{first_leaf, least}
use Rattle.qg_tree_edits.specs.Editing.{CanMake, HoldInstead, IsEditable, IsLeafEdited, ReachesInstead}

-- the child of a node with one pointer
abbrev pub lone_of : List Pointer → Option ℕ
lone_of [] = None
lone_of (pointer ∷ []) = Some pointer.child
lone_of (pointer ∷ other ∷ pointers) = None

-- the child of an inner node that has one pointer alone
abbrev pub lone_child : Node → Option ℕ
lone_child (Leaf header items) = None
lone_child (Inner header pointers) = lone_of pointers

-- ---- a tree as it stands between two calls

-- A tree stands in nodes and space, and these are its items, from left to right: no free slot is reached, and no body
-- has more than 1024 bytes
pub record IsRooted (tree : TreeKind) (root : Root) (land : Ground) (history : History)
    (items : List Item) : Type 0 where
  pub tells : TellsTree tree root land.blocks.draft history items
  pub apart : (q : ℕ) → IsTrue (is_free_slot land.space q)
      → Reaches (told land.blocks.draft history) root.height root.address q → ⊥
  pub short : All (λ item. length item.body ≤ 1024) items

-- What a call makes of a tree and of nodes and space: it stands with these items. It reaches what it reached before,
-- and slots that were free; only these are told otherwise, and only these get free
pub record IsReplaced (tree : TreeKind) (before after : Root) (old new : Ground) (history : History)
    (items : List Item) : Type 0 where
  pub rooted : IsRooted tree after new history items
  pub reach : (q : ℕ) → Reaches (told new.blocks.draft history) after.height after.address q
      → Reaches (told old.blocks.draft history) before.height before.address q ⊎ IsTrue (is_free_slot old.space q)
  pub others : (q : ℕ) → (IsTrue (is_free_slot old.space q) → ⊥)
      → (Reaches (told old.blocks.draft history) before.height before.address q → ⊥)
      → told new.blocks.draft history q ≡ told old.blocks.draft history q
  pub freed : (q : ℕ) → IsTrue (is_free_slot new.space q)
      → IsTrue (is_free_slot old.space q) ⊎ Reaches (told old.blocks.draft history) before.height before.address q

-- it is one with the items once those of one leaf are edited, the first one where the key is the least
pub record IsEdited (tree : TreeKind) (before after : Root) (old new : Ground) (history : History) (edit : Edit)
    (items : List Item) : Type 0 where
  pub items_new : List Item
  pub edits : IsLeafEdited edit items items_new
  pub first : edit.key ≡ least → edits.leaf ≡ first_leaf (told old.blocks.draft history) before.height before.address
  pub replaced : IsReplaced tree before after old new history items_new

-- ---- over any disk

-- what an edit asks: nodes and space in which a tree is edited by the generation to come, a number and a generation
-- that nodes may have which are made for it, and free slots
pub record IsReady (tree : TreeKind) (root : Root) (land : Ground) (history : History)
    (bytes : ℕ) : Type 0 where
  pub editable : IsEditable land history bytes root.next
  pub makes : CanMake tree root
  pub slots : 3 * (root.height + 2) ≤ free_slots land.space

-- a tree stays that of its number and generation, and gets at most so many levels higher
pub record StaysTree (most : ℕ) (before after : Root) : Type 0 where
  pub owner : after.owner ≡ before.owner
  pub next : after.next ≡ before.next
  pub height : after.height ≤ before.height + most

-- and so it does where at most 2·height + 3 slots were taken
pub record Grows (most : ℕ) (before after : Root) (old new : Ground) : Type 0 where
  pub stays : StaysTree most before after
  pub count : free_slots old.space ≤ 2 * before.height + 3 + free_slots new.space

-- ---- what stands in the place of a root

-- this stands in the place of a tree's root, and these are the items under it; no free slot is reached
pub record StandsForRoot (tree : TreeKind) (root : Root) (land : Ground) (history : History) (instead : Instead)
    (items : List Item) : Type 0 where
  pub holds : HoldInstead tree (super_of root land.blocks.draft) (told land.blocks.draft history) root.height instead
      items
  pub ascending : IsTrue (is_ascending (map (λ item. item.key) items))
  pub short : All (λ item. length item.body ≤ 1024) items
  pub free : (q : ℕ) → IsTrue (is_free_slot land.space q)
      → ReachesInstead (told land.blocks.draft history) root.height instead q → ⊥

-- a tree of these items has its root: it reaches what stood there, and slots that were free; only these are told
-- otherwise, and only these get free
pub record HasRoot (tree : TreeKind) (before after : Root) (old new : Ground) (history : History)
    (instead : Instead) (items : List Item) : Type 0 where
  pub rooted : IsRooted tree after new history items
  pub reach : (q : ℕ) → Reaches (told new.blocks.draft history) after.height after.address q
      → ReachesInstead (told old.blocks.draft history) before.height instead q ⊎ IsTrue (is_free_slot old.space q)
  pub others : (q : ℕ) → (IsTrue (is_free_slot old.space q) → ⊥)
      → (ReachesInstead (told old.blocks.draft history) before.height instead q → ⊥)
      → told new.blocks.draft history q ≡ told old.blocks.draft history q
  pub freed : (q : ℕ) → IsTrue (is_free_slot new.space q)
      → IsTrue (is_free_slot old.space q) ⊎ ReachesInstead (told old.blocks.draft history) before.height instead q

-- the levels that what stands in a root's place adds
abbrev pub levels_for : Option ℕ → ℕ
levels_for None = 0
levels_for (Some more) = 1
