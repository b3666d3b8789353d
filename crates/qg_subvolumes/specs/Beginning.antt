-- What becomes of a book while a subvolume begins (this project's own). Addresses are in bytes.
use Rattle.std.specs.Prelude.{◌≡◌, ◌⊎◌, ◌+◌, ◌≤◌, ℕ, Some, IsTrue}
use Rattle.qg_refs.specs.declared.kept.What.{What}
use Rattle.qg_refs.specs.Book.{what_in}
use Rattle.qg_extents.specs.Table.{book_of}
use Rattle.qg_space.specs.Holding.{free_slots, is_free_slot}
use Rattle.qg_node_alloc.specs.declared.ground.Ground.{Ground}
use Rattle.qg_tree_read.specs.Tree.{Root}
use Rattle.qg_tree_backrefs.specs.Heavier.{BookGetsHeavier}
use Rattle.qg_tree_backrefs.specs.declared.tree_refs.TreeRefs.{TreeRefs}

-- a book stays that of its subvolume, node size and generation to come, and what it knows of an address it knew before,
-- or that is of the generation to come
pub record BookGoesOn (old new : TreeRefs) : Type 0 where
  pub tree : new.tree ≡ old.tree
  pub nodesize : new.nodesize ≡ old.nodesize
  pub next : new.next ≡ old.next
  pub known : (at : ℕ) (what : What) → what_in (book_of new.refs at) ≡ Some what
      → (what_in (book_of old.refs at) ≡ Some what) ⊎ (what.generation ≡ old.next)

-- over any disk, a tree begins as this one, in a slot that was free, and at most one slot fewer is free. The book goes
-- on, and gets heavier by at most so many bytes
pub record BeginsTree (old new : Ground) (before after : TreeRefs) (most : ℕ) (wanted tree : Root) : Type 0 where
  pub is : tree ≡ wanted
  pub free : IsTrue (is_free_slot old.space tree.address)
  pub slots : free_slots old.space ≤ 1 + free_slots new.space
  pub book : BookGoesOn before after
  pub heavier : BookGetsHeavier before after most
