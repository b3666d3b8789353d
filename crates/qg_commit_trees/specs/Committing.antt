-- What a commit makes of subvolumes' trees (this project's own). Addresses are in bytes.
use Rattle.std.specs.Prelude.{◌≡◌, ◌⊎◌, ◌↔◌, ℕ, ◌+◌, List, map}
use Rattle.std.specs.List.{Contains}
use Rattle.qg_device.specs.History.{History}
use Rattle.qg_num.specs.declared.piece.Piece.{Piece}
use Rattle.qg_node.specs.declared.item.Item.{Item}
use Rattle.qg_blocks.specs.NodesInMemory.{nothing_fresh}
use Rattle.qg_blocks.specs.Writing.{AreWritten, Keeps}
use Rattle.qg_refs.specs.Book.{full_in}
use Rattle.qg_extents.specs.Table.{book_of}
use Rattle.qg_tree_read.specs.Tree.{Root}
use Rattle.qg_shared_trees.specs.Types.{FsTree}
use Rattle.qg_shared_trees.specs.Standing.{IsReachedBy, Stands, items_in, layout_in, nodes_of, trees_of}
use Rattle.qg_shared_trees.specs.Laying.{IsMet}

-- A commit wrote each fresh node where it lies, and in the slots that the last commit holds stands what stood
-- there
pub record WritesTree (fs : FsTree) (before after : History) : Type 0 where
  pub fresh : AreWritten fs.land.blocks.draft after
  pub held : Keeps fs.land.blocks.draft.sizes before after (λ at. Contains fs.land.space.held_slots at)

-- a tree for a generation to come
abbrev pub for_generation : ℕ → Root → Root
for_generation next tree = record tree { next = next }

-- What becomes of subvolumes' trees once a commit has written them. No node is fresh. The commit holds what the present
-- state has, and the slots of the root, extent and quota trees besides. The generation to come is one further for each
-- tree, and the references are as they were, and held
pub record IsCommitted (old new : FsTree) (besides : List ℕ) : Type 0 where
  pub draft : new.land.blocks.draft ≡ nothing_fresh old.land.blocks.draft.sizes
  pub bound : new.land.blocks.bound ≡ old.land.blocks.bound
  pub sizes : new.land.space.sizes ≡ old.land.space.sizes
  pub slots : (slot : ℕ) → Contains new.land.space.slots slot ↔ Contains old.land.space.slots slot
  pub held_slots : (slot : ℕ) → Contains new.land.space.held_slots slot
      ↔ (Contains old.land.space.slots slot ⊎ Contains besides slot)
  pub runs : new.land.space.runs ≡ old.land.space.runs
  pub held_runs : new.land.space.held_runs ≡ old.land.space.runs
  pub tree : new.tree ≡ for_generation (old.tree.next + 1) old.tree
  pub others : new.others.items ≡ map (for_generation (old.tree.next + 1)) old.others.items
  pub refs : new.refs ≡ record old.refs { held = old.refs.refs; next = old.tree.next + 1 }

-- Trees stand still once the disk was written: with these items and names the one at hand stands, each tree reaches the
-- same and has the same items, the same is told where some tree reaches, and marks and layout are the same
pub record StandsStill (old new : FsTree) (before after : History) (items : List Item)
    (names : List (ℕ × Piece)) : Type 0 where
  pub stands : Stands new after items names
  pub reach : (tree : Root) → Contains (trees_of old) tree → (q : ℕ)
      → IsReachedBy new after tree q ↔ IsReachedBy old before tree q
  pub each : (tree : Root) → Contains (trees_of old) tree → items_in new after tree ≡ items_in old before tree
  pub nodes : (q : ℕ) → IsMet old before q → nodes_of new after q ≡ nodes_of old before q
  pub marks : (q : ℕ) → full_in (book_of new.refs.refs q) ≡ full_in (book_of old.refs.refs q)
  pub layout : layout_in new after ≡ layout_in old before
