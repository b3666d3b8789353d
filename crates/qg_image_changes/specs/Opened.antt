-- What is made of an image that was just opened (this project's own).
use Rattle.std.specs.Prelude.{◌≡◌, ℕ, ◌+◌, ◌==◌, List, map, not, None, Some}
use Rattle.std.specs.List.{filter}
use Rattle.qg_items.specs.declared.root.RootItem.{RootItem}
use Rattle.qg_items.specs.declared.tree.TheConstants.{TOP_LEVEL}
use Rattle.qg_super.specs.declared.superblock.Super.{Super}
use Rattle.qg_image.specs.Table.{value_at}
use Rattle.qg_blocks.specs.NodesInMemory.{nothing_fresh, slots_of}
use Rattle.qg_device.specs.History.{History}
use Rattle.qg_blocks.specs.NodesFound.{IsBacked}
use Rattle.qg_space.specs.Holding.{Holding}
use Rattle.qg_weighed.specs.Weight.{Books}
use Rattle.qg_tree_read.specs.Tree.{Root}
use Rattle.qg_open_image.specs.Types.{FsTree}
use Rattle.qg_open_image.specs.declared.open_image.KeptSubvolume.{KeptSubvolume}
use Rattle.qg_open_image.specs.Keeping.{kept_at}

-- a subvolume by its number, as its ROOT_ITEM tells what is kept of it
abbrev pub snapshot_of : ℕ × RootItem → ℕ × KeptSubvolume
snapshot_of entry = (entry.0, kept_at entry.1.last_snapshot)

-- the tree of a subvolume by its number and its ROOT_ITEM, for a generation to come
abbrev pub tree_for : ℕ → ℕ × RootItem → Root
tree_for next entry = record {
  address = entry.1.bytenr;
  height = entry.1.level;
  owner = entry.0;
  next = next;
}

-- Trees are made of the ROOT_ITEMs of an image, over a space and a book: that of the top-level subvolume is at hand,
-- the others stand beside it in their order, and no node is in memory
pub record AreTreesIn (super : Super) (roots : List (ℕ × RootItem)) (space : Holding) (books : Books) (fs : FsTree)
    : Type 0 where
  pub root : RootItem
  pub there : value_at TOP_LEVEL roots ≡ Some root
  pub tree : fs.tree ≡ tree_for (super.generation + 1) (TOP_LEVEL, root)
  pub others : fs.others.items
      ≡ map (tree_for (super.generation + 1)) (filter (λ entry. not (entry.0 == TOP_LEVEL)) roots)
  pub draft : fs.land.blocks.draft ≡ nothing_fresh (slots_of super.nodesize super.slots)
  pub backed : (history : History) → IsBacked fs.land.blocks history
  pub space_is : fs.land.space ≡ space
  pub refs : fs.refs ≡ record {
    refs = books.refs;
    held = books.held;
    tree = TOP_LEVEL;
    nodesize = super.nodesize;
    next = super.generation + 1;
    misfit = None;
  }
