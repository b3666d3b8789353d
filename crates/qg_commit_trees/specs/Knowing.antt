-- What is told alike of a subvolume's tree, and what its book knows (this project's own). Addresses are in bytes.
use Rattle.std.specs.Prelude.{◌≡◌, ℕ, List, Option, Some, None}
use Rattle.qg_device.specs.History.{History}
use Rattle.qg_node.specs.declared.node.Node.{Node}
use Rattle.qg_node.specs.Nodes.{header_of}
use Rattle.qg_refs.specs.declared.kept.What.{What}
use Rattle.qg_refs.specs.Book.{what_in}
use Rattle.qg_extents.specs.Table.{book_of}
use Rattle.qg_shared_trees.specs.Settled.{what_of}
use Rattle.qg_shared_trees.specs.Types.{FsTree}
use Rattle.qg_shared_trees.specs.Standing.{nodes_of}

-- a tree is the same, but for the clean nodes in memory
abbrev pub IsSameButClean : FsTree → FsTree → Type 0
IsSameButClean old new = new ≡ record old {
  land = record old.land { blocks = record old.land.blocks { clean = new.land.blocks.clean } };
}

-- the generation of what is known, 0 where nothing is
abbrev pub generation_in : Option What → ℕ
generation_in None = 0
generation_in (Some what) = what.generation

-- a tree's root is told, its level is the tree's height, and the book knows of it level and generation
pub record KnowsRoot (fs : FsTree) (history : History) : Type 0 where
  pub node : Node
  pub told : nodes_of fs history fs.tree.address ≡ Some node
  pub level : (header_of node).level ≡ fs.tree.height
  pub known : what_in (book_of fs.refs.refs fs.tree.address)
      ≡ Some (what_of fs.refs.nodesize (header_of node).generation node)
