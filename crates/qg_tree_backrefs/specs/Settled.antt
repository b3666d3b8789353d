-- What stands of a subvolume's book, of nodes and of space between two edits of its tree (this project's own).
-- Addresses are in bytes.
use Rattle.std.specs.Prelude.{◌≡◌, ◌⊎◌, ℕ, ◌<◌, List, Some, None, IsSome, IsTrue, Contains, nat_lt}
use Rattle.qg_device.specs.History.{History}
use Rattle.qg_node.specs.declared.node.Node.{Node}
use Rattle.qg_node.specs.Nodes.{header_of}
use Rattle.qg_super.specs.Places.{is_slot}
use Rattle.qg_node_alloc.specs.NodesFound.{fresh_at, told}
use Rattle.qg_space.specs.Holding.{has_slot}
use Rattle.qg_node_alloc.specs.declared.ground.Ground.{Ground}
use Rattle.qg_refs.specs.declared.kept.What.{What}
use Rattle.qg_refs.specs.Book.{what_in}
use Rattle.qg_weighed.specs.Table.{book_of}
use Rattle.qg_tree_backrefs.specs.declared.tree_refs.TreeRefs.{TreeRefs}
use Rattle.qg_tree_backrefs.specs.Following.{references_to}

-- what is known of a node of so many bytes and of a generation
abbrev pub what_of : ℕ → ℕ → Node → What
what_of bytes generation node = record { bytes = bytes; level = Some (header_of node).level; generation = generation }

-- The present state has a slot exactly where references lead to it, and what lies there is fresh, or the last commit
-- holds it. Of a fresh node the book knows the level, and the generation to come, and of no other node this generation;
-- of one that references lead to and that a disk tells, level and generation
pub record IsSettled (book : TreeRefs) (land : Ground) (history : History) : Type 0 where
  pub slots : (at : ℕ) → IsTrue (is_slot land.space.sizes at)
      → has_slot land.space at ≡ nat_lt 0 (references_to (book_of book.refs) at)
  pub written : (at : ℕ) → IsTrue (has_slot land.space at)
      → IsSome (fresh_at land.blocks.draft at) ⊎ Contains land.space.held_slots at
  pub fresh : (at : ℕ) (node : Node) → fresh_at land.blocks.draft at ≡ Some node
      → what_in (book_of book.refs at) ≡ Some (what_of book.nodesize book.next node)
  pub newer : (at level : ℕ)
      → what_in (book_of book.refs at) ≡ Some (record {
        bytes = book.nodesize;
        level = Some level;
        generation = book.next;
      })
      → IsSome (fresh_at land.blocks.draft at)
  pub clean : (at : ℕ) (node : Node) → fresh_at land.blocks.draft at ≡ None
      → told land.blocks.draft history at ≡ Some node
      → 0 < references_to (book_of book.refs) at
      → what_in (book_of book.refs at) ≡ Some (what_of book.nodesize (header_of node).generation node)
