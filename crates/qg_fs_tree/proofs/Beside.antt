-- What the trees of other subvolumes reach, beside the one at hand.
use Rattle.std.proofs.Common.{ℕ, Bool, List, map, Option, Some, None}
use Rattle.std.specs.Prelude.{◌==◌, ◌||◌, not, nat_lt, if◌then◌else◌}
use Rattle.std.specs.List.{list_any}
use Rattle.qg_device.specs.History.{History}
use Rattle.qg_num.specs.declared.piece.Piece.{Piece}
use Rattle.qg_node.specs.declared.node.Node.{Node}
use Rattle.qg_node.specs.Nodes.{header_of}
use Rattle.qg_image.specs.State.{Placed}
use Rattle.qg_image.specs.Owed.{Owing}
use Rattle.qg_cow_refs.specs.Children.{way_to}
use Rattle.qg_refs.specs.Book.{full_in}
use Rattle.qg_extents.specs.Table.{book_of}
use Rattle.qg_tree_edits.specs.Tree.{Root}
use Rattle.qg_tree_edits.specs.Counting.{committed_at}
use Rattle.qg_fs_tree.specs.declared.fs_tree.FsTree.{FsTree}
use Rattle.qg_fs_tree.specs.Standing.{every_slot, nodes_of, ways_in}
use Rattle.qg_fs_tree.proofs.Turned.{Around}

-- how many ways lead to an address in the tree at hand
abbrev pub own_ways : FsTree → History → ℕ → ℕ
own_ways fs history = ways_in fs history fs.tree

abbrev pub slots_of : FsTree → List ℕ
slots_of fs = every_slot fs.land.space.sizes

-- the mark that is kept of a node
abbrev pub mark_of : FsTree → ℕ → Bool
mark_of fs q = full_in (book_of fs.refs.refs q)

-- another tree reaches an address
abbrev pub elsewhere : FsTree → History → ℕ → Bool
elsewhere fs history q = list_any (λ tree. nat_lt 0 (ways_in fs history tree q)) fs.others.items

-- the references to the roots of trees
abbrev pub roots_owed : List Root → List Owing
roots_owed trees = map (λ tree. way_to tree.address tree.owner) trees

-- a node that is full or of another owner
abbrev pub foreign_of : ℕ → Option Node → Bool → Option Placed
foreign_of owner None full = None
foreign_of owner (Some node) full =
    if full || not ((header_of node).owner == owner) then Some (record { node = node; full = full }) else None

-- a node as it will be once the tree of an owner reaches it no more
abbrev pub beside_of : ℕ → Option Node → Bool → Option Placed
beside_of owner None full = None
beside_of owner (Some node) full =
    Some (record { node = node; full = full || ((header_of node).owner == owner) })

abbrev pub foreign_in : FsTree → History → ℕ → Option Placed
foreign_in fs history q =
    if nat_lt 0 (own_ways fs history q) then foreign_of fs.tree.owner (nodes_of fs history q) (mark_of fs q) else None

abbrev pub beside_in : FsTree → History → ℕ → Option Placed
beside_in fs history q =
    if elsewhere fs history q then beside_of fs.tree.owner (nodes_of fs history q) (mark_of fs q) else None

-- what is fixed while the tree at hand is edited
abbrev pub around_of : FsTree → History → List (ℕ × Piece) → Around
around_of fs history names = record {
  owner = fs.tree.owner;
  names = names;
  slots = slots_of fs;
  first = fs.refs;
  ways = own_ways fs history;
  foreign = foreign_in fs history;
  beside = beside_in fs history;
  roots = roots_owed fs.others.items;
  clean = committed_at fs.land history;
}
