-- The references that a node's children may have from it: keyed ones, and shared ones (this project's own, after the
-- on-disk format's "backreferences"). A child is a node that a pointer names, or an extent that a piece names.
-- Addresses are in bytes.
use Rattle.std.specs.Prelude.{◌≡◌, ℕ, true, false, ◌||◌, List, [], Option, Some, None, ◌==◌, nat_lt, is_some}
use Rattle.qg_node.specs.declared.node.Header.{Header}
use Rattle.qg_node.specs.declared.node.Node.{Node}
use Rattle.qg_node.specs.declared.node.Node.TheVariants.{Leaf, Inner}
use Rattle.qg_node.specs.Nodes.{header_of}
use Rattle.qg_items.specs.declared.extent.Reference.TheVariants.{KeyedBlock}
use Rattle.qg_image.specs.State.{Placed}
use Rattle.qg_image.specs.Owed.{Owing, owed_by_node}

-- the tree that made a node
abbrev pub owner_of : Placed → ℕ
owner_of placed = (header_of placed.node).owner

-- the same items or pointers under another header
abbrev pub with_header : Header → Node → Node
with_header header (Leaf old items) = Leaf header items
with_header header (Inner old pointers) = Inner header pointers

-- a keyed reference of a tree to each child
abbrev pub keyed_children : Node → ℕ → List Owing
keyed_children node tree =
    owed_by_node (record { node = with_header (record (header_of node) { owner = tree }) node; full = false })

-- a shared reference to each child with the node as parent
abbrev pub shared_children : Node → List Owing
shared_children node = owed_by_node (record { node = node; full = true })

-- a keyed reference of a tree to the node at an address: through it the tree reaches the node, from a node that it has
-- made and that is not full, or as its root
abbrev pub way_to : ℕ → ℕ → Owing
way_to address tree = record { address = address; reference = KeyedBlock tree }

-- what a node owes if it stays
abbrev pub owed_if_there : Option Placed → List Owing
owed_if_there None = []
owed_if_there (Some placed) = owed_by_node placed

-- a node that a subvolume no longer reaches: it stays exactly where other references to it are left, as many as
-- `references`; then it is full where it was or where the subvolume had made it, and nothing else of it changes
pub record LeftBy (tree references : ℕ) (old : Placed) (after : Option Placed) : Type 0 where
  pub stays : is_some after ≡ nat_lt 0 references
  pub same : (placed : Placed) → after ≡ Some placed → placed ≡ record old { full = old.full || (owner_of old == tree) }
