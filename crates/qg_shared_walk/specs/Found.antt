-- What is remembered after the trees of some subvolumes were read (this project's own).
use Rattle.std.specs.Prelude.{All, ℕ, List}
use Rattle.std.proofs.Common.{◌⊎◌}
use Rattle.std.specs.List.{Contains}
use Rattle.qg_device.specs.History.{Event, content}
use Rattle.qg_num.specs.Fields.{IsBytes}
use Rattle.qg_node.specs.declared.node.Node.{Node}
use Rattle.qg_items.specs.declared.root.RootItem.{RootItem}
use Rattle.qg_super.specs.declared.superblock.Super.{Super}
use Rattle.qg_image.specs.declared.tree.TreeKind.TheVariants.{Files}
use Rattle.qg_image.specs.ImageState.{items_of_root, nodes_of_root}
use Rattle.qg_shared_walk.specs.declared.digest.Digest.{Digest}
use Rattle.qg_shared_walk.specs.Memo.{Remembers}

-- after a subvolume's tree was read more is remembered: its nodes, and nothing else
pub record HasTree {N : Type 0} (super : Super) (events : List Event) (keeps : N → List Node → Type 0)
    (old : List Node) (digests : List (ℕ × Digest)) (reader : N) (root : RootItem) : Type 0 where
  pub now : List Node
  pub remembers : Remembers super events keeps now digests reader
  pub stay : (node : Node) → Contains old node → Contains now node
  pub all : (node : Node) → Contains (nodes_of_root Files super (content events) root) node → Contains now node
  pub more : (node : Node) → Contains now node
      → Contains old node ⊎ Contains (nodes_of_root Files super (content events) root) node
  pub bytes : All (λ item. IsBytes item.body) (items_of_root Files super (content events) root)

-- the same of several subvolumes: the nodes of their trees are remembered, and nothing else
pub record HasTrees {N : Type 0} (super : Super) (events : List Event) (keeps : N → List Node → Type 0)
    (roots : List (ℕ × RootItem)) (digests : List (ℕ × Digest)) (reader : N) : Type 0 where
  pub now : List Node
  pub remembers : Remembers super events keeps now digests reader
  pub all : (entry : ℕ × RootItem) (node : Node) → Contains roots entry
      → Contains (nodes_of_root Files super (content events) entry.1) node → Contains now node
  pub only : (node : Node) → Contains now node
      → (entry : ℕ × RootItem) × Contains roots entry × Contains
      (nodes_of_root Files super (content events) entry.1) node
  pub bytes : (entry : ℕ × RootItem) → Contains roots entry
      → All (λ item. IsBytes item.body) (items_of_root Files super (content events) entry.1)
