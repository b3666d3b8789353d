-- What is read of the trees of all subvolumes of an image (this project's own).
use Rattle.std.specs.Prelude.{◌≡◌, All, ℕ, List, map, Ok}
use Rattle.std.proofs.Common.{eqb}
use Rattle.std.specs.List.{Contains, IsDistinct}
use Rattle.qg_num.specs.Fields.{IsBytes}
use Rattle.qg_node.specs.declared.node.Node.{Node}
use Rattle.qg_node.specs.Nodes.{header_of}
use Rattle.qg_items.specs.declared.root.RootItem.{RootItem}
use Rattle.qg_super.specs.declared.superblock.Super.{Super}
use Rattle.qg_image.specs.declared.tree.TreeKind.TheVariants.{Files}
use Rattle.qg_image.specs.ImageState.{items_of_root, nodes_of_root}
use Rattle.qg_image.specs.Walk.{node_found}

-- The reader keeps some nodes, each of which lies at its address in the image, no two at one. They are those of the
-- trees with these ROOT_ITEMs
pub record AreFound {N : Type 0} (super : Super) (image : List ℕ) (roots : List (ℕ × RootItem))
    (keeps : N → List Node → Type 0) (reader : N) : Type 0 where
  pub nodes : List Node
  pub kept : keeps reader nodes
  pub found : (node : Node) → Contains nodes node → node_found super image (header_of node).address ≡ Ok node
  pub distinct : IsDistinct eqb (map (λ node. (header_of node).address) nodes)
  pub all : (entry : ℕ × RootItem) (node : Node) → Contains roots entry
      → Contains (nodes_of_root Files super image entry.1) node → Contains nodes node
  pub only : (node : Node) → Contains nodes node
      → (entry : ℕ × RootItem) × Contains roots entry × Contains (nodes_of_root Files super image entry.1) node
  -- the bodies of the trees' items are bytes
  pub bytes : (entry : ℕ × RootItem) → Contains roots entry
      → All (λ item. IsBytes item.body) (items_of_root Files super image entry.1)
