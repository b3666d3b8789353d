-- What is kept of a tree that was walked to its end (this project's own).
use Rattle.std.specs.Prelude.{◌≡◌, ℕ, List, map, Option, Some, IsTrue}
use Rattle.std.specs.List.{list_all}
use Rattle.qg_node.specs.declared.item.Item.{Item}
use Rattle.qg_node.specs.declared.node.Node.{Node}
use Rattle.qg_node.specs.Nodes.{header_of}
use Rattle.qg_super.specs.declared.sizes.Sizes.{Sizes}
use Rattle.qg_super.specs.Places.{is_slot}
use Rattle.qg_image.specs.declared.tree.TreeKind.{TreeKind}
use Rattle.qg_image.specs.Walk.{is_item_of}

-- each of some items, which the tree may hold in an image of this generation, says one of the parts, in their order
pub record AreHeld {P : Type 0} (tree : TreeKind) (meaning : Item → Option P) (generation : ℕ)
    (parts : List P) : Type 0 where
  pub items : List Item
  pub held : IsTrue (list_all (is_item_of tree generation) items)
  pub said : map meaning items ≡ map (λ part. Some part) parts

-- this is kept of some nodes, which lie in slots
pub record AreInSlots {N : Type 0} (sizes : Sizes) (keeps : N → List Node → Type 0) (kept_nodes : N) : Type 0 where
  pub nodes : List Node
  pub kept : keeps kept_nodes nodes
  pub slots : IsTrue (list_all (λ node. is_slot sizes (header_of node).address) nodes)

-- where nodes lie, in bytes, is kept of them, in their order
abbrev pub AreAddressesOf : List ℕ → List Node → Type 0
AreAddressesOf addresses nodes = addresses ≡ map (λ node. (header_of node).address) nodes
