-- What the rule `home` needs of a node, and the links between the nodes of a layout (this project's own). Addresses are
-- in bytes.
use Rattle.std.specs.Prelude.{◌≡◌, ℕ, ◌+◌, false, List, map}
use Rattle.std.specs.List.{Contains}
use Rattle.qg_node.specs.Nodes.{header_of, own_pointers}
use Rattle.qg_image.specs.State.{Layout, Placed}
use Rattle.qg_image.specs.Reach.{is_among}
use Rattle.qg_image.specs.Owed.{layout_extents}
use Rattle.qg_owner_rule.specs.declared.linked.Linked.{Linked}

-- what is told of a node at an address: its level and owner, its full mark, and where its children lie
abbrev pub linked_of : ℕ → Placed → Linked
linked_of address placed = record {
  address = address;
  level = (header_of placed.node).level;
  owner = (header_of placed.node).owner;
  full = placed.full;
  children = map (λ pointer. pointer.child) (own_pointers placed.node);
}

-- a node lies at an address
abbrev pub HasNodeAt : List Linked → ℕ → Type 0
HasNodeAt nodes address = (node : Linked) × Contains nodes node × (node.address ≡ address)

-- a node lies at an address that is one level below another
abbrev pub HasChildAt : List Linked → Linked → ℕ → Type 0
HasChildAt nodes parent address =
    (node : Linked) × Contains nodes node × (node.address ≡ address) × (parent.level ≡ node.level + 1)

-- these are the roots and the nodes of a layout, as the walk of its trees and the rule `space` have judged them
pub record AreLinksOf (layout : Layout) (subvolumes : List (ℕ × ℕ)) (nodes : List Linked) : Type 0 where
  -- they are the layout's
  pub roots : subvolumes ≡ layout.roots
  pub told : nodes ≡ map (λ entry. linked_of entry.0 entry.1) layout.nodes
  -- each root is one of the nodes
  pub begin : (root : ℕ × ℕ) → Contains subvolumes root → HasNodeAt nodes root.1
  -- each child of a node is one of the nodes, a level lower
  pub below : (parent : Linked) (child : ℕ)
      → Contains nodes parent → Contains parent.children child → HasChildAt nodes parent child
  -- where a node lies no data extent begins
  pub apart : (node : Linked) → Contains nodes node → is_among node.address (layout_extents layout) ≡ false
