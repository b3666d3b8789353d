-- What is surveyed of the nodes that subvolumes reach (this project's own). Addresses and sizes are in bytes.
use Rattle.std.specs.Prelude.{◌≡◌, ℕ, List, map}
use Rattle.std.specs.List.Sorted.{IsStrictlyIncreasing}
use Rattle.qg_image.specs.Table.{keys_of}
use Rattle.qg_image.specs.declared.element.Element.{Element}
use Rattle.qg_image.specs.State.{Layout, Placed}
use Rattle.qg_image.specs.Reach.{pieces_of}
use Rattle.qg_image.specs.Owed.{layout_extents}
use Rattle.qg_reach.specs.Sets.{HaveSame}
use Rattle.qg_owner_rule.specs.declared.linked.Linked.{Linked}
use Rattle.qg_owner_rule.specs.Linked.{linked_of, AreLinksOf}
use Rattle.qg_qgroup_counts.specs.declared.surveyed.Surveyed.{Surveyed}

-- what is surveyed of a node at an address: its links, and where the extents begin that its pieces name
abbrev pub surveyed_of : ℕ → Placed → Surveyed
surveyed_of address placed = record {
  linked = linked_of address placed;
  extents = map (λ piece. piece.extent) (pieces_of placed.node);
}

-- the nodes as they are linked
abbrev pub links_in : List Surveyed → List Linked
links_in nodes = map (λ node. node.linked) nodes

-- these are the roots of all subvolumes of a layout, all its nodes with the bytes of each, and all its data extents
pub record AreSurveyed (layout : Layout) (roots : List (ℕ × ℕ)) (nodes : List Surveyed) (nodesize : ℕ)
    (extents : List Element) : Type 0 where
  -- the subvolumes ascend by number
  pub numbers : IsStrictlyIncreasing (keys_of layout.roots)
  -- roots and nodes are the layout's, and its trees are well-formed
  pub links : AreLinksOf layout roots (links_in nodes)
  pub told : nodes ≡ map (λ entry. surveyed_of entry.0 entry.1) layout.nodes
  pub bytes : nodesize ≡ layout.nodesize
  -- the extents ascend by address, and are those that leaves name
  pub ascending : IsStrictlyIncreasing (map (λ extent. extent.address) extents)
  pub named : HaveSame extents (layout_extents layout)
