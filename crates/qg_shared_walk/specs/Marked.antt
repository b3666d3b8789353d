-- Full marks, and what a node owes where it has one (this project's own). Addresses are in bytes.
use Rattle.std.specs.Prelude.{ℕ, ◌/◌, ◌%◌, Bool, true, false, List, map, Option, None, ◌==◌}
use Rattle.std.specs.Bool.{then_some}
use Rattle.std.specs.List.{list_any}
use Rattle.qg_items.specs.declared.extent.Reference.{Reference}
use Rattle.qg_items.specs.declared.extent.Reference.TheVariants.{KeyedBlock, SharedBlock, KeyedData, SharedData}
use Rattle.qg_image.specs.declared.part.ExtentPart.{ExtentPart}
use Rattle.qg_image.specs.declared.part.ExtentPart.TheVariants.{DataRecord, NodeRecord, Referenced}
use Rattle.qg_image.specs.Owed.{Owing as OwedReference}
use Rattle.qg_image.specs.declared.element.Element.{Element}
use Rattle.qg_owner_rule.specs.declared.linked.Linked.{Linked}
use Rattle.qg_qgroup_counts.specs.declared.surveyed.Surveyed.{Surveyed}
use Rattle.qg_backref_rule.specs.declared.thing.Thing.{Thing}
use Rattle.qg_backref_rule.specs.declared.thing.Kind.TheVariants.{Node, Extent}
use Rattle.qg_shared_walk.specs.NodeFacts.{NodeTold}

-- ---- which nodes are full

-- the address of a node that its record says to be full
abbrev pub full_address : ExtentPart → Option ℕ
full_address (DataRecord address bytes extent) = None
full_address (NodeRecord address level extent) = then_some (extent.flags / 256 % 2 == 1) address
full_address (Referenced address reference count) = None

-- an address is one of those of full nodes
abbrev pub is_marked : List ℕ → ℕ → Bool
is_marked full address = list_any (λ other. other == address) full

-- ---- what is told of a node that is full or isn't

-- the shared reference from a parent that stands for one
abbrev pub marked_reference : ℕ → Reference → Reference
marked_reference parent (KeyedBlock root) = SharedBlock parent
marked_reference parent (SharedBlock other) = SharedBlock parent
marked_reference parent (KeyedData root ino offset) = SharedData parent
marked_reference parent (SharedData other) = SharedData parent

-- what a node that is full or isn't owes, by what it owes where it isn't
abbrev pub marked_owing : ℕ → Bool → OwedReference → OwedReference
marked_owing parent false owing = owing
marked_owing parent true owing = record { address = owing.address; reference = marked_reference parent owing.reference }

-- what it owes
abbrev pub marked_owings : Bool → NodeTold → List OwedReference
marked_owings full node = map (marked_owing node.linked.address full) node.owings

-- what it is
abbrev pub marked_thing : Bool → NodeTold → Thing
marked_thing full node = record { address = node.linked.address; kind = Node node.linked.level node.generation full }

-- where it lies, and what it points to
abbrev pub marked_link : Bool → NodeTold → Linked
marked_link full node = record {
  address = node.linked.address;
  level = node.linked.level;
  owner = node.linked.owner;
  full = full;
  children = node.linked.children;
}

-- what it owes, where these are the addresses of full nodes
abbrev pub owed_where : List ℕ → NodeTold → List OwedReference
owed_where full node = marked_owings (is_marked full node.linked.address) node

-- what it is, where these are the addresses of full nodes
abbrev pub thing_where : List ℕ → NodeTold → Thing
thing_where full node = marked_thing (is_marked full node.linked.address) node

-- where it lies and what it points to, where these are the addresses of full nodes
abbrev pub link_where : List ℕ → NodeTold → Linked
link_where full node = marked_link (is_marked full node.linked.address) node

-- what is surveyed of it
abbrev pub surveyed_where : List ℕ → NodeTold → Surveyed
surveyed_where full node = record {
  linked = link_where full node;
  extents = map (λ extent. extent.address) node.extents;
}

-- ---- extents

-- a data extent, as a thing
abbrev pub extent_thing : Element → Thing
extent_thing extent = record { address = extent.address; kind = Extent extent.bytes }

-- ---- roots

-- what a subvolume owes its root node
abbrev pub root_owing : ℕ × ℕ → OwedReference
root_owing root = record { address = root.1; reference = KeyedBlock root.0 }
