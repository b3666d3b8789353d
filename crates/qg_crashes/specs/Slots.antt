-- A commit that writes nodes into slots, and what a crash in its midst leaves of slots (this project's own). Addresses
-- are in bytes.
use Rattle.std.specs.Prelude.{◌≡◌, ◌≢◌, ℕ, ◌≤◌, true, All, IsTrue, List, [], ◌∷◌, length, map}
use Rattle.qg_device.specs.History.{Event, Wrote, Synced, content}
use Rattle.qg_device.specs.CrashSince.{LeavesSince}
use Rattle.qg_node.specs.declared.node.Node.{Node}
use Rattle.qg_node.specs.Nodes.{header_of}
use Rattle.qg_node.specs.NodeText.{node_text, IsNode}
use Rattle.qg_super.specs.declared.superblock.Super.{Super}
use Rattle.qg_super.specs.Places.{is_slot, total_bytes}
use Rattle.qg_super.specs.SuperText.{is_super, sizes_of}
use Rattle.qg_image.specs.Walk.{node_found}
use Rattle.qg_crashes.specs.Committing.{Committing, IsFrontOfEvents, begin_of, commit_events, nodes_synced}

-- a node that has a text, in a slot of the image
pub record IsInSlot (super : Super) (node : Node) : Type 0 where
  pub node_of_format : IsNode super.nodesize node
  pub slot : is_slot (sizes_of super) (header_of node).address ≡ true

-- the writes of nodes into their slots
abbrev pub node_events : ℕ → List Node → List Event
node_events nodesize nodes = map (λ node. Wrote (header_of node).address (node_text nodesize node)) nodes

-- all that a commit of these nodes and this superblock does: the nodes, a sync, the first place, a sync, the second
-- place, a sync
abbrev pub events_of_commit : List Node → Super → List Event
events_of_commit nodes super = commit_events (node_events super.nodesize nodes) super

-- what was done to a disk once these events were, the first of them first
abbrev pub with_events : List Event → List Event → List Event
with_events [] older = older
with_events (event ∷ events) older = with_events events (event ∷ older)

-- what was done once the whole commit was, on a disk that had made sure of all that it held
abbrev pub with_whole : List Node → Super → List Event → List Event
with_whole nodes super before = with_events (events_of_commit nodes super) (Synced ∷ before)

-- A commit of these nodes, in slots, and of this superblock came so far, on a disk that is as long as the image and had
-- made sure of all that it held: its history was then a sync behind the events before
pub record Writing (before : List Event) (nodes : List Node) (super : Super) (after : List Event) : Type 0 where
  pub long : total_bytes (sizes_of super) ≤ length (content before)
  pub may_be_written : IsTrue (is_super super)
  pub in_slots : All (IsInSlot super) nodes
  pub so_far : IsFrontOfEvents (events_of_commit nodes super) (Synced ∷ before) after

-- it is one of which the laws on both superblocks speak: each write of a node is apart from both places
abbrev pub WritingCommits : Type 0
WritingCommits = (before : List Event) (nodes : List Node) (super : Super) (after : List Event)
    → Writing before nodes super after
    → Committing before (node_events super.nodesize nodes) super after

-- no image that a crash may leave is shorter than the disk was
abbrev pub StaysAsLong : Type 0
StaysAsLong = (before : List Event) (nodes : List Node) (super : Super) (after : List Event) (image : List ℕ)
    (moment : ℕ)
    → Writing before nodes super after → LeavesSince (begin_of before) after image moment
    → length (content before) ≤ length image

-- at an address at which no node is written, what stands in any image that a crash at a moment of the commit may leave
-- is what stood there as it began, to who reads by a superblock of the same sizes
abbrev pub OtherSlotsStay : Type 0
OtherSlotsStay = (before : List Event) (nodes : List Node) (super reader : Super) (after : List Event) (image : List ℕ)
    (moment address : ℕ)
    → Writing before nodes super after → LeavesSince (begin_of before) after image moment
    → sizes_of reader ≡ sizes_of super
    → All (λ node. (header_of node).address ≢ address) nodes
    → node_found reader image address ≡ node_found reader (content before) address

-- from the sync of the nodes on, what stands at each address in such an image is what stands there once the whole
-- commit was done
abbrev pub SlotsAreSettled : Type 0
SlotsAreSettled = (before : List Event) (nodes : List Node) (super reader : Super) (after : List Event) (image : List ℕ)
    (moment address : ℕ)
    → Writing before nodes super after → LeavesSince (begin_of before) after image moment
    → sizes_of reader ≡ sizes_of super
    → nodes_synced before (node_events super.nodesize nodes) ≤ moment
    → node_found reader image address ≡ node_found reader (content (with_whole nodes super before)) address
