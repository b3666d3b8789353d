-- What the device calls of a commit leave of nodes, and that they are the writes and syncs of which the laws on crashes
-- speak (this project's own). Addresses are in bytes.
use Rattle.std.specs.Prelude.{◌≡◌, ◌≢◌, ◌≤◌, ℕ, All, List, map, Ok, ◌==◌}
use Rattle.std.specs.List.{IsDistinct}
use Rattle.qg_device.specs.History.{Event, content}
use Rattle.qg_device.specs.CrashSince.{LeavesSince}
use Rattle.qg_node.specs.declared.node.Node.{Node}
use Rattle.qg_node.specs.Nodes.{header_of}
use Rattle.qg_super.specs.declared.superblock.Super.{Super}
use Rattle.qg_super.specs.SuperText.{sizes_of}
use Rattle.qg_image.specs.Walk.{node_found}
use Rattle.qg_commit.specs.Calls.{IsReadBack}
use Rattle.qg_commit.specs.CallEvents.{MakingCalls}
use Rattle.qg_crashes.specs.Committing.{Committing, begin_of, nodes_synced}
use Rattle.qg_crashes.specs.Slots.{node_events}

-- these are a commit's writes, apart from both superblock places, and its syncs
abbrev pub CallsCommit : Type 0
CallsCommit = (before : List Event) (nodes : List Node) (super : Super) (after : List Event)
    → MakingCalls before nodes super after
    → Committing before (node_events super.nodesize nodes) super after

-- where a commit writes no node at an address, what stands there in any image that a crash at a moment of it may leave
-- is what stood there as it began, to who reads by a superblock of the same sizes
abbrev pub OtherNodesStay : Type 0
OtherNodesStay = (before : List Event) (nodes : List Node) (super reader : Super) (after : List Event) (image : List ℕ)
    (moment address : ℕ)
    → MakingCalls before nodes super after → LeavesSince (begin_of before) after image moment
    → sizes_of reader ≡ sizes_of super
    → All (λ node. (header_of node).address ≢ address) nodes
    → node_found reader image address ≡ node_found reader (content before) address

-- nodes in slots of their own, each of which is read from its text, are found in any image that a crash may leave once
-- they were made sure of
abbrev pub NewNodesStand : Type 0
NewNodesStand = (before : List Event) (nodes : List Node) (super : Super) (after : List Event) (image : List ℕ)
    (moment : ℕ)
    → MakingCalls before nodes super after → LeavesSince (begin_of before) after image moment
    → nodes_synced before (node_events super.nodesize nodes) ≤ moment
    → IsDistinct (λ a b. a == b) (map (λ node. (header_of node).address) nodes) → All (IsReadBack super.nodesize) nodes
    → All (λ node. node_found super image (header_of node).address ≡ Ok node) nodes
