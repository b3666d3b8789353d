-- The device calls that make an image and that commit to it (this project's own).
use Rattle.std.specs.Prelude.{◌≡◌, ◌⊎◌, ℕ, ◌+◌, ◌-◌, ◌^◌, ◌<◌, ◌≤◌, List, [], ◌∷◌, ◌++◌, length, map, Ok}
use Rattle.qg_num.specs.Fields.{zeros}
use Rattle.qg_device.specs.History.{Event, History, Recorded, Wrote, Tore, Cut, CutShort, Synced, content}
use Rattle.qg_node.specs.declared.node.Node.{Node}
use Rattle.qg_node.specs.Nodes.{header_of}
use Rattle.qg_node.specs.NodeText.{node_text, IsNode}
use Rattle.qg_node.specs.Reading.{node_read}
use Rattle.qg_super.specs.declared.superblock.Super.{Super}
use Rattle.qg_super.specs.Places.{first_place, second_place, sector, total_bytes}
use Rattle.qg_super.specs.SuperText.{super_text, sizes_of}

-- ---- calls, and how far they came

-- a call that makes an image or commits to it: the disk is cut to a length, bytes are written at a place, or what was
-- done is made sure of
pub data Call : Type 0 where
  CutTo : (len : ℕ) → Call
  WriteAt : (at : ℕ) (bytes : List ℕ) → Call
  Sync : Call

-- what was done by then, where it was answered Ok
abbrev pub with_call : Call → List Event → List Event
with_call (CutTo len) events = Cut len ∷ events
with_call (WriteAt at bytes) events = Wrote at bytes ∷ events
with_call Sync events = Synced ∷ events

-- what was done once several were, one after the other
abbrev pub with_calls : List Call → List Event → List Event
with_calls [] events = events
with_calls (call ∷ calls) events = with_calls calls (with_call call events)

-- what was done where it failed: a cut may leave any bytes behind its length, no more than stood there; a write any
-- bytes in its range, no more than were asked; a sync does nothing
abbrev pub FailsAfter : Call → List Event → List Event → Type 0
FailsAfter (CutTo len) events after = (left : List ℕ) × (length left ≤ length (content events) - len)
    × (after ≡ CutShort len left ∷ events)
FailsAfter (WriteAt at bytes) events after = (left : List ℕ) × (length left ≤ length bytes)
    × (after ≡ Tore at bytes left ∷ events)
FailsAfter Sync events after = after ≡ events

-- some of the calls were made, or all, from the first on in their order; the last of those made may have failed
abbrev pub IsFrontOfCalls : List Call → List Event → List Event → Type 0
IsFrontOfCalls [] events after = after ≡ events
IsFrontOfCalls (call ∷ calls) events after = (after ≡ events)
    ⊎ (FailsAfter call events after ⊎ IsFrontOfCalls calls (with_call call events) after)

-- that was done to a disk, and nothing else
pub record MadeFront (calls : List Call) (events : List Event) (history : History) : Type 0 where
  pub after : List Event
  pub told : history ≡ Recorded after
  pub front : IsFrontOfCalls calls events after

-- ---- the calls of a commit

-- a node that has a text of so many bytes, at an address from which a number of 64 bits can tell its end
pub record IsWritable (nodesize : ℕ) (node : Node) : Type 0 where
  pub node_of_format : IsNode nodesize node
  pub ends : (header_of node).address + nodesize < 2 ^ 64

-- a node's text of so many bytes is read as the node, where it says that it lies
abbrev pub IsReadBack : ℕ → Node → Type 0
IsReadBack nodesize node = node_read (header_of node).address (node_text nodesize node) ≡ Ok node

-- nodes are written into their slots, one after the other
abbrev pub node_calls : ℕ → List Node → List Call
node_calls nodesize nodes = map (λ node. WriteAt (header_of node).address (node_text nodesize node)) nodes

-- what was done is made sure of, and then the superblock is written at both places: a sync, the first, a sync, the
-- second, a sync
abbrev pub superblock_calls : Super → List Call
superblock_calls super =
    Sync ∷ WriteAt first_place (super_text first_place super) ∷ Sync ∷ WriteAt second_place
    (super_text second_place super) ∷ Sync ∷ []

-- and these but for the last sync, so that what was done last is not made sure of
abbrev pub unsure_superblock_calls : Super → List Call
unsure_superblock_calls super =
    Sync ∷ WriteAt first_place (super_text first_place super) ∷ Sync ∷ WriteAt second_place
    (super_text second_place super) ∷ []

-- a commit: the new nodes, a sync, the first superblock, a sync, the second superblock, a sync
abbrev pub commit_calls : Super → List Node → List Call
commit_calls super nodes = node_calls super.nodesize nodes ++ superblock_calls super

-- a commit but for its last sync
abbrev pub unsure_calls : Super → List Node → List Call
unsure_calls super nodes = node_calls super.nodesize nodes ++ unsure_superblock_calls super

-- what was done once they were made
abbrev pub with_nodes : ℕ → List Node → List Event → List Event
with_nodes nodesize nodes events = with_calls (node_calls nodesize nodes) events

-- what was done once both superblocks were written at their places
abbrev pub with_superblocks : Super → List Event → List Event
with_superblocks super events = with_calls (superblock_calls super) events

-- what was done once all calls of a commit were made: those of its nodes, and those of its superblocks
abbrev pub with_commit : Super → List Node → List Event → List Event
with_commit super nodes events = with_superblocks super (with_nodes super.nodesize nodes events)

-- ---- the calls that make an image

-- the disk is cut to nothing, and its last sector is written as zeros
abbrev pub emptying_calls : Super → List Call
emptying_calls super = CutTo 0 ∷ WriteAt (total_bytes (sizes_of super) - sector) (zeros sector) ∷ []

-- an image is made: the disk is emptied so, and then a commit
abbrev pub image_calls : Super → List Node → List Call
image_calls super nodes = emptying_calls super ++ commit_calls super nodes

-- and these but for the last sync
abbrev pub unsure_image_calls : Super → List Node → List Call
unsure_image_calls super nodes = emptying_calls super ++ unsure_calls super nodes

-- what was done once they were made, the last sync too
abbrev pub with_image : Super → List Node → List Event → List Event
with_image super nodes events = with_calls (image_calls super nodes) events
