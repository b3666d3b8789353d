-- The contents of which a commit makes sure.
use Rattle.std.proofs.Common.{◌≡◌, ℕ, ◌+◌, List, [], ◌∷◌, map, length, refl, ap}
use Rattle.qg_device.specs.History.{Event, Wrote, Synced, Moment, content, synced}
use Rattle.qg_node.specs.declared.node.Node.{Node}
use Rattle.qg_node.specs.Nodes.{header_of}
use Rattle.qg_node.specs.NodeText.{node_text}
use Rattle.qg_super.specs.declared.superblock.Super.{Super}
use Rattle.qg_super.specs.Places.{first_place, second_place}
use Rattle.qg_super.specs.SuperText.{super_text}
use Rattle.qg_commit.specs.Calls.{with_nodes, with_commit}

-- what a disk held at a sync right after these events
abbrev pub sync_after : List Event → Moment
sync_after events = record { moment = length events + 1; content = content events }

-- what was done up to the first sync of a commit, up to the second, and up to the third
abbrev pub up_to_first : Super → List Node → List Event → List Event
up_to_first super nodes events = with_nodes super.nodesize nodes events

abbrev pub up_to_second : Super → List Node → List Event → List Event
up_to_second super nodes events = Wrote first_place (super_text first_place super) ∷ Synced
    ∷ up_to_first super nodes events

abbrev pub up_to_third : Super → List Node → List Event → List Event
up_to_third super nodes events = Wrote second_place (super_text second_place super) ∷ Synced
    ∷ up_to_second super nodes events

-- the writes of nodes make sure of nothing
synced-with_nodes : (nodesize : ℕ) (nodes : List Node) (events : List Event)
    → synced (with_nodes nodesize nodes events) ≡ synced events
synced-with_nodes nodesize [] events = refl
synced-with_nodes nodesize (node ∷ nodes) events =
    synced-with_nodes nodesize nodes (Wrote (header_of node).address (node_text nodesize node) ∷ events)

-- a commit adds three moments to those before it; at the last the disk holds what it holds after the commit
pub synced-with_commit : (super : Super) (nodes : List Node) (events : List Event)
    → synced (with_commit super nodes events)
    ≡ record {
      moment = length (up_to_third super nodes events) + 1;
      content = content (with_commit super nodes events);
    }
    ∷ sync_after (up_to_second super nodes events) ∷ sync_after (up_to_first super nodes events) ∷ synced events
synced-with_commit super nodes events =
    ap (λ (older : List Moment).
    sync_after (up_to_third super nodes events) ∷ sync_after (up_to_second super nodes events)
    ∷ sync_after (up_to_first super nodes events) ∷ older)
    (synced-with_nodes super.nodesize nodes events)

-- the contents at each sync, the newest first
abbrev pub synced_contents : List Event → List (List ℕ)
synced_contents events = map (λ (moment : Moment). moment.content) (synced events)

-- a commit adds three contents to those before it, the last of which is what the disk holds after the commit
pub synced_contents-with_commit : (super : Super) (nodes : List Node) (events : List Event)
    → synced_contents (with_commit super nodes events)
    ≡ content (with_commit super nodes events) ∷ content (up_to_second super nodes events)
    ∷ content (up_to_first super nodes events) ∷ synced_contents events
synced_contents-with_commit super nodes events =
    ap (map (λ (moment : Moment). moment.content)) (synced-with_commit super nodes events)
