-- The device calls of a commit as writes and syncs.
use Rattle.std.proofs.Common.{◌≡◌, ◌∙◌, inl, inr, ℕ, List, [], ◌∷◌, ◌++◌, map, refl, sym, ap, subst}
use Rattle.std.specs.List.{AllByRecursion}
use Rattle.std.proofs.lemmas.List.{map-append}
use Rattle.qg_device.specs.History.{Event, Wrote, Cut, Synced}
use Rattle.qg_node.specs.declared.node.Node.{Node}
use Rattle.qg_node.specs.Nodes.{header_of}
use Rattle.qg_node.specs.NodeText.{node_text}
use Rattle.qg_super.specs.declared.superblock.Super.{Super}
use Rattle.qg_crashes.specs.Committing.{superblock_events, commit_events, IsFrontOfEvents}
use Rattle.qg_crashes.specs.Slots.{node_events, with_events}
use Rattle.qg_crashes.proofs.Slots.{with_events-append}
use Rattle.qg_commit.specs.Calls.{Call, CutTo, WriteAt, Sync, node_calls, superblock_calls, commit_calls, with_nodes}
use Rattle.qg_commit.specs.Calls.{with_superblocks, IsFrontOfCalls}
use Rattle.qg_commit.specs.CallEvents.{CallsAreWhole, CallsWrite}

-- what a call does to a disk
abbrev event_of : Call → Event
event_of (CutTo len) = Cut len
event_of (WriteAt at bytes) = Wrote at bytes
event_of Sync = Synced

-- no call of a commit cuts
abbrev IsNoCut : Call → Type 0
IsNoCut (CutTo len) = ⊥
IsNoCut (WriteAt at bytes) = Unit {0}
IsNoCut Sync = Unit {0}

nodes_no_cut : (nodesize : ℕ) (nodes : List Node) (later : List Call) → AllByRecursion IsNoCut later
    → AllByRecursion IsNoCut (node_calls nodesize nodes ++ later)
nodes_no_cut nodesize [] later all = all
nodes_no_cut nodesize (node ∷ nodes) later all = (tt, nodes_no_cut nodesize nodes later all)

-- calls came as far as what they do
front_of_calls : (calls : List Call) (events after : List Event) → AllByRecursion IsNoCut calls
    → IsFrontOfCalls calls events after → IsFrontOfEvents (map event_of calls) events after
front_of_calls [] events after all is = is
front_of_calls (CutTo len ∷ calls) events after all is = absurd all.0
front_of_calls (WriteAt at bytes ∷ calls) events after all (inl is) = inl is
front_of_calls (WriteAt at bytes ∷ calls) events after all (inr (inl fails)) = inr (inl fails)
front_of_calls (WriteAt at bytes ∷ calls) events after all (inr (inr front)) =
    inr (inr (front_of_calls calls (Wrote at bytes ∷ events) after all.1 front))
front_of_calls (Sync ∷ calls) events after all (inl is) = inl is
front_of_calls (Sync ∷ calls) events after all (inr (inl fails)) = inr (inl fails)
front_of_calls (Sync ∷ calls) events after all (inr (inr front)) =
    inr (inr (front_of_calls calls (Synced ∷ events) after all.1 front))

-- the calls of a commit do what a commit does
map-node_calls : (nodesize : ℕ) (nodes : List Node)
    → map event_of (node_calls nodesize nodes) ≡ node_events nodesize nodes
map-node_calls nodesize [] = refl
map-node_calls nodesize (node ∷ nodes) =
    ap (λ (events : List Event). Wrote (header_of node).address (node_text nodesize node) ∷ events)
    (map-node_calls nodesize nodes)

map-commit_calls : (super : Super) (nodes : List Node)
    → map event_of (commit_calls super nodes) ≡ commit_events (node_events super.nodesize nodes) super
map-commit_calls super nodes =
    map-append event_of (node_calls super.nodesize nodes) (superblock_calls super)
    ∙ ap (λ (events : List Event). events ++ superblock_events super) (map-node_calls super.nodesize nodes)

pub calls_write : CallsWrite
calls_write before nodes super after calls = record {
  long = calls.long;
  may_be_written = calls.may_be_written;
  in_slots = calls.in_slots;
  so_far = subst (λ (steps : List Event). IsFrontOfEvents steps (Synced ∷ before) after) (map-commit_calls super nodes)
      (front_of_calls (commit_calls super nodes) (Synced ∷ before) after
      (nodes_no_cut super.nodesize nodes (superblock_calls super) (tt, (tt, (tt, (tt, (tt, tt)))))) calls.so_far);
}

-- ---- the whole commit

nodes_whole : (nodesize : ℕ) (nodes : List Node) (events : List Event)
    → with_nodes nodesize nodes events ≡ with_events (node_events nodesize nodes) events
nodes_whole nodesize [] events = refl
nodes_whole nodesize (node ∷ nodes) events =
    nodes_whole nodesize nodes (Wrote (header_of node).address (node_text nodesize node) ∷ events)

pub calls_are_whole : CallsAreWhole
calls_are_whole before nodes super =
    ap (λ (events : List Event). with_superblocks super events) (nodes_whole super.nodesize nodes (Synced ∷ before))
    ∙ sym (with_events-append (node_events super.nodesize nodes) (superblock_events super) (Synced ∷ before))
