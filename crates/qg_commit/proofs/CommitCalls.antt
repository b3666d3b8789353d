-- The calls that a commit makes, one after the other.
use Rattle.std.proofs.Common.{◌≡◌, ℕ, List, [], ◌∷◌, ◌++◌, refl, sym, ap, ◌∙◌}
use Rattle.std.specs.List.{AllByRecursion}
use Rattle.qg_device.specs.History.{Event, History, Wrote, history_after, with_event}
use Rattle.qg_device.proofs.Histories.{Adds, adds-both, after-both, after-event, after-same}
use Rattle.qg_node.specs.declared.node.Node.{Node}
use Rattle.qg_node.specs.Nodes.{header_of}
use Rattle.qg_node.specs.NodeText.{node_text}
use Rattle.qg_super.specs.declared.superblock.Super.{Super}
use Rattle.qg_commit.specs.Calls.{Call, CutTo, WriteAt, Sync, commit_calls, node_calls, superblock_calls, with_call}
use Rattle.qg_commit.specs.Calls.{with_calls}
use Rattle.qg_commit.specs.Calls.{with_commit, with_nodes, with_superblocks}
use Rattle.qg_commit.proofs.Fronts.{ComesTo, comes-all, comes-behind}

-- calls that were answered Ok add events alone
call-adds : (call : Call) → Adds (with_call call)
call-adds (CutTo len) events = refl
call-adds (WriteAt at bytes) events = refl
call-adds Sync events = refl

pub calls-add : (calls : List Call) → Adds (with_calls calls)
calls-add [] events = refl
calls-add (call ∷ calls) events =
    adds-both (with_call call) (with_calls calls) (call-adds call) (calls-add calls) events

-- calls behind others
with_calls-append : (front back : List Call) (events : List Event)
    → with_calls (front ++ back) events ≡ with_calls back (with_calls front events)
with_calls-append [] back events = refl
with_calls-append (call ∷ front) back events = with_calls-append front back (with_call call events)

-- those of a commit
pub commit-made : (super : Super) (nodes : List Node) (events : List Event)
    → with_calls (commit_calls super nodes) events ≡ with_commit super nodes events
commit-made super nodes events =
    with_calls-append (node_calls super.nodesize nodes) (superblock_calls super) events

pub commit-adds : (super : Super) (nodes : List Node) → Adds (with_commit super nodes)
commit-adds super nodes = adds-both (with_nodes super.nodesize nodes) (with_superblocks super)
    (calls-add (node_calls super.nodesize nodes)) (calls-add (superblock_calls super))

-- one of the nodes is written
event_before : (nodesize : ℕ) (node : Node) (nodes : List Node) (old : History)
    → history_after (with_nodes nodesize nodes)
    (with_event (Wrote (header_of node).address (node_text nodesize node)) old)
    ≡ history_after (with_nodes nodesize (node ∷ nodes)) old
event_before nodesize node nodes old =
    after-event (Wrote (header_of node).address (node_text nodesize node)) (with_nodes nodesize nodes)
    (calls-add (node_calls nodesize nodes)) old

pub next_call : (nodesize : ℕ) (node : Node) (now later : List Node) (at : ℕ) (bytes : List ℕ)
    (start old new : History) → now ≡ node ∷ later → at ≡ (header_of node).address
    → bytes ≡ node_text nodesize node
    → new ≡ with_event (Wrote at bytes) old → history_after (with_nodes nodesize now) old ≡ start
    → history_after (with_nodes nodesize later) new ≡ start
next_call nodesize node now later at bytes start old new cut there text is before =
    ap (history_after (with_nodes nodesize later)) is
    ∙ ap (λ (n : ℕ). history_after (with_nodes nodesize later) (with_event (Wrote n bytes) old)) there
    ∙ ap (λ (list : List ℕ). history_after (with_nodes nodesize later)
    (with_event (Wrote (header_of node).address list) old)) text
    ∙ event_before nodesize node later old ∙ ap (λ (list : List Node). history_after (with_nodes nodesize list) old)
    (sym cut) ∙ before

-- nodes are written after others
with_nodes-append : (nodesize : ℕ) (front back : List Node) (events : List Event)
    → with_nodes nodesize (front ++ back) events ≡ with_nodes nodesize back (with_nodes nodesize front events)
with_nodes-append nodesize [] back events = refl
with_nodes-append nodesize (node ∷ front) back events =
    with_nodes-append nodesize front back (Wrote (header_of node).address (node_text nodesize node) ∷ events)

-- of a history that is told or not
nodes_after : (nodesize : ℕ) (front back : List Node) (old : History)
    → history_after (with_nodes nodesize back) (history_after (with_nodes nodesize front) old)
    ≡ history_after (with_nodes nodesize (front ++ back)) old
nodes_after nodesize front back old =
    after-both (with_nodes nodesize front) (with_nodes nodesize back) (calls-add (node_calls nodesize back)) old
    ∙ after-same (λ events. with_nodes nodesize back (with_nodes nodesize front events))
    (with_nodes nodesize (front ++ back)) (λ events. sym (with_nodes-append nodesize front back events)) old

pub superblocks_after : (super : Super) (nodes : List Node) (old : History)
    → history_after (with_superblocks super) (history_after (with_nodes super.nodesize nodes) old)
    ≡ history_after (with_commit super nodes) old
superblocks_after super nodes old =
    after-both (with_nodes super.nodesize nodes) (with_superblocks super) (calls-add (superblock_calls super)) old

-- a list of nodes was written, over a buffer of the size that the superblock tells
pub first_calls : (super : Super) (nodesize : ℕ) (given nodes : List Node) (old new : History)
    → nodesize ≡ super.nodesize → given ≡ nodes → new ≡ history_after (with_nodes nodesize given) old
    → new ≡ history_after (with_nodes super.nodesize nodes) old
first_calls super nodesize given nodes old new size same is =
    is ∙ ap (λ (n : ℕ). history_after (with_nodes n given) old) size
    ∙ ap (λ (list : List Node). history_after (with_nodes super.nodesize list) old) same

-- and then another
pub two_calls : (super : Super) (nodesize : ℕ) (front given back : List Node) (old between new : History)
    → nodesize ≡ super.nodesize → given ≡ back → between ≡ history_after (with_nodes super.nodesize front) old
    → new ≡ history_after (with_nodes nodesize given) between
    → new ≡ history_after (with_nodes super.nodesize (front ++ back)) old
two_calls super nodesize front given back old between new size same first second =
    first_calls super nodesize given back between new size same second
    ∙ ap (history_after (with_nodes super.nodesize back)) first ∙ nodes_after super.nodesize front back old

-- and then the superblocks
pub last_calls : (super : Super) (nodes : List Node) (old between new : History)
    → between ≡ history_after (with_nodes super.nodesize nodes) old
    → new ≡ history_after (with_superblocks super) between
    → new ≡ history_after (with_commit super nodes) old
last_calls super nodes old between new first second = second ∙ ap (history_after (with_superblocks super)) first
    ∙ superblocks_after super nodes old

-- all of a commit was made
pub whole-made : (super : Super) (nodes : List Node) (old new : History)
    → new ≡ history_after (with_commit super nodes) old → ComesTo (commit_calls super nodes) old new
whole-made super nodes old new made =
    let between = history_after (with_nodes super.nodesize nodes) old in
    comes-behind (node_calls super.nodesize nodes) (superblock_calls super) old between new refl
    (comes-all (superblock_calls super) between new (made ∙ sym (superblocks_after super nodes old)))

-- ---- parts of the nodes

all_front : {A : Type 0} (P : A → Type 0) (front back : List A) → AllByRecursion P (front ++ back)
    → AllByRecursion P front
all_front P [] back all = tt
all_front P (x ∷ front) back all = (all.0, all_front P front back all.1)

all_back : {A : Type 0} (P : A → Type 0) (front back : List A) → AllByRecursion P (front ++ back)
    → AllByRecursion P back
all_back P [] back all = all
all_back P (x ∷ front) back all = all_back P front back all.1

-- what holds of the nodes of four trees, one behind the other, holds of those of each
pub record OfEach {A : Type 0} (P : A → Type 0) (a b c d : List A) : Type 0 where
  pub first : AllByRecursion P a
  pub second : AllByRecursion P b
  pub third : AllByRecursion P c
  pub fourth : AllByRecursion P d

pub of_each : {A : Type 0} (P : A → Type 0) (a b c d : List A) → AllByRecursion P (a ++ b ++ c ++ d) → OfEach P a b c d
of_each {A} P a b c d all =
    let three = all_front P (a ++ b ++ c) d all in
    let two = all_front P (a ++ b) c three in
    record {
      first = all_front P a b two;
      second = all_back P a b two;
      third = all_back P (a ++ b) c three;
      fourth = all_back P (a ++ b ++ c) d all;
    }
