-- What was done to a disk stays in front of what is done later, by a moment.
use Rattle.std.proofs.Common.{◌≡◌, ◌∙◌, inl, inr, ℕ, ◌+◌, ◌-◌, ◌≤◌, List, [], ◌∷◌, ◌++◌, length, suc, take, drop, refl}
use Rattle.std.proofs.Common.{sym, ap, subst, arith, append_assoc}
use Rattle.std.proofs.Math.Seq.{drop-append_seam}
use Rattle.std.proofs.lemmas.List.{length-append, length-map, take-append-drop}
use Rattle.qg_device.specs.History.{Event, Wrote, Tore, Cut, CutShort, Synced}
use Rattle.qg_device.specs.Crash.{Leaves}
use Rattle.qg_device.specs.CrashSince.{LeavesSince, events_by}
use Rattle.qg_node.specs.declared.node.Node.{Node}
use Rattle.qg_node.specs.Nodes.{header_of}
use Rattle.qg_node.specs.NodeText.{node_text}
use Rattle.qg_super.specs.declared.superblock.Super.{Super}
use Rattle.qg_image.specs.State.{State}
use Rattle.qg_crashes.specs.Committing.{FailsAfter, IsFrontOfEvents}
use Rattle.qg_crashes.specs.Outcomes.{Chain, Commit, behind}
use Rattle.qg_crashes.specs.Slots.{events_of_commit}
use Rattle.qg_store.specs.Calls.{Call, CutTo, WriteAt, Sync, IsFrontOfCalls, commit_calls, node_calls}
use Rattle.qg_store.specs.Calls.{superblock_calls, with_calls, with_commit, with_nodes}

-- these events came behind those
pub record Grown (before after : List Event) : Type 0 where
  pub newer : List Event
  pub is : after ≡ newer ++ before

pub grown-none : (before after : List Event) → after ≡ before → Grown before after
grown-none before after is = record { newer = []; is = is }

pub grown-more : (event : Event) (before after : List Event) → Grown (event ∷ before) after → Grown before after
grown-more event before after grown =
    record { newer = grown.newer ++ event ∷ []; is = grown.is ∙ sym (append_assoc grown.newer (event ∷ []) before) }

pub grown-then : (before mid after : List Event) → Grown before mid → Grown mid after → Grown before after
grown-then before mid after first second = record {
  newer = second.newer ++ first.newer;
  is = second.is ∙ ap (λ (older : List Event). second.newer ++ older) first.is
      ∙ sym (append_assoc second.newer first.newer before);
}

-- ---- commits

fails-grown : (event : Event) (before after : List Event) → FailsAfter event before after → Grown before after
fails-grown (Wrote at bytes) before after fails = record { newer = Tore at bytes fails.0 ∷ []; is = fails.2 }
fails-grown (Tore at asked left) before after fails = absurd fails
fails-grown (Cut len) before after fails = absurd fails
fails-grown (CutShort len left) before after fails = absurd fails
fails-grown Synced before after fails = grown-none before after fails

front-grown : (steps before after : List Event) → IsFrontOfEvents steps before after → Grown before after
front-grown [] before after is = grown-none before after is
front-grown (step ∷ steps) before after (inl is) = grown-none before after is
front-grown (step ∷ steps) before after (inr (inl fails)) = fails-grown step before after fails
front-grown (step ∷ steps) before after (inr (inr front)) =
    grown-more step before after (front-grown steps (step ∷ before) after front)

-- those of a chain came behind the sync in front of it
pub chain-grown : (old : State) (chain : List Commit) (before after : List Event) → Chain old chain before after
    → Grown (Synced ∷ before) after
chain-grown old [] before after chain = grown-none (Synced ∷ before) after chain.1
chain-grown old (last ∷ []) before after chain =
    front-grown (events_of_commit last.nodes last.super) (Synced ∷ before) after chain.writes.so_far
chain-grown old (first ∷ next ∷ later) before after chain =
    let whole = Synced ∷ behind first before in
    grown-then (Synced ∷ before) whole after
    (front-grown (events_of_commit first.nodes first.super) (Synced ∷ before) whole chain.0.writes.so_far)
    (chain-grown first.state (next ∷ later) (behind first before) after chain.1)

-- ---- calls

pub calls-grown : (calls : List Call) (events : List Event) → Grown events (with_calls calls events)
calls-grown [] events = grown-none events events refl
calls-grown (CutTo len ∷ calls) events =
    grown-more (Cut len) events (with_calls calls (Cut len ∷ events)) (calls-grown calls (Cut len ∷ events))
calls-grown (WriteAt at bytes ∷ calls) events =
    grown-more (Wrote at bytes) events (with_calls calls (Wrote at bytes ∷ events))
    (calls-grown calls (Wrote at bytes ∷ events))
calls-grown (Sync ∷ calls) events =
    grown-more Synced events (with_calls calls (Synced ∷ events)) (calls-grown calls (Synced ∷ events))

pub commit-grown : (super : Super) (nodes : List Node) (events : List Event)
    → Grown events (with_commit super nodes events)
commit-grown super nodes events =
    let mid = with_nodes super.nodesize nodes events in
    grown-then events mid (with_commit super nodes events) (calls-grown (node_calls super.nodesize nodes) events)
    (calls-grown (superblock_calls super) mid)

pub front-of-calls-grown : (calls : List Call) (events after : List Event) → IsFrontOfCalls calls events after
    → Grown events after
front-of-calls-grown [] events after is = grown-none events after is
front-of-calls-grown (call ∷ calls) events after (inl is) = grown-none events after is
front-of-calls-grown (CutTo len ∷ calls) events after (inr (inl fails)) =
    record { newer = CutShort len fails.0 ∷ []; is = fails.2 }
front-of-calls-grown (CutTo len ∷ calls) events after (inr (inr front)) =
    grown-more (Cut len) events after (front-of-calls-grown calls (Cut len ∷ events) after front)
front-of-calls-grown (WriteAt at bytes ∷ calls) events after (inr (inl fails)) =
    record { newer = Tore at bytes fails.0 ∷ []; is = fails.2 }
front-of-calls-grown (WriteAt at bytes ∷ calls) events after (inr (inr front)) =
    grown-more (Wrote at bytes) events after (front-of-calls-grown calls (Wrote at bytes ∷ events) after front)
front-of-calls-grown (Sync ∷ calls) events after (inr (inl fails)) = grown-none events after fails
front-of-calls-grown (Sync ∷ calls) events after (inr (inr front)) =
    grown-more Synced events after (front-of-calls-grown calls (Synced ∷ events) after front)

-- how many they are
length-with_calls : (calls : List Call) (events : List Event)
    → length (with_calls calls events) ≡ length events + length calls
length-with_calls [] events = let none : length events ≡ length events + 0 = omega arith in none
length-with_calls (CutTo len ∷ calls) events =
    let others : length (with_calls calls (Cut len ∷ events)) ≡ suc (length events) + length calls =
    length-with_calls calls (Cut len ∷ events) in
    let all : length (with_calls calls (Cut len ∷ events)) ≡ length events + suc (length calls) =
    omega (arith, others) in
    all
length-with_calls (WriteAt at bytes ∷ calls) events =
    let others : length (with_calls calls (Wrote at bytes ∷ events)) ≡ suc (length events) + length calls =
    length-with_calls calls (Wrote at bytes ∷ events) in
    let all : length (with_calls calls (Wrote at bytes ∷ events)) ≡ length events + suc (length calls) =
    omega (arith, others) in
    all
length-with_calls (Sync ∷ calls) events =
    let others : length (with_calls calls (Synced ∷ events)) ≡ suc (length events) + length calls =
    length-with_calls calls (Synced ∷ events) in
    let all : length (with_calls calls (Synced ∷ events)) ≡ length events + suc (length calls) =
    omega (arith, others) in
    all

pub length-with_commit : (super : Super) (nodes : List Node) (events : List Event)
    → length (with_commit super nodes events) ≡ length events + length nodes + 5
length-with_commit super nodes events =
    let mid = with_nodes super.nodesize nodes events in
    let written : length mid ≡ length events + length (node_calls super.nodesize nodes) =
    length-with_calls (node_calls super.nodesize nodes) events in
    let many : length (node_calls super.nodesize nodes) ≡ length nodes =
    length-map nodes (λ (node : Node). WriteAt (header_of node).address (node_text super.nodesize node)) in
    let whole : length (with_commit super nodes events) ≡ length mid + 5 =
    length-with_calls (superblock_calls super) mid in
    omega (arith, written, many, whole)

pub front-of-calls-short : (calls : List Call) (events after : List Event) → IsFrontOfCalls calls events after
    → length after ≤ length events + length calls
front-of-calls-short [] events after is = omega (arith, ap length is)
front-of-calls-short (call ∷ calls) events after (inl is) = omega (arith, ap length is)
front-of-calls-short (CutTo len ∷ calls) events after (inr (inl fails)) = omega (arith, ap length fails.2)
front-of-calls-short (CutTo len ∷ calls) events after (inr (inr front)) =
    omega (arith, front-of-calls-short calls (Cut len ∷ events) after front)
front-of-calls-short (WriteAt at bytes ∷ calls) events after (inr (inl fails)) = omega (arith, ap length fails.2)
front-of-calls-short (WriteAt at bytes ∷ calls) events after (inr (inr front)) =
    omega (arith, front-of-calls-short calls (Wrote at bytes ∷ events) after front)
front-of-calls-short (Sync ∷ calls) events after (inr (inl fails)) = omega (arith, ap length fails)
front-of-calls-short (Sync ∷ calls) events after (inr (inr front)) =
    omega (arith, front-of-calls-short calls (Synced ∷ events) after front)

pub front-of-commit-short : (super : Super) (nodes : List Node) (events after : List Event)
    → IsFrontOfCalls (commit_calls super nodes) events after → length after ≤ length events + length nodes + 5
front-of-commit-short super nodes events after front =
    let short = front-of-calls-short (commit_calls super nodes) events after front in
    let parts : length (commit_calls super nodes) ≡ length (node_calls super.nodesize nodes) + 5 =
    length-append (node_calls super.nodesize nodes) (superblock_calls super) in
    let many : length (node_calls super.nodesize nodes) ≡ length nodes =
    length-map nodes (λ (node : Node). WriteAt (header_of node).address (node_text super.nodesize node)) in
    omega (arith, short, parts, many)

-- ---- moments

-- by the moment at which these were all, there were these
pub grown-by : (before after : List Event) → Grown before after → events_by (length before) after ≡ before
grown-by before after grown =
    let many : length (grown.newer ++ before) - length before ≡ length grown.newer =
    omega (arith, length-append grown.newer before) in
    ap (events_by (length before)) grown.is
    ∙ ap (λ (count : ℕ). drop count (grown.newer ++ before)) many
    ∙ drop-append_seam grown.newer before

-- so there were those by any moment
pub by-grown : (moment : ℕ) (after : List Event) → Grown (events_by moment after) after
by-grown moment after =
    record { newer = take (length after - moment) after; is = sym (take-append-drop (length after - moment) after) }

-- those that are as many as all are all
none-newer : (newer before after : List Event) → after ≡ newer ++ before → length after ≤ length before → after ≡ before
none-newer [] before after is short = is
none-newer (event ∷ newer) before after is short =
    let many : length after ≡ suc (length (newer ++ before)) = ap length is in
    absurd (omega (arith, many, length-append newer before, short))

pub grown-same : (before after : List Event) → Grown before after → length after ≤ length before → after ≡ before
grown-same before after grown short = none-newer grown.newer before after grown.is short

-- and two that are as many are the same
pub same-grown : (first second after : List Event) → Grown first after → Grown second after
    → length first ≡ length second → first ≡ second
same-grown first second after one other same =
    sym (grown-by first after one) ∙ ap (λ (moment : ℕ). events_by moment after) same ∙ grown-by second after other

-- which is no later than now
pub grown-longer : (before after : List Event) → Grown before after → length before ≤ length after
grown-longer before after grown = omega (arith, ap length grown.is, length-append grown.newer before)

-- what a crash left at that moment is what it could leave then
pub leaves-then : (before after : List Event) (image : List ℕ) → Grown before after
    → LeavesSince (length before) after image (length before)
    → Leaves before image
leaves-then before after image grown leaves =
    subst (λ (events : List Event). Leaves events image) (grown-by before after grown) leaves.leaves
