-- Commits that were made one after the other, the last perhaps in part, are a chain of which qg_crashes' laws speak.
-- Lengths are in bytes.
use Rattle.std.proofs.Common.{◌≡◌, ◌∙◌, ℕ, ◌<◌, ◌≤◌, List, [], ◌∷◌, ◌++◌, length, map, get_or, refl, sym, ap, subst}
use Rattle.std.specs.Prelude.{All, not}
use Rattle.std.specs.List.Sorted.{IsPermutation}
use Rattle.std.proofs.lemmas.List.Elements.{All-contains, Contains-get_or, filter_passes}
use Rattle.std.proofs.lemmas.List.Sorted.{Contains-permutation}
use Rattle.qg_device.proofs.Histories.{same_Recorded}
use Rattle.qg_device.specs.History.{Event, Synced, content}
use Rattle.qg_node.specs.declared.node.Node.{Node}
use Rattle.qg_super.specs.declared.sizes.Sizes.{Sizes}
use Rattle.qg_super.specs.declared.superblock.Super.{Super}
use Rattle.qg_super.specs.Places.{total_bytes}
use Rattle.qg_super.specs.SuperText.{sizes_of}
use Rattle.qg_image.specs.State.{Committed, State}
use Rattle.qg_image.specs.ImageState.{state_in}
use Rattle.qg_image.specs.StateOf.{StateOf}
use Rattle.qg_machine.specs.Written.{committed_nodes, is_held_by, new_nodes}
use Rattle.qg_crashes.specs.Committing.{begin_of, superblock_events}
use Rattle.qg_crashes.specs.Outcomes.{Chain, Commit, Dated, Rests, behind, dated_by}
use Rattle.qg_crashes.specs.Slots.{node_events, with_whole}
use Rattle.qg_crashes.specs.States.{IsApartFrom, IsMirrored, Replacing}
use Rattle.qg_crashes.proofs.Outcomes.{chain_survives}
use Rattle.qg_crashes.proofs.SameStates.{sound_places}
use Rattle.qg_crashes.proofs.Slots.{with_events-append}
use Rattle.qg_crashes.proofs.States.{mirrors_the_new_state}
use Rattle.qg_image_commits.specs.Calls.{IsFrontOfCalls, commit_calls, with_commit}
use Rattle.qg_image_commits.proofs.CallEvents.{calls_are_whole, calls_write}
use Rattle.qg_store.specs.Crashes.{LeavesOneOf, last_commit}
use Rattle.qg_image_commits.specs.Making.{BringsTo, Makes}
use Rattle.qg_image_commits.proofs.Commits.{all-made}
use Rattle.qg_store.proofs.LastCommits.{AreLater}
use Rattle.qg_store.proofs.Synced.{held_after}

-- ---- how far commits came

-- The calls of commits that come to these states, the earliest first, were made, where so much was held before; of
-- those of the last one perhaps no more than a front
abbrev pub MakesSoFar : Committed → List State → List Event → List Event → Type 0
MakesSoFar held [] before after = after ≡ before
MakesSoFar held (state ∷ []) before after =
    (super : Super) × (nodes : List Node) × BringsTo held state before super nodes
    × IsFrontOfCalls (commit_calls super nodes) before after
MakesSoFar held (state ∷ next ∷ states) before after =
    (super : Super) × (nodes : List Node) × BringsTo held state before super nodes
    × MakesSoFar state.held (next ∷ states) (with_commit super nodes before) after

whole-front : (super : Super) (nodes : List Node) (events : List Event)
    → IsFrontOfCalls (commit_calls super nodes) events (with_commit super nodes events)
whole-front super nodes events =
    let made = all-made super nodes events in
    subst (λ (after : List Event). IsFrontOfCalls (commit_calls super nodes) events after)
    (sym (same_Recorded (with_commit super nodes events) made.after made.told)) made.front

-- a commit was made, and then others came so far
one-then : (held : Committed) (state : State) (states : List State) (super : Super) (nodes : List Node)
    (before after : List Event) → BringsTo held state before super nodes
    → MakesSoFar state.held states (with_commit super nodes before) after
    → MakesSoFar held (state ∷ states) before after
one-then held state [] super nodes before after brings rest =
    let front = subst (λ (events : List Event). IsFrontOfCalls (commit_calls super nodes) before events) (sym rest)
    (whole-front super nodes before) in
    (super, nodes, brings, front)
one-then held state (next ∷ states) super nodes before after brings rest = (super, nodes, brings, rest)

-- several were
pub makes-then : (held : Committed) (first more : List State) (before mid after : List Event)
    → Makes held first before mid → MakesSoFar (held_after held first) more mid after
    → MakesSoFar held (first ++ more) before after
makes-then held [] more before mid after made rest =
    subst (λ (events : List Event). MakesSoFar held more events after) made rest
makes-then held (state ∷ first) more before mid after made rest =
    one-then held state (first ++ more) made.0 made.1 before after made.2
    (makes-then state.held first more (with_commit made.0 made.1 before) mid after made.3 rest)

-- all were
pub makes-all : (held : Committed) (commits : List State) (before after : List Event) → Makes held commits before after
    → MakesSoFar held commits before after
makes-all held [] before after made = made
makes-all held (state ∷ states) before after made =
    one-then held state states made.0 made.1 before after made.2
    (makes-all state.held states (with_commit made.0 made.1 before) after made.3)

-- ---- one commit

-- new nodes lie where the last commit holds none
new-passes : (held : Committed) (state : State) → All (IsApartFrom held) (new_nodes held state)
unfolding new_nodes
new-passes held state = filter_passes (λ (node : Node). not (is_held_by held node)) (committed_nodes state)

new-apart : (held : Committed) (state : State) (nodes : List Node) → IsPermutation nodes (new_nodes held state)
    → All (IsApartFrom held) nodes
new-apart held state nodes are = λ k any below.
    let node = get_or nodes k any in
    All-contains (IsApartFrom held) (new_nodes held state) node (new-passes held state)
    (Contains-permutation nodes (new_nodes held state) node are (Contains-get_or nodes k any below))

-- the sizes of a state are those of the superblock that counts
sizes-in : (super : Super) (image : List ℕ) → (state_in super image).sizes ≡ sizes_of super
unfolding state_in
sizes-in super image = refl

sizes-told : (state : State) (image : List ℕ) (stands : StateOf image state) → state.sizes ≡ sizes_of stands.super
sizes-told state image stands = ap (λ (s : State). s.sizes) stands.stands ∙ sizes-in stands.super image

-- the calls of a commit came so far, on a disk that had made sure of the old state
module _ (old new : State) (before : List Event) (super : Super) (nodes : List Node) (after : List Event)
    (was : IsMirrored old (content before)) (later : old.generation < new.generation) (sizes : new.sizes ≡ old.sizes)
    (brings : BringsTo old.held new (Synced ∷ before) super nodes)
    (front : IsFrontOfCalls (commit_calls super nodes) (Synced ∷ before) after) where
  same-sizes : sizes_of was.stands.super ≡ sizes_of super
  same-sizes = sym (sizes-told old (content before) was.stands) ∙ sym sizes ∙ sym brings.sizes

  long : total_bytes (sizes_of super) ≤ length (content before)
  long =
      let places = sound_places (content before) was.stands.super was.stands.chosen was.stands.sound in
      subst (λ (s : Sizes). total_bytes s ≤ length (content before)) same-sizes places.long

  becomes : StateOf (content (with_whole nodes super before)) new
  becomes =
      subst (λ (events : List Event). StateOf (content events) new) (calls_are_whole before nodes super)
      brings.committed.stands

  replacing : Replacing old new before nodes super after
  replacing = record {
    writes = calls_write before nodes super after (record {
      long = long;
      may_be_written = brings.superblock;
      in_slots = brings.in_slots;
      so_far = front;
    });
    was = was;
    apart = new-apart old.held new nodes brings.written;
    becomes = becomes;
    later = later;
    same_sizes = sizes;
  }

-- ---- a whole one

-- what was done once it was
whole-events : (before : List Event) (commit : Commit)
    → with_whole commit.nodes commit.super before ≡ Synced ∷ behind commit before
whole-events before commit =
    with_events-append (node_events commit.super.nodesize commit.nodes) (superblock_events commit.super)
    (Synced ∷ before)

whole-calls : (before : List Event) (commit : Commit)
    → with_commit commit.super commit.nodes (Synced ∷ before) ≡ Synced ∷ behind commit before
whole-calls before commit = calls_are_whole before commit.nodes commit.super ∙ whole-events before commit

-- both places then hold its superblock
mirrored-behind : (old : State) (before : List Event) (commit : Commit)
    → Replacing old commit.state before commit.nodes commit.super (Synced ∷ behind commit before)
    → IsMirrored commit.state (content (behind commit before))
mirrored-behind old before commit replaces =
    let same = whole-events before commit in
    let whole = subst (λ (events : List Event). Replacing old commit.state before commit.nodes commit.super events)
    (sym same) replaces in
    subst (λ (events : List Event). IsMirrored commit.state (content events)) same
    (mirrors_the_new_state old commit.state before commit.nodes commit.super whole)

module _ (old : State) (first : Commit) (before : List Event) (was : IsMirrored old (content before))
    (later : old.generation < first.state.generation) (sizes : first.state.sizes ≡ old.sizes)
    (brings : BringsTo old.held first.state (Synced ∷ before) first.super first.nodes) where
  replaces : Replacing old first.state before first.nodes first.super (Synced ∷ behind first before)
  replaces =
      let front = whole-front first.super first.nodes (Synced ∷ before) in
      replacing old first.state before first.super first.nodes (Synced ∷ behind first before) was later sizes brings
      (subst (λ (events : List Event). IsFrontOfCalls (commit_calls first.super first.nodes) (Synced ∷ before) events)
      (whole-calls before first) front)

  mirrored : IsMirrored first.state (content (behind first before))
  mirrored = mirrored-behind old before first replaces

-- ---- several

-- a chain of commits to these states
pub record ChainOf (old : State) (commits : List State) (before after : List Event) : Type 0 where
  pub chain : List Commit
  pub states : map (λ commit. commit.state) chain ≡ commits
  pub is : Chain old chain before after

-- a whole commit in front of others
module _ (old : State) (first : Commit) (next : State) (states : List State) (before after : List Event)
    (whole : Replacing old first.state before first.nodes first.super (Synced ∷ behind first before)) where
  joined-by : (chain : List Commit) → map (λ (c : Commit). c.state) chain ≡ next ∷ states
      → Chain first.state chain (behind first before) after
      → ChainOf old (first.state ∷ next ∷ states) before after
  joined-by [] are is = absurd cc
  joined-by (second ∷ rest) are is = record {
    chain = first ∷ second ∷ rest;
    states = ap (λ (list : List State). first.state ∷ list) are;
    is = (whole, is);
  }

  joined : ChainOf first.state (next ∷ states) (behind first before) after
      → ChainOf old (first.state ∷ next ∷ states) before after
  joined rest = joined-by rest.chain rest.states rest.is

pub chained : (old : State) (commits : List State) (before after : List Event) → IsMirrored old (content before)
    → AreLater old commits → MakesSoFar old.held commits (Synced ∷ before) after → ChainOf old commits before after
chained old [] before after was later made = record { chain = []; states = refl; is = (was, made) }
chained old (state ∷ []) before after was later made = record {
  chain = record { nodes = made.1; super = made.0; state = state } ∷ [];
  states = refl;
  is = replacing old state before made.0 made.1 after was later.0 later.1 made.2 made.3;
}
chained old (state ∷ next ∷ states) before after was later made =
    let first : Commit = record { nodes = made.1; super = made.0; state = state } in
    let whole = replaces old first before was later.0 later.1 made.2 in
    let then = mirrored old first before was later.0 later.1 made.2 in
    let rest = subst (λ (events : List Event). MakesSoFar state.held (next ∷ states) events after)
    (whole-calls before first) made.3 in
    joined old first next states before after whole
    (chained state (next ∷ states) (behind first before) after then later.2 rest)

-- ---- what a crash leaves of them, and where the disk rests then

pub dated-states : (before : List Event) (chain : List Commit)
    → map (λ (d : Dated). d.state) (dated_by before chain) ≡ map (λ (c : Commit). c.state) chain
dated-states before [] = refl
dated-states before (commit ∷ later) =
    ap (λ (list : List State). commit.state ∷ list) (dated-states (behind commit before) later)

pub chain-leaves : (old : State) (commits : List State) (before after : List Event) → ChainOf old commits before after
    → LeavesOneOf (begin_of before) old commits after
chain-leaves old commits before after c = record {
  before = before;
  chain = c.chain;
  states = c.states;
  made = c.is;
  survives = chain_survives old c.chain before after c.is;
}

pub rests-behind : (old : State) (commits : List State) (before after : List Event) → IsMirrored old (content before)
    → AreLater old commits → Makes old.held commits (Synced ∷ before) after → Rests (last_commit old commits) after
rests-behind old [] before after was later made = record { before = before; synced = made; stands = was }
rests-behind old (state ∷ states) before after was later made =
    let first : Commit = record { nodes = made.1; super = made.0; state = state } in
    let then = mirrored old first before was later.0 later.1 made.2 in
    let rest = subst (λ (events : List Event). Makes state.held states events after)
    (whole-calls before first) made.3 in
    rests-behind state states (behind first before) after then later.2 rest
