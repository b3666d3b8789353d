-- What a crash in the midst of a commit leaves: the old state, or the superblock of the new trees over all that the
-- whole commit does.
use Rattle.std.proofs.Common.{◌≡◌, ◌≢◌, ◌∙◌, ◌⊎◌, inl, inr, ℕ, ◌<◌, ◌≤◌, true, List, ◌∷◌, length, get_or, refl, sym, ap}
use Rattle.std.proofs.Common.{subst, arith, Option, Some}
use Rattle.std.specs.Prelude.{All, Contains, IsTrue, not, ◌==◌}
use Rattle.std.specs.List.{list_any}
use Rattle.std.specs.Map.{keys_of}
use Rattle.std.proofs.lemmas.Bool.{cases_lt, eq-eqb, true≢false}
use Rattle.std.proofs.lemmas.List.Elements.{All-contains, Contains-append_cases, Contains-get_or}
use Rattle.std.proofs.lemmas.List.Folds.{list_any_at}
use Rattle.qg_device.specs.History.{Event, History, Recorded, Synced, content}
use Rattle.qg_node.specs.declared.node.Node.{Node}
use Rattle.qg_node.specs.Nodes.{header_of}
use Rattle.qg_node.specs.NodeText.{IsNode}
use Rattle.qg_items.specs.declared.root.RootItem.{RootItem}
use Rattle.qg_super.specs.declared.sizes.Sizes.{Sizes}
use Rattle.qg_super.specs.declared.superblock.Super.{Super}
use Rattle.qg_super.specs.Places.{first_place, second_place, is_slot, total_bytes}
use Rattle.qg_super.specs.SuperText.{sizes_of}
use Rattle.qg_image.specs.declared.quota.Quota.{Quota}
use Rattle.qg_image.specs.State.{Committed, State}
use Rattle.qg_image.specs.ImageState.{state_in, super_in, super_of}
use Rattle.qg_image.specs.StateOf.{StateOf}
use Rattle.qg_image.specs.Verdict.{are_mirrored}
use Rattle.qg_image.specs.Walk.{node_found}
use Rattle.qg_crashes.specs.Committing.{Committing, Crashing, nodes_synced}
use Rattle.qg_crashes.specs.Superblocks.{Replaces}
use Rattle.qg_crashes.specs.Slots.{IsInSlot, Writing, node_events}
use Rattle.qg_crashes.specs.States.{first_synced}
use Rattle.qg_crashes.proofs.Chosen.{leaves_old_or_new, leaves_the_new, leaves_the_old}
use Rattle.qg_crashes.proofs.Mirrors.{leaves_mirrored}
use Rattle.qg_crashes.proofs.SameStates.{reads_what_is_held, sound_places}
use Rattle.qg_crashes.proofs.Slots.{other_slots_stay, slots_are_settled, stays_as_long, writing_commits}
use Rattle.qg_refs.specs.declared.kept.Kept.{Kept}
use Rattle.qg_blocks.specs.NodesInMemory.{Draft}
use Rattle.qg_tree_layout.specs.Row.{address_of}
use Rattle.qg_commit.specs.Calls.{IsFrontOfCalls, MadeFront, commit_calls}
use Rattle.qg_commit.specs.CallEvents.{MakingCalls}
use Rattle.qg_commit.proofs.CallEvents.{calls_are_whole, calls_write}
use Rattle.qg_commit.specs.Types.{OtherTrees}
use Rattle.qg_commit.specs.Types.{TreeContents}
use Rattle.qg_commit.specs.Trees.{nodes_laid}
use Rattle.qg_reach.proofs.Members.{contains_map}
use Rattle.qg_commit.specs.Writing.{AreWritable, IsLaying, IsLayingOf, fresh_nodes, nodes_written}
use Rattle.qg_commit.specs.Crashing.{HasWhole, IsFound, IsSpared, LeavesTrees}
use Rattle.qg_commit.proofs.AllNodes.{written-lies, written-sizes}
use Rattle.qg_commit.proofs.FreshNodes.{fresh-addresses}
use Rattle.qg_commit.proofs.LaidNodes.{laid-within}

-- ---- an address that the last commit does not hold is none of its

held_there : (held : Committed) (address other : ℕ) → Contains held.nodes other → address ≡ other
    → list_any (λ a. a == address) held.nodes ≡ true
held_there held address other has same =
    list_any_at (λ (a : ℕ). a == address) held.nodes has.0 other has.1
    (eq-eqb (get_or held.nodes has.0 other) address (has.2 ∙ sym same))

spared_other : (held : Committed) (address other : ℕ) → IsSpared held address → Contains held.nodes other
    → address ≢ other
spared_other held address other spared has =
    λ same. true≢false (sym spared ∙ ap not (held_there held address other has same))

-- ---- what a state says of its superblock

generation_in : (super : Super) (image : List ℕ) → (state_in super image).generation ≡ super.generation
unfolding state_in
generation_in super image = refl

sizes_in : (super : Super) (image : List ℕ) → (state_in super image).sizes ≡ sizes_of super
unfolding state_in
sizes_in super image = refl

-- ---- a commit of these trees, as far as it came

module _ (sizes : Sizes) (generation : ℕ) (roots : List (ℕ × RootItem)) (book : List (ℕ × Kept)) (quota : Option Quota)
    (slots : List ℕ) (draft : Draft)
    (trees : OtherTrees) (laying : IsLaying sizes generation roots book quota slots draft trees)
    (writable : AreWritable sizes draft)
    (are_slots : (slot : ℕ) → Contains slots slot → IsTrue (is_slot sizes slot)) (old : State)
    (before after : List Event)
    (found : IsFound old sizes generation slots draft (content before))
    (so_far : IsFrontOfCalls (commit_calls trees.superblock (nodes_written draft trees)) (Synced ∷ before) after) where
  abbrev super : Super
  super = trees.superblock

  abbrev nodes : List Node
  nodes = nodes_written draft trees

  abbrev old_super : Super
  old_super = found.mirrored.stands.super

  lies_slot : (node : Node) → Contains nodes node → IsInSlot super node
  lies_slot node has =
      let told = written-sizes sizes generation roots book quota slots draft trees laying writable are_slots in
      let lies = written-lies sizes generation roots book quota slots draft trees laying writable are_slots node has in
      record {
        node_of_format = subst (λ (s : Sizes). IsNode s.nodesize node) (sym told) lies.formed;
        slot = subst (λ (s : Sizes). IsTrue (is_slot s (address_of node))) (sym told) lies.slot;
      }

  -- none lies where the old state holds a node
  spared : (node : Node) → Contains nodes node → IsSpared old.held (address_of node)
  spared node has = elim (Contains-append_cases (fresh_nodes draft) (nodes_laid trees) node has) [
    | inl fresh ↦
        let there = contains_map address_of (fresh_nodes draft) node fresh in
        let listed = subst (λ (list : List ℕ). Contains list (address_of node))
        (fresh-addresses draft laying.ascending sizes writable) there in
        All-contains (IsSpared old.held) (keys_of draft.fresh) (address_of node) found.spares.at_fresh listed
    | inr other ↦
        let within = laid-within sizes generation roots book quota slots trees laying.laid node other in
        All-contains (IsSpared old.held) slots (address_of node) found.spares.at_slots within
  ]

  others : (address : ℕ) → Contains old.held.nodes address → All (λ node. (header_of node).address ≢ address) nodes
  others address held = λ k d below.
      let node = get_or nodes k d in
      spared_other old.held (address_of node) address (spared node (Contains-get_or nodes k d below)) held

  sizes_alike : sizes_of found.mirrored.stands.super ≡ sizes_of trees.superblock
  sizes_alike =
      let was = found.mirrored.stands in
      let told : old.sizes ≡ sizes_of was.super = ap (λ (s : State). s.sizes) was.stands
      ∙ sizes_in was.super (content before) in
      sym told ∙ found.same_sizes
      ∙ sym (written-sizes sizes generation roots book quota slots draft trees laying writable are_slots)

  later : found.mirrored.stands.super.generation < trees.superblock.generation
  later =
      let was = found.mirrored.stands in
      let of_old : old.generation ≡ was.super.generation = ap (λ (s : State). s.generation) was.stands
      ∙ generation_in was.super (content before) in
      let of_new : trees.superblock.generation ≡ generation = ap (λ (s : Super). s.generation) laying.laid.leads in
      let older = found.older in
      omega (arith, of_old, of_new, older)

  long : total_bytes (sizes_of trees.superblock) ≤ length (content before)
  long =
      let was = found.mirrored.stands in
      let places = sound_places (content before) was.super was.chosen was.sound in
      subst (λ (s : Sizes). total_bytes s ≤ length (content before)) sizes_alike places.long

  calls : MakingCalls before nodes super after
  calls = record {
    long = long;
    may_be_written = laying.superblock;
    in_slots = λ k d below. lies_slot (get_or nodes k d) (Contains-get_or nodes k d below);
    so_far = so_far;
  }

  writes : Writing before nodes super after
  writes = calls_write before nodes super after calls

  commits : Committing before (node_events super.nodesize nodes) super after
  commits = writing_commits before nodes super after writes

  replaces : Replaces old_super super (content before)
  replaces = record { first = found.mirrored.first; second = found.mirrored.second; later = later }

  module _ (image : List ℕ) (moment : ℕ) (crash : Crashing before after image moment) where
    long_image : total_bytes (sizes_of found.mirrored.stands.super) ≤ length image
    long_image =
        let was = long in
        let grown = stays_as_long before nodes super after image moment writes crash.leaves in
        let enough : total_bytes (sizes_of trees.superblock) ≤ length image = omega (arith, was, grown) in
        subst (λ (s : Sizes). total_bytes s ≤ length image) (sym sizes_alike) enough

    mirrored : are_mirrored (super_in image first_place) (super_in image second_place) ≡ true
    mirrored = leaves_mirrored before (node_events super.nodesize nodes) after old_super super image moment commits
        crash replaces

    as_old : super_of image ≡ Some found.mirrored.stands.super → StateOf image old
    as_old counts =
        reads_what_is_held old (content before) image found.mirrored.stands
        (record {
          counts = counts;
          long = long_image;
          mirrored = mirrored;
          found = λ address held.
              other_slots_stay before nodes super old_super after image moment address writes crash.leaves sizes_alike
              (others address held);
        })

    as_whole : super_of image ≡ Some trees.superblock → nodes_synced before (node_events super.nodesize nodes) ≤ moment
        → HasWhole draft trees before image
    as_whole counts past = record {
      counts = counts;
      reads = λ address.
          slots_are_settled before nodes super super after image moment address writes crash.leaves refl past
          ∙ ap (λ (events : List Event). node_found super (content events) address)
          (sym (calls_are_whole before nodes super));
    }

    pub old_or_whole : (StateOf image old × (moment < first_synced before nodes super))
        ⊎ HasWhole draft trees before image
    old_or_whole =
        let events = node_events super.nodesize nodes in
        elim (cases_lt moment (first_synced before nodes super)) [
          | inl early ↦ elim (cases_lt (nodes_synced before events) moment) [
            | inl past ↦ elim (leaves_old_or_new before events after old_super super image moment commits crash
                replaces) [
                  | inl counts ↦ inl (as_old counts, early)
                  | inr counts ↦ inr (as_whole counts (omega (arith, past)))
                ]
            | inr first ↦ inl (
              as_old
                  (leaves_the_old before events after old_super super image moment commits crash replaces first),
              early,
            )
          ]
          | inr late ↦ inr (as_whole
              (leaves_the_new before events after old_super super image moment commits crash replaces late)
              (omega (arith, late)))
        ]

-- ---- what was done to the disk, whatever came of it

-- nothing was
pub left_alone : (before after : List Event) (was history : History) → was ≡ Recorded (Synced ∷ before)
    → history ≡ was → history ≡ Recorded after
    → after ≡ Synced ∷ before
left_alone before after was history began same now =
    let both : Recorded after ≡ Recorded (Synced ∷ before) = sym now ∙ same ∙ began in
    cc

-- the calls came so far
pub leaves_trees : (sizes : Sizes) (generation : ℕ) (told : TreeContents) (slots : List ℕ) (draft : Draft)
    (trees : OtherTrees)
    → IsLayingOf sizes generation told slots draft trees → AreWritable sizes draft
    → ((slot : ℕ) → Contains slots slot → IsTrue (is_slot sizes slot))
    → (old : State) (before after : List Event) (history : History)
    → IsFound old sizes generation slots draft (content before)
    → MadeFront (commit_calls trees.superblock (nodes_written draft trees)) (Synced ∷ before) history
    → history ≡ Recorded after
    → LeavesTrees old sizes generation told slots draft before after
leaves_trees sizes generation told slots draft trees laying writable are_slots old before after history found made now =
    let both : Recorded made.after ≡ Recorded after = sym made.told ∙ now in
    let same : made.after ≡ after = cc in
    let calls = commit_calls trees.superblock (nodes_written draft trees) in
    let front = subst (λ (events : List Event). IsFrontOfCalls calls (Synced ∷ before) events) same made.front in
    record {
      trees = trees;
      is = laying;
      each = λ image moment crash.
          old_or_whole sizes generation told.roots.now told.book.now told.quota.now slots draft trees laying writable
          are_slots old before after found front image
          moment crash;
    }
