-- What a crash leaves of commits that came one behind the other.
use Rattle.std.proofs.Common.{◌≡◌, ◌∙◌, ◌⊎◌, inl, inr, ℕ, suc, ◌+◌, ◌-◌, ◌≤◌, ◌<◌, List, [], ◌∷◌, ◌++◌, length, drop}
use Rattle.std.proofs.Common.{refl, sym, ap, subst, arith, length-append, append_assoc}
use Rattle.std.specs.Prelude.{All}
use Rattle.std.proofs.lemmas.Bool.{cases_lt}
use Rattle.std.proofs.lemmas.List.{drop-append-le}
use Rattle.std.proofs.lemmas.List.Elements.{All-cons, All-append, All-drop}
use Rattle.std.proofs.Math.Seq.{drop-append-add}
use Rattle.qg_device.specs.History.{Event, Wrote, Tore, Cut, CutShort, Synced, content}
use Rattle.qg_device.specs.Crash.{Leaves}
use Rattle.qg_device.specs.CrashSince.{events_by, LeavesSince}
use Rattle.qg_disk.proofs.Sizes.{length-overlay}
use Rattle.qg_node.specs.declared.node.Node.{Node}
use Rattle.qg_node.specs.Nodes.{header_of}
use Rattle.qg_node.specs.NodeText.{node_text}
use Rattle.qg_super.specs.declared.superblock.Super.{Super}
use Rattle.qg_super.specs.Places.{first_place, second_place}
use Rattle.qg_super.specs.SuperText.{super_text}
use Rattle.qg_super.specs.NoChance.{super_bytes, NoChanceSince}
use Rattle.qg_image.specs.State.{State}
use Rattle.qg_image.specs.StateOf.{StateOf}
use Rattle.qg_crashes.specs.Committing.{Crashing, FailsAfter, IsFrontOfEvents, begin_of, superblock_events}
use Rattle.qg_crashes.specs.Premise.{IsDone}
use Rattle.qg_crashes.specs.Later.{IsWriteOrSync, NoChanceBy}
use Rattle.qg_crashes.specs.Slots.{events_of_commit, node_events}
use Rattle.qg_crashes.specs.States.{Replacing, first_synced, with_place}
use Rattle.qg_crashes.specs.Outcomes.{Commit, Chain, ChainSurvives, IsOneOf, IsOpeningSoFar, IsRepairSoFar}
use Rattle.qg_crashes.specs.Outcomes.{OpeningSurvives, RunSurvives, Survives, behind, dated_by, with_write}
use Rattle.qg_crashes.proofs.Later.{premise_from_later}
use Rattle.qg_crashes.proofs.States.{leaves_either_state, leaves_the_new_state, repair_leaves_the_state}

-- ---- writes and syncs behind events

pub record Written (events after : List Event) : Type 0 where
  pub newer : List Event
  pub is : after ≡ newer ++ events
  pub writes : All IsWriteOrSync newer

none_written : (events after : List Event) → after ≡ events → Written events after
none_written events after is = record { newer = []; is = is; writes = λ k any below. absurd (omega arith) }

one_written : (event : Event) (events after : List Event) → IsWriteOrSync event → Written (event ∷ events) after
    → Written events after
one_written event events after write since = record {
  newer = since.newer ++ event ∷ [];
  is = since.is ∙ sym (append_assoc since.newer (event ∷ []) events);
  writes = All-append IsWriteOrSync since.newer (event ∷ []) since.writes
      (All-cons IsWriteOrSync event [] write (λ k any below. absurd (omega arith)));
}

more_written : (events mid after : List Event) → Written events mid → Written mid after → Written events after
more_written events mid after first second = record {
  newer = second.newer ++ first.newer;
  is = second.is ∙ ap (λ (older : List Event). second.newer ++ older) first.is
      ∙ sym (append_assoc second.newer first.newer events);
  writes = All-append IsWriteOrSync second.newer first.newer second.writes first.writes;
}

fails_written : (event : Event) (events after : List Event) → FailsAfter event events after → Written events after
fails_written (Wrote at bytes) events after fails =
    one_written (Tore at bytes fails.0) events after fails.1
    (none_written (Tore at bytes fails.0 ∷ events) after fails.2)
fails_written (Tore at asked left) events after fails = absurd fails
fails_written (Cut len) events after fails = absurd fails
fails_written (CutShort len left) events after fails = absurd fails
fails_written Synced events after fails = none_written events after fails

write_of : (event : Event) → IsDone event → IsWriteOrSync event
write_of (Wrote at bytes) done = tt
write_of (Tore at asked left) done = absurd done
write_of (Cut len) done = absurd done
write_of (CutShort len left) done = absurd done
write_of Synced done = tt

front_written : (steps events after : List Event) → All IsDone steps → IsFrontOfEvents steps events after
    → Written events after
front_written [] events after done is = none_written events after is
front_written (step ∷ steps) events after done (inl is) = none_written events after is
front_written (step ∷ steps) events after done (inr (inl fails)) = fails_written step events after fails
front_written (step ∷ steps) events after done (inr (inr front)) =
    let rest : All IsDone steps = λ k any below. done (suc k) any (omega arith) in
    one_written step events after (write_of step (done 0 step (omega arith)))
    (front_written steps (step ∷ events) after rest front)

nodes_done : (nodesize : ℕ) (nodes : List Node) → All IsDone (node_events nodesize nodes)
nodes_done nodesize [] = λ k any below. absurd (omega arith)
nodes_done nodesize (node ∷ nodes) =
    All-cons IsDone (Wrote (header_of node).address (node_text nodesize node)) (node_events nodesize nodes) tt
    (nodes_done nodesize nodes)

superblocks_done : (super : Super) → All IsDone (superblock_events super)
superblocks_done super =
    let first = Wrote first_place (super_text first_place super) in
    let second = Wrote second_place (super_text second_place super) in
    let last : All IsDone (Synced ∷ []) = All-cons IsDone Synced [] tt (λ k any below. absurd (omega arith)) in
    let from_second : All IsDone (second ∷ Synced ∷ []) = All-cons IsDone second (Synced ∷ []) tt last in
    let from_sync : All IsDone (Synced ∷ second ∷ Synced ∷ []) =
    All-cons IsDone Synced (second ∷ Synced ∷ []) tt from_second in
    let from_first : All IsDone (first ∷ Synced ∷ second ∷ Synced ∷ []) =
    All-cons IsDone first (Synced ∷ second ∷ Synced ∷ []) tt from_sync in
    All-cons IsDone Synced (first ∷ Synced ∷ second ∷ Synced ∷ []) tt from_first

commit_done : (commit : Commit) → All IsDone (events_of_commit commit.nodes commit.super)
commit_done commit =
    All-append IsDone (node_events commit.super.nodesize commit.nodes) (superblock_events commit.super)
    (nodes_done commit.super.nodesize commit.nodes)
    (superblocks_done commit.super)

replacing_written : (old : State) (commit : Commit) (before after : List Event)
    → Replacing old commit.state before commit.nodes commit.super after
    → Written (Synced ∷ before) after
replacing_written old commit before after r =
    front_written (events_of_commit commit.nodes commit.super) (Synced ∷ before) after
    (commit_done commit) r.writes.so_far

chain_written : (old : State) (commits : List Commit) (before after : List Event) → Chain old commits before after
    → Written (Synced ∷ before) after
chain_written old [] before after chain = none_written (Synced ∷ before) after chain.1
chain_written old (last ∷ []) before after chain = replacing_written old last before after chain
chain_written old (first ∷ next ∷ later) before after chain =
    more_written (Synced ∷ before) (Synced ∷ behind first before) after
    (replacing_written old first before (Synced ∷ behind first before) chain.0)
    (chain_written first.state (next ∷ later) (behind first before) after chain.1)

-- ---- moments

-- the events by a moment at which the first ones were done
by_early : (newer base : List Event) (moment : ℕ) → moment ≤ length base
    → events_by moment (newer ++ base) ≡ events_by moment base
by_early newer base moment early =
    let many : length (newer ++ base) - moment ≡ length newer + (length base - moment) =
    omega (arith, length-append newer base) in
    ap (λ (k : ℕ). drop k (newer ++ base)) many ∙ drop-append-add newer base (length base - moment)

-- and by a later one
by_late : (newer base : List Event) (moment : ℕ) → length base ≤ moment
    → events_by moment (newer ++ base) ≡ drop (length (newer ++ base) - moment) newer ++ base
by_late newer base moment late = drop-append-le (length (newer ++ base) - moment) newer base
    (omega (arith, length-append newer base))

-- ---- one commit

one_of_one : (old : State) (commit : Commit) (before after : List Event) (image : List ℕ) (moment : ℕ)
    → Replacing old commit.state before commit.nodes commit.super after → Crashing before after image moment
    → (StateOf image old × (moment < first_synced before commit.nodes commit.super)) ⊎ StateOf image commit.state
one_of_one old commit before after image moment r crash =
    elim (cases_lt moment (first_synced before commit.nodes commit.super)) [
      | inl early ↦ elim (leaves_either_state old commit.state before commit.nodes commit.super after image moment r
          crash) [
            | inl is_old ↦ inl (is_old, early)
            | inr is_new ↦ inr is_new
          ]
      | inr late ↦ inr (leaves_the_new_state old commit.state before commit.nodes commit.super after image moment r
          crash
          late)
    ]

-- ---- several

none_after : (old : State) (before after : List Event) (image : List ℕ) (moment : ℕ) → StateOf (content before) old
    → after ≡ Synced ∷ before
    → LeavesSince (begin_of before) after image moment → StateOf image old
none_after old before after image moment stands is leaves =
    let earlier = leaves.no_earlier in
    let later = leaves.no_later in
    let all : length after - moment ≡ 0 = omega (arith, ap length is, earlier, later) in
    let events : events_by moment after ≡ Synced ∷ before = ap (λ (k : ℕ). drop k after) all ∙ is in
    let same : image ≡ content before = subst (λ (es : List Event). Leaves es image) events leaves.leaves in
    subst (λ (bytes : List ℕ). StateOf bytes old) (sym same) stands

-- a state that is left before the next commit is begun
before_next : (old : State) (next : Commit) (later : List Commit) (before : List Event) (image : List ℕ) (moment : ℕ)
    → StateOf image old
    → moment < begin_of before → IsOneOf old (dated_by before (next ∷ later)) image moment
before_next old next later before image moment is early = inl (is, omega (arith, early))

-- as the next commit begins the disk reaches past both places
next_long : (old : State) (next : Commit) (later : List Commit) (before after : List Event)
    → Chain old (next ∷ later) before after
    → second_place + super_bytes ≤ length (content before)
next_long old next [] before after chain = let long = chain.writes.long in omega (arith, long)
next_long old next (other ∷ later) before after chain = let long = chain.0.writes.long in omega (arith, long)

chain_of : (old : State) (commits : List Commit) (before after : List Event) (image : List ℕ) (moment : ℕ)
    → Chain old commits before after
    → LeavesSince (begin_of before) after image moment → NoChanceSince (begin_of before) after image moment
    → IsOneOf old (dated_by before commits) image moment
chain_of old [] before after image moment chain leaves chance =
    none_after old before after image moment chain.0.stands chain.1 leaves
chain_of old (last ∷ []) before after image moment chain leaves chance =
    one_of_one old last before after image moment chain (record { leaves = leaves; no_chance = chance })
chain_of old (first ∷ next ∷ later) before after image moment chain leaves chance =
    let mid = behind first before in
    let whole = Synced ∷ mid in
    let written = chain_written first.state (next ∷ later) mid after chain.1 in
    let grown = replacing_written old first before whole chain.0 in
    let begun : begin_of before ≤ begin_of mid =
    omega (arith, ap length grown.is, length-append grown.newer (Synced ∷ before)) in
    elim (cases_lt moment (begin_of mid)) [
      | inl early ↦
          let same : events_by moment after ≡ events_by moment whole =
          ap (events_by moment) written.is ∙ by_early written.newer whole moment (omega (arith, early)) in
          let crash : Crashing before whole image moment = record {
            leaves = record {
              no_earlier = leaves.no_earlier;
              no_later = (omega (arith, early));
              leaves = subst (λ (events : List Event). Leaves events image) same leaves.leaves;
            };
            no_chance = subst (λ (events : List Event). NoChanceBy (begin_of before) events image) same chance;
          } in
          elim (one_of_one old first before whole image moment chain.0 crash) [
            | inl is_old ↦ inl is_old
            | inr is_new ↦ inr (before_next first.state next later mid image moment is_new (omega (arith, early)))
          ]
      | inr late ↦
          let rest = drop (length (written.newer ++ whole) - moment) written.newer in
          let by : events_by moment after ≡ rest ++ whole =
          ap (events_by moment) written.is ∙ by_late written.newer whole moment (omega (arith, late)) in
          let long = next_long first.state next later mid after chain.1 in
          let premise : NoChanceBy (begin_of mid) (rest ++ whole) image =
          premise_from_later (begin_of before) rest mid image
          (All-drop IsWriteOrSync (length (written.newer ++ whole) - moment) written.newer written.writes) long begun
          (subst (λ (events : List Event). Leaves events image) by leaves.leaves)
          (subst (λ (events : List Event). NoChanceBy (begin_of before) events image) by chance) in
          inr (chain_of first.state (next ∷ later) mid after image moment chain.1
          (record { no_earlier = late; no_later = leaves.no_later; leaves = leaves.leaves })
          (subst (λ (events : List Event). NoChanceBy (begin_of mid) events image) (sym by) premise))
    ]

pub chain_survives : ChainSurvives
chain_survives old commits before after chain =
    record { each = λ image moment leaves chance. chain_of old commits before after image moment chain leaves chance }

-- ---- opening

opening_of : (state : State) (events after : List Event) (image : List ℕ) (moment : ℕ) → StateOf (content events) state
    → IsOpeningSoFar events after
    → LeavesSince (begin_of events) after image moment → NoChanceSince (begin_of events) after image moment
    → StateOf image state
opening_of state events after image moment stands (inl is) leaves chance =
    let earlier = leaves.no_earlier in
    let later = leaves.no_later in
    absurd (omega (arith, ap length is, earlier, later))
opening_of state events after image moment stands (inr (inl is)) leaves chance =
    none_after state events after image moment stands is leaves
opening_of state events after image moment stands (inr (inr repair)) leaves chance =
    repair_leaves_the_state state events after repair.0 image moment stands repair.1
    (record { leaves = leaves; no_chance = chance })

pub opening_survives : OpeningSurvives
opening_survives state events after stands opening =
    record {
      each = λ image moment leaves chance. opening_of state events after image moment stands opening leaves
          chance;
    }

-- a state that is left before any commit is begun
before_all : (old : State) (commits : List Commit) (before : List Event) (image : List ℕ) (moment : ℕ)
    → StateOf image old → moment < begin_of before
    → IsOneOf old (dated_by before commits) image moment
before_all old [] before image moment is early = is
before_all old (next ∷ later) before image moment is early = before_next old next later before image moment is early

-- commits behind a place that was written and made sure of
module _ (state : State) (events after : List Event) (super : Super) (commits : List Commit) (place : ℕ)
    (stands : StateOf (content events) state)
    (repair : IsRepairSoFar events super (with_place place super events))
    (long : second_place + super_bytes ≤ length (content events))
    (chain : Chain state commits (with_write place super events) after) where
  run_of : (image : List ℕ) (moment : ℕ) → LeavesSince (begin_of events) after image moment
      → NoChanceSince (begin_of events) after image moment
      → IsOneOf state (dated_by (with_write place super events) commits) image moment
  run_of image moment leaves chance =
      let whole = Synced ∷ with_write place super events in
      let written = chain_written state commits (with_write place super events) after chain in
      elim (cases_lt moment (begin_of (with_write place super events))) [
        | inl early ↦
            let same : events_by moment after ≡ events_by moment whole =
            ap (events_by moment) written.is ∙ by_early written.newer whole moment (omega (arith, early)) in
            let earlier = leaves.no_earlier in
            let left : LeavesSince (begin_of events) whole image moment = record {
              no_earlier = earlier;
              no_later = omega (arith, early);
              leaves = subst (λ (es : List Event). Leaves es image) same leaves.leaves;
            } in
            let premise = subst (λ (es : List Event). NoChanceBy (begin_of events) es image) same chance in
            before_all state commits (with_write place super events) image moment
            (opening_of state events whole image moment stands (inr (inr (super, repair))) left premise) early
        | inr late ↦
            let rest = drop (length (written.newer ++ whole) - moment) written.newer in
            let by : events_by moment after ≡ rest ++ whole =
            ap (events_by moment) written.is ∙ by_late written.newer whole moment (omega (arith, late)) in
            let grown = length-overlay place (super_text place super) (content events) in
            let reaches : second_place + super_bytes ≤ length (content (with_write place super events)) =
            omega (arith, long, grown) in
            let begun : begin_of events ≤ length (with_write place super events) + 1 = omega arith in
            let premise : NoChanceBy (begin_of (with_write place super events)) (rest ++ whole) image =
            premise_from_later (begin_of events) rest (with_write place super events) image
            (All-drop IsWriteOrSync (length (written.newer ++ whole) - moment) written.newer written.writes) reaches
            begun
            (subst (λ (es : List Event). Leaves es image) by leaves.leaves)
            (subst (λ (es : List Event). NoChanceBy (begin_of events) es image) by chance) in
            chain_of state commits (with_write place super events) after image moment chain
            (record { no_earlier = late; no_later = leaves.no_later; leaves = leaves.leaves })
            (subst (λ (es : List Event). NoChanceBy (begin_of (with_write place super events)) es image)
            (sym by) premise)
      ]

pub run_survives : RunSurvives
run_survives state events after super commits stands = (
  λ repair chain. record {
    each = λ image moment leaves chance.
        run_of state events after super commits first_place stands (inl repair) repair.long chain image moment leaves
        chance;
  },
  λ repair chain. record {
    each = λ image moment leaves chance.
        run_of state events after super commits second_place stands (inr repair) repair.long chain image moment leaves
        chance;
  },
)
