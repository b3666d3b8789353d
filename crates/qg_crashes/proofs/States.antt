-- Which state an image stands for that a crash left in the midst of a commit, or of a repair.
use Rattle.std.proofs.Common.{◌≡◌, ◌≢◌, ◌∙◌, ◌⊎◌, inl, inr, ℕ, suc, ◌+◌, ◌<◌, ◌≤◌, min, max, Bool, true, false, List}
use Rattle.std.proofs.Common.{[], ◌∷◌, ◌++◌, length, get_or, refl, sym, ap, subst, arith, Option, Some, None}
use Rattle.std.specs.Prelude.{All, ◌==◌, not, IsTrue}
use Rattle.std.specs.List.{Contains, list_any}
use Rattle.std.proofs.lemmas.Bool.{cases_lt, eq-eqb, true≢false}
use Rattle.std.proofs.lemmas.List.Elements.{All-cons}
use Rattle.std.proofs.lemmas.Option.{same_Some}
use Rattle.qg_device.specs.History.{Event, Wrote, Synced, content, overlay, range}
use Rattle.qg_device.specs.CrashSince.{LeavesSince}
use Rattle.qg_disk.proofs.Images.{Torn-overlay}
use Rattle.qg_disk.proofs.Sizes.{length-overlay}
use Rattle.qg_node.specs.declared.node.Node.{Node}
use Rattle.qg_node.specs.Nodes.{header_of}
use Rattle.qg_super.specs.declared.sizes.Sizes.{Sizes}
use Rattle.qg_super.specs.declared.superblock.Super.{Super}
use Rattle.qg_super.specs.Places.{first_place, second_place, total_bytes}
use Rattle.qg_super.specs.SuperText.{super_text, super_read, is_super, sizes_of}
use Rattle.qg_super.specs.NoChance.{super_bytes}
use Rattle.qg_super.proofs.SuperTexts.{length-super_text, super_read-super_text, super_writes_back}
use Rattle.qg_image.specs.State.{Committed, State}
use Rattle.qg_image.specs.ImageState.{state_in, super_in, super_of}
use Rattle.qg_image.specs.StateOf.{StateOf}
use Rattle.qg_image.specs.Verdict.{are_mirrored}
use Rattle.qg_image.specs.Walk.{node_found}
use Rattle.qg_image.proofs.Contained.{none_contained, contains_cases}
use Rattle.qg_crashes.specs.Committing.{Committing, Crashing, IsFrontOfEvents, begin_of, nodes_synced}
use Rattle.qg_crashes.specs.Committing.{superblock_events}
use Rattle.qg_crashes.specs.Repairing.{Repairing}
use Rattle.qg_crashes.specs.Superblocks.{Replaces}
use Rattle.qg_crashes.specs.Unwritten.{Spares}
use Rattle.qg_crashes.specs.Reading.{HasWhatIsHeld}
use Rattle.qg_crashes.specs.Slots.{Writing, node_events, with_events, with_whole}
use Rattle.qg_crashes.specs.States.{IsApartFrom, IsMirrored, Replacing, LeavesEitherState, LeavesTheOldState}
use Rattle.qg_crashes.specs.States.{LeavesTheNewState, MirrorsTheNewState, RepairLeavesTheState}
use Rattle.qg_crashes.proofs.Ranges.{range-overlay, range-torn}
use Rattle.qg_crashes.proofs.Chosen.{choose-same, super_of-both, leaves_old_or_new, leaves_the_new, leaves_the_old}
use Rattle.qg_crashes.proofs.Repaired.{IsReadRepaired, first_read, second_read, keeps_what_counts}
use Rattle.qg_crashes.proofs.Mirrors.{leaves_mirrored, mirrored_itself}
use Rattle.qg_crashes.proofs.Between.{is_slot-IsBetween}
use Rattle.qg_crashes.proofs.Slots.{as_long, range_stays, spares_apart, spares_nothing, fit_of, found_by}
use Rattle.qg_crashes.proofs.Slots.{with_events-append, writing_commits, stays_as_long, other_slots_stay}
use Rattle.qg_crashes.proofs.Slots.{slots_are_settled}
use Rattle.qg_crashes.proofs.SameStates.{IsLongAndMirrored, reads_what_is_held, sound_places}

-- ---- what a state says of its superblock

generation_in : (super : Super) (image : List ℕ) → (state_in super image).generation ≡ super.generation
unfolding state_in
generation_in super image = refl

sizes_in : (super : Super) (image : List ℕ) → (state_in super image).sizes ≡ sizes_of super
unfolding state_in
sizes_in super image = refl

generation_of : (image : List ℕ) (state : State) (stands : StateOf image state)
    → state.generation ≡ stands.super.generation
generation_of image state stands = ap (λ (s : State). s.generation) stands.stands ∙ generation_in stands.super image

sizes_told : (image : List ℕ) (state : State) (stands : StateOf image state) → state.sizes ≡ sizes_of stands.super
sizes_told image state stands = ap (λ (s : State). s.sizes) stands.stands ∙ sizes_in stands.super image

-- ---- a node that is not written where the last commit holds one

any_case : (at y : ℕ) (xs : List ℕ) (x : ℕ) (here : Bool) → (y == at) ≡ here → Contains (y ∷ xs) x → at ≡ x
    → (Contains xs x → list_any (λ z. z == at) xs ≡ true) → list_any (λ z. z == at) (y ∷ xs) ≡ true
any_case at y xs x true same has is rest = rw same refl
any_case at y xs x false other has is rest =
    let later : list_any (λ (z : ℕ). z == at) xs ≡ true = elim (contains_cases y xs x has) [
      | inl there ↦ absurd (true≢false (sym (eq-eqb y at (there ∙ sym is)) ∙ other))
      | inr behind ↦ rest behind
    ] in
    rw other later

any_there : (at : ℕ) (xs : List ℕ) (x : ℕ) → Contains xs x → at ≡ x → list_any (λ z. z == at) xs ≡ true
any_there at [] x has is = absurd (none_contained x has)
any_there at (y ∷ xs) x has is = any_case at y xs x (y == at) refl has is (λ behind. any_there at xs x behind is)

other_address : (held : Committed) (node : Node) (address : ℕ) → IsApartFrom held node → Contains held.nodes address
    → (header_of node).address ≢ address
other_address held node address apart has =
    λ same.
    let there : list_any (λ (a : ℕ). a == (header_of node).address) held.nodes ≡ true =
    any_there (header_of node).address held.nodes address has same in
    true≢false (sym apart ∙ ap not there)

other_addresses : (held : Committed) (nodes : List Node) (address : ℕ) → All (IsApartFrom held) nodes
    → Contains held.nodes address
    → All (λ node. (header_of node).address ≢ address) nodes
other_addresses held nodes address apart has = λ k any below. other_address held (get_or nodes k any) address
    (apart k any below) has

-- ---- both places once the whole commit is done

both_written : (super : Super) (old : List ℕ) → is_super super ≡ true
    → let new = overlay second_place (super_text second_place super)
    (overlay first_place (super_text first_place super) old) in
    (super_in new first_place ≡ Some super) × (super_in new second_place ≡ Some super)
both_written super old fits =
    let first = super_text first_place super in
    let second = super_text second_place super in
    let mid = overlay first_place first old in
    let new = overlay second_place second mid in
    let long_first : length first ≡ super_bytes = length-super_text first_place super in
    let long_second : length second ≡ super_bytes = length-super_text second_place super in
    let within : first_place + super_bytes ≤ length mid = omega (arith, length-overlay first_place first old) in
    let torn = Torn-overlay second_place (length second) second mid (omega arith) in
    let kept : range first_place super_bytes new ≡ range first_place super_bytes mid =
    range-torn second_place (length second) first_place super_bytes mid new torn within (omega arith) in
    let at_first : range first_place super_bytes mid ≡ first =
    sym (ap (λ (k : ℕ). range first_place k mid) long_first) ∙ range-overlay first_place first old in
    let at_second : range second_place super_bytes new ≡ second =
    sym (ap (λ (k : ℕ). range second_place k new) long_second) ∙ range-overlay second_place second mid in (
      ap (super_read first_place) (kept ∙ at_first) ∙ super_read-super_text first_place super fits,
      ap (super_read second_place) at_second ∙ super_read-super_text second_place super fits,
    )

-- both places hold the superblock
record IsWritten (super : Super) (image : List ℕ) : Type 0 where
  first : super_in image first_place ≡ Some super
  second : super_in image second_place ≡ Some super

whole_written : (before : List Event) (nodes : List Node) (super : Super) → is_super super ≡ true
    → IsWritten super (content (with_whole nodes super before))
whole_written before nodes super fits =
    let written = with_events (node_events super.nodesize nodes) (Synced ∷ before) in
    let same = with_events-append (node_events super.nodesize nodes) (superblock_events super) (Synced ∷ before) in
    let both = both_written super (content written) fits in
    let done : IsWritten super (content (with_events (superblock_events super) written)) =
    record { first = both.0; second = both.1 } in
    subst (λ (events : List Event). IsWritten super (content events)) (sym same) done

-- ---- a commit

module _ (old new : State) (before : List Event) (nodes : List Node) (super : Super) (after : List Event)
    (r : Replacing old new before nodes super after) where
  abbrev old_super : Super
  old_super = r.was.stands.super

  abbrev whole : List ℕ
  whole = content (with_whole nodes super before)

  written : IsWritten super (content (with_whole nodes super before))
  written = whole_written before nodes super r.writes.may_be_written

  whole_counts : super_of (content (with_whole nodes super before)) ≡ Some super
  whole_counts = super_of-both whole (Some super) (Some super) written.first written.second ∙ choose-same super

  new_super : r.becomes.super ≡ super
  new_super = same_Some r.becomes.super super (sym r.becomes.chosen ∙ whole_counts)

  sizes_super : sizes_of r.was.stands.super ≡ sizes_of super
  sizes_super =
      sym (sizes_told (content before) old r.was.stands) ∙ sym r.same_sizes ∙ sizes_told whole new r.becomes
      ∙ ap (λ (s : Super). sizes_of s) new_super

  later : r.was.stands.super.generation < super.generation
  later =
      let a = generation_of (content before) old r.was.stands in
      let b = generation_of whole new r.becomes ∙ ap (λ (s : Super). s.generation) new_super in
      let c = r.later in
      omega (arith, a, b, c)

  replaces : Replaces r.was.stands.super super (content before)
  replaces = record { first = r.was.first; second = r.was.second; later = later }

  commits : Committing before (node_events super.nodesize nodes) super after
  commits = writing_commits before nodes super after r.writes

  pub mirrors_new : IsMirrored new (content (with_whole nodes super before))
  mirrors_new = record {
    stands = r.becomes;
    first = written.first ∙ ap (λ (s : Super). Some s) (sym new_super);
    second = written.second ∙ ap (λ (s : Super). Some s) (sym new_super);
  }

  module _ (image : List ℕ) (moment : ℕ) (crash : Crashing before after image moment) where
    long : total_bytes (sizes_of super) ≤ length image
    long =
        let was = r.writes.long in
        let grown = stays_as_long before nodes super after image moment r.writes crash.leaves in
        omega (arith, was, grown)

    mirrored : are_mirrored (super_in image first_place) (super_in image second_place) ≡ true
    mirrored = leaves_mirrored before (node_events super.nodesize nodes) after old_super super image moment commits
        crash replaces

    as_old : super_of image ≡ Some r.was.stands.super → StateOf image old
    as_old counts =
        reads_what_is_held old (content before) image r.was.stands
        (record {
          counts = counts;
          long = subst (λ (s : Sizes). total_bytes s ≤ length image) (sym sizes_super) long;
          mirrored = mirrored;
          found = λ address held.
              other_slots_stay before nodes super old_super after image moment address r.writes crash.leaves sizes_super
              (other_addresses old.held nodes address r.apart held);
        })

    as_new : super_of image ≡ Some super → nodes_synced before (node_events super.nodesize nodes) ≤ moment
        → StateOf image new
    as_new counts past =
        let same_sizes = ap (λ (s : Super). sizes_of s) new_super in
        reads_what_is_held new whole image r.becomes
        (record {
          counts = counts ∙ ap (λ (s : Super). Some s) (sym new_super);
          long = subst (λ (s : Sizes). total_bytes s ≤ length image) (sym same_sizes) long;
          mirrored = mirrored;
          found = λ address held. slots_are_settled before nodes super r.becomes.super after image moment address
              r.writes crash.leaves same_sizes past;
        })

    pub stays_old : moment ≤ nodes_synced before (node_events super.nodesize nodes) → StateOf image old
    stays_old there =
        as_old (leaves_the_old before (node_events super.nodesize nodes) after old_super super image moment commits
        crash replaces there)

    pub is_new : nodes_synced before (node_events super.nodesize nodes) + 2 ≤ moment → StateOf image new
    is_new there =
        as_new (leaves_the_new before (node_events super.nodesize nodes) after old_super super image moment commits
        crash replaces there) (omega (arith, there))

    pub is_either : StateOf image old ⊎ StateOf image new
    is_either = elim (cases_lt (nodes_synced before (node_events super.nodesize nodes)) moment) [
      | inl past ↦ elim (leaves_old_or_new before (node_events super.nodesize nodes) after old_super super image moment
          commits crash replaces) [
            | inl counts ↦ inl (as_old counts)
            | inr counts ↦ inr (as_new counts (omega (arith, past)))
          ]
      | inr early ↦ inl (stays_old early)
    ]

pub leaves_either_state : LeavesEitherState
leaves_either_state old new before nodes super after image moment r crash =
    is_either old new before nodes super after r image moment crash

pub leaves_the_old_state : LeavesTheOldState
leaves_the_old_state old new before nodes super after image moment r crash there =
    stays_old old new before nodes super after r image moment crash there

pub leaves_the_new_state : LeavesTheNewState
leaves_the_new_state old new before nodes super after image moment r crash there =
    is_new old new before nodes super after r image moment crash there

pub mirrors_the_new_state : MirrorsTheNewState
mirrors_the_new_state old new before nodes super r =
    mirrors_new old new before nodes super (with_whole nodes super before) r

-- ---- opening

module _ (state : State) (before after : List Event) (super : Super) (image : List ℕ) (moment : ℕ)
    (stands : StateOf (content before) state)
    (counts : super_of (content before) ≡ Some super) (place : ℕ) (is_place : (place ≡ first_place)
    ⊎ (place ≡ second_place))
    (so_far : IsFrontOfEvents (Wrote place (super_text place super) ∷ Synced ∷ []) (Synced ∷ before) after)
    (crash : Crashing before after image moment)
    (still : super_of image ≡ Some super)
    (mirrored : are_mirrored (super_in image first_place) (super_in image second_place) ≡ true)
    (fits : is_super super ≡ true) where
  same_super : stands.super ≡ super
  same_super = same_Some stands.super super (sym stands.chosen ∙ counts)

  was : IsLongAndMirrored stands.super (content before)
  was = sound_places (content before) stands.super stands.chosen stands.sound

  steps_spare : (from n : ℕ) → Spares from n (Wrote place (super_text place super))
      → All (Spares from n) (Wrote place (super_text place super) ∷ Synced ∷ [])
  steps_spare from n spared =
      let spares = Spares from n in
      let last : All spares (Synced ∷ []) = All-cons spares Synced [] tt (λ k any below. absurd (omega arith)) in
      All-cons spares (Wrote place (super_text place super)) (Synced ∷ []) spared last

  still_long : length (content before) ≤ length image
  still_long =
      as_long (Wrote place (super_text place super) ∷ Synced ∷ []) before after image moment so_far crash.leaves
      (steps_spare (length (content before)) 0
      (spares_nothing (length (content before)) place (super_text place super)))

  found_still : (address : ℕ) → node_found stands.super image address ≡ node_found stands.super (content before) address
  found_still address =
      let sizes = ap (λ (s : Super). sizes_of s) same_super in
      found_by super stands.super (content before) image address sizes
      (λ slot.
      let between = is_slot-IsBetween (sizes_of super) address (fit_of super fits) slot in
      let begin = between.begin in
      let end = between.end in
      let size = length-super_text place super in
      let long = subst (λ (s : Sizes). total_bytes s ≤ length (content before)) sizes was.long in
      let spared : Spares address super.nodesize (Wrote place (super_text place super)) =
      spares_apart address super.nodesize place (super_text place super)
      (elim is_place [ inl is ↦ inr (omega (arith, is, begin, size)) | inr is ↦ inl (omega (arith, is, end)) ]) in
      range_stays (Wrote place (super_text place super) ∷ Synced ∷ []) before after image moment so_far crash.leaves
      address super.nodesize
      (steps_spare address super.nodesize spared) (omega (arith, end, long)))

  pub repaired_state : StateOf image state
  repaired_state =
      reads_what_is_held state (content before) image stands
      (record {
        counts = still ∙ ap (λ (s : Super). Some s) (sym same_super);
        long = (let long = was.long in omega (arith, long, still_long));
        mirrored = mirrored;
        found = λ address held. found_still address;
      })

-- the superblocks of an image of which one place is repaired
first_mirrored : (first second read : Option Super) (super : Super) → are_mirrored first second ≡ true
    → second ≡ Some super
    → (read ≡ first) ⊎ ((read ≡ Some super) ⊎ (read ≡ None)) → are_mirrored read (Some super) ≡ true
first_mirrored first second read super was there (inl is) =
    rw is (subst (λ (o : Option Super). are_mirrored first o ≡ true) there was)
first_mirrored first second read super was there (inr (inl is)) = rw is (mirrored_itself super)
first_mirrored first second read super was there (inr (inr is)) = rw is refl

second_mirrored : (first second read : Option Super) (super : Super) → are_mirrored first second ≡ true
    → first ≡ Some super
    → (read ≡ second) ⊎ ((read ≡ Some super) ⊎ (read ≡ None)) → are_mirrored (Some super) read ≡ true
second_mirrored first second read super was there (inl is) =
    rw is (subst (λ (o : Option Super). are_mirrored o second ≡ true) there was)
second_mirrored first second read super was there (inr (inl is)) = rw is (mirrored_itself super)
second_mirrored first second read super was there (inr (inr is)) = rw is refl

read_fits : (place : ℕ) (bytes : List ℕ) (super : Super) → super_read place bytes ≡ Some super → is_super super ≡ true
read_fits place bytes super is = (super_writes_back place bytes super is).served

pub repair_leaves_the_state : RepairLeavesTheState
repair_leaves_the_state state before after super image moment stands (inl repair) crash =
    let read = first_read before after super image moment repair crash in
    let was = sound_places (content before) stands.super stands.chosen stands.sound in
    let mirrored = first_mirrored (super_in (content before) first_place) (super_in (content before) second_place)
    (super_in image first_place) super was.mirrored
    repair.stands read.at_place in
    repaired_state state before after super image moment stands repair.counts first_place (inl refl) repair.so_far crash
    (keeps_what_counts before after super image moment (inl repair) crash)
    (ap (are_mirrored (super_in image first_place)) read.at_other ∙ mirrored)
    (read_fits second_place (range second_place super_bytes (content before)) super repair.stands)
repair_leaves_the_state state before after super image moment stands (inr repair) crash =
    let read = second_read before after super image moment repair crash in
    let was = sound_places (content before) stands.super stands.chosen stands.sound in
    let mirrored = second_mirrored (super_in (content before) first_place) (super_in (content before) second_place)
    (super_in image second_place) super was.mirrored
    repair.stands read.at_place in
    repaired_state state before after super image moment stands repair.counts second_place
    (inr refl) repair.so_far crash
    (keeps_what_counts before after super image moment (inr repair) crash)
    (ap (λ (found : Option Super). are_mirrored found (super_in image second_place)) read.at_other ∙ mirrored)
    (read_fits first_place (range first_place super_bytes (content before)) super repair.stands)
