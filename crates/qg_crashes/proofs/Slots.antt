-- What a crash in the midst of a commit leaves of slots: of those that it does not write, and of all once the nodes
-- were made sure of.
use Rattle.std.proofs.Common.{◌≡◌, ◌≢◌, ◌∙◌, ◌⊎◌, inl, inr, ℕ, suc, ◌+◌, ◌-◌, ◌≤◌, min, max, Bool, true, false, List}
use Rattle.std.proofs.Common.{[], ◌∷◌, ◌++◌, length, map, take, drop, refl, sym, ap, subst, arith, append_assoc}
use Rattle.std.specs.Prelude.{All, slice_range}
use Rattle.std.proofs.lemmas.Bool.{cases_Bool, le-ltb}
use Rattle.std.proofs.lemmas.List.{length-map}
use Rattle.std.proofs.lemmas.List.Elements.{All-cons, All-append}
use Rattle.qg_device.specs.History.{Event, Wrote, Tore, Cut, CutShort, Synced, content, overlay, range}
use Rattle.qg_device.specs.Crash.{Leaves}
use Rattle.qg_device.specs.CrashSince.{events_by, LeavesSince}
use Rattle.qg_device.specs.LastWrite.{meets}
use Rattle.qg_disk.proofs.Images.{Leaves-content}
use Rattle.qg_disk.proofs.Sizes.{length-overlay}
use Rattle.qg_node.specs.declared.node.Node.{Node}
use Rattle.qg_node.specs.Nodes.{header_of}
use Rattle.qg_node.specs.NodeText.{node_text}
use Rattle.qg_node.specs.Reading.{node_read}
use Rattle.qg_node.proofs.Texts.{length-node_text}
use Rattle.qg_super.specs.declared.sizes.Sizes.{Sizes}
use Rattle.qg_super.specs.declared.superblock.Super.{Super}
use Rattle.qg_super.specs.Places.{first_place, second_place, is_slot}
use Rattle.qg_super.specs.SuperText.{super_text, is_super, sizes_of}
use Rattle.qg_super.specs.NoChance.{super_bytes}
use Rattle.qg_super.proofs.Served.{SizesFit, SizesFit-is_served, SuperFits-is_super}
use Rattle.qg_super.proofs.SuperTexts.{length-super_text}
use Rattle.qg_image.specs.Walk.{node_found, in_slot}
use Rattle.qg_crashes.specs.Committing.{IsApart, superblock_events, commit_events, FailsAfter, IsFrontOfEvents}
use Rattle.qg_crashes.specs.Committing.{begin_of, nodes_synced}
use Rattle.qg_crashes.specs.Unwritten.{Spares}
use Rattle.qg_crashes.specs.Slots.{IsInSlot, Writing, WritingCommits, StaysAsLong, OtherSlotsStay, SlotsAreSettled}
use Rattle.qg_crashes.specs.Slots.{events_of_commit, node_events, with_events, with_whole}
use Rattle.qg_crashes.proofs.Between.{IsBetween, is_slot-IsBetween, slots-apart}
use Rattle.qg_crashes.proofs.Moments.{front_by, length-events_by}
use Rattle.qg_crashes.proofs.Unwritten.{has_spared, spared_stays}

-- ---- what was done to a disk since, and touches none of some bytes

pub record Newer (place n : ℕ) (events after : List Event) : Type 0 where
  pub newer : List Event
  pub is : after ≡ newer ++ events
  pub spares : All (Spares place n) newer

none_newer : (place n : ℕ) (events after : List Event) → after ≡ events → Newer place n events after
none_newer place n events after is = record { newer = []; is = is; spares = λ k any below. absurd (omega arith) }

one_newer : (place n : ℕ) (event : Event) (events after : List Event) → Spares place n event
    → Newer place n (event ∷ events) after → Newer place n events after
one_newer place n event events after spared since = record {
  newer = since.newer ++ event ∷ [];
  is = since.is ∙ sym (append_assoc since.newer (event ∷ []) events);
  spares = All-append (Spares place n) since.newer (event ∷ []) since.spares
      (All-cons (Spares place n) event [] spared (λ k any below. absurd (omega arith)));
}

-- a write that failed touches no more than one that was done
fails_newer : (place n : ℕ) (event : Event) (events after : List Event) → Spares place n event
    → FailsAfter event events after → Newer place n events after
fails_newer place n (Wrote at bytes) events after spared fails =
    let same : max (length bytes) (length fails.0) ≡ length bytes = omega (arith, fails.1) in
    let still : Spares place n (Tore at bytes fails.0) = ap (meets place n at) same ∙ spared in
    one_newer place n (Tore at bytes fails.0) events after still
    (none_newer place n (Tore at bytes fails.0 ∷ events) after fails.2)
fails_newer place n (Tore at asked left) events after spared fails = absurd fails
fails_newer place n (Cut len) events after spared fails = absurd fails
fails_newer place n (CutShort len left) events after spared fails = absurd fails
fails_newer place n Synced events after spared fails = none_newer place n events after fails

pub front_newer : (place n : ℕ) (steps events after : List Event) → All (Spares place n) steps
    → IsFrontOfEvents steps events after → Newer place n events after
front_newer place n [] events after spared is = none_newer place n events after is
front_newer place n (step ∷ steps) events after spared (inl is) = none_newer place n events after is
front_newer place n (step ∷ steps) events after spared (inr (inl fails)) =
    fails_newer place n step events after (spared 0 step (omega arith)) fails
front_newer place n (step ∷ steps) events after spared (inr (inr front)) =
    let rest : All (Spares place n) steps = λ k any below. spared (suc k) any (omega arith) in
    one_newer place n step events after (spared 0 step (omega arith))
    (front_newer place n steps (step ∷ events) after rest front)

-- once all steps were done
whole_newer : (place n : ℕ) (steps events : List Event) → All (Spares place n) steps
    → Newer place n events (with_events steps events)
whole_newer place n [] events spared = none_newer place n events events refl
whole_newer place n (step ∷ steps) events spared =
    let rest : All (Spares place n) steps = λ k any below. spared (suc k) any (omega arith) in
    one_newer place n step events (with_events steps (step ∷ events)) (spared 0 step (omega arith))
    (whole_newer place n steps (step ∷ events) rest)

-- ---- bytes that a write does not meet

-- bytes that lie before others, or behind them
pub spares_apart : (place n at : ℕ) (bytes : List ℕ) → (place + n ≤ at) ⊎ (at + length bytes ≤ place)
    → Spares place n (Wrote at bytes)
spares_apart place n at bytes (inl before) = le-ltb (max place at) (min (place + n) (at + length bytes)) (omega arith)
spares_apart place n at bytes (inr behind) = le-ltb (max place at) (min (place + n) (at + length bytes)) (omega arith)

-- no bytes are met by none
pub spares_nothing : (place at : ℕ) (bytes : List ℕ) → Spares place 0 (Wrote at bytes)
spares_nothing place at bytes = le-ltb (max place at) (min (place + 0) (at + length bytes)) (omega arith)

nodes_spare_nothing : (place nodesize : ℕ) (nodes : List Node) → All (Spares place 0) (node_events nodesize nodes)
nodes_spare_nothing place nodesize [] = λ k any below. absurd (omega arith)
nodes_spare_nothing place nodesize (node ∷ nodes) =
    All-cons (Spares place 0) (Wrote (header_of node).address (node_text nodesize node)) (node_events nodesize nodes)
    (spares_nothing place (header_of node).address (node_text nodesize node)) (nodes_spare_nothing place nodesize nodes)

-- both superblocks, behind the sync of the nodes
abbrev pub rest_of : Super → List Event
rest_of super = Wrote first_place (super_text first_place super) ∷ Synced ∷ Wrote second_place
    (super_text second_place super) ∷ Synced ∷ []

rest_spares : (place n : ℕ) (super : Super) → Spares place n (Wrote first_place (super_text first_place super))
    → Spares place n (Wrote second_place (super_text second_place super)) → All (Spares place n) (rest_of super)
rest_spares place n super first second =
    let spares = Spares place n in
    let last : All spares (Synced ∷ []) = All-cons spares Synced [] tt (λ k any below. absurd (omega arith)) in
    let from_second = All-cons spares (Wrote second_place (super_text second_place super)) (Synced ∷ []) second last in
    let from_sync = All-cons spares Synced (Wrote second_place (super_text second_place super) ∷ Synced ∷ []) tt
    from_second in
    All-cons spares (Wrote first_place (super_text first_place super))
    (Synced ∷ Wrote second_place (super_text second_place super) ∷ Synced ∷ []) first from_sync

superblocks_spare : (place n : ℕ) (super : Super) → All (Spares place n) (rest_of super)
    → All (Spares place n) (superblock_events super)
superblocks_spare place n super rest = All-cons (Spares place n) Synced (rest_of super) tt rest

node_spares : (super : Super) (address : ℕ) (node : Node) → is_slot (sizes_of super) address ≡ true
    → IsInSlot super node → (header_of node).address ≢ address
    → Spares address super.nodesize (Wrote (header_of node).address (node_text super.nodesize node))
node_spares super address node slot is other =
    let long = length-node_text super.nodesize node is.node_of_format.fits in
    spares_apart address super.nodesize (header_of node).address (node_text super.nodesize node)
    (elim (slots-apart (sizes_of super) (header_of node).address address is.slot slot other) [
      | inl before ↦ inr (omega (arith, before, long))
      | inr behind ↦ inl (omega (arith, behind))
    ])

nodes_spare : (super : Super) (address : ℕ) (nodes : List Node) → is_slot (sizes_of super) address ≡ true
    → All (IsInSlot super) nodes
    → All (λ node. (header_of node).address ≢ address) nodes
    → All (Spares address super.nodesize) (node_events super.nodesize nodes)
nodes_spare super address [] slot all others = λ k any below. absurd (omega arith)
nodes_spare super address (node ∷ nodes) slot all others =
    let rest : All (IsInSlot super) nodes = λ k any below. all (suc k) any (omega arith) in
    let more : All (λ (some : Node). (header_of some).address ≢ address) nodes =
    λ k any below. others (suc k) any (omega arith) in
    All-cons (Spares address super.nodesize) (Wrote (header_of node).address (node_text super.nodesize node))
    (node_events super.nodesize nodes)
    (node_spares super address node slot (all 0 node (omega arith)) (others 0 node (omega arith)))
    (nodes_spare super address nodes slot rest more)

rest_spares_slot : (super : Super) (address : ℕ) → IsBetween super.nodesize address
    → All (Spares address super.nodesize) (rest_of super)
rest_spares_slot super address between =
    rest_spares address super.nodesize super
    (spares_apart address super.nodesize first_place (super_text first_place super)
    (inr (omega (arith, length-super_text first_place super, between.begin))))
    (spares_apart address super.nodesize second_place (super_text second_place super)
    (inl (omega (arith, between.end))))

rest_spares_nothing : (super : Super) (place : ℕ) → All (Spares place 0) (rest_of super)
rest_spares_nothing super place =
    rest_spares place 0 super (spares_nothing place first_place (super_text first_place super))
    (spares_nothing place second_place (super_text second_place super))

-- ---- a node in its slot is apart from both places

meets-between : (at bytes : ℕ) → first_place + super_bytes ≤ at → at + bytes ≤ second_place
    → (meets first_place super_bytes at bytes ≡ false) × (meets second_place super_bytes at bytes ≡ false)
meets-between at bytes behind before = (
  le-ltb (max first_place at) (min (first_place + super_bytes) (at + bytes)) (omega arith),
  le-ltb (max second_place at) (min (second_place + super_bytes) (at + bytes)) (omega arith),
)

pub fit_of : (super : Super) → is_super super ≡ true → SizesFit (sizes_of super)
fit_of super fits = SizesFit-is_served (sizes_of super) (SuperFits-is_super super fits).served

apart_in_slot : (super : Super) (node : Node) → is_super super ≡ true → IsInSlot super node
    → IsApart (Wrote (header_of node).address (node_text super.nodesize node))
apart_in_slot super node fits is =
    let between = is_slot-IsBetween (sizes_of super) (header_of node).address (fit_of super fits) is.slot in
    let long = length-node_text super.nodesize node is.node_of_format.fits in
    meets-between (header_of node).address (length (node_text super.nodesize node)) (omega (arith, between.begin))
    (omega (arith, between.end, long))

apart_in_slots : (super : Super) (nodes : List Node) → is_super super ≡ true → All (IsInSlot super) nodes
    → All IsApart (node_events super.nodesize nodes)
apart_in_slots super [] fits all = λ k any below. absurd (omega arith)
apart_in_slots super (node ∷ nodes) fits all =
    let rest : All (IsInSlot super) nodes = λ k any below. all (suc k) any (omega arith) in
    All-cons IsApart (Wrote (header_of node).address (node_text super.nodesize node)) (node_events super.nodesize nodes)
    (apart_in_slot super node fits (all 0 node (omega arith))) (apart_in_slots super nodes fits rest)

pub writing_commits : WritingCommits
writing_commits before nodes super after writes = record {
  long = omega (arith, writes.long);
  apart = apart_in_slots super nodes writes.may_be_written writes.in_slots;
  may_be_written = writes.may_be_written;
  so_far = writes.so_far;
}

-- ---- what a front of some steps leaves

module _ (steps before after : List Event) (image : List ℕ) (moment : ℕ)
    (so_far : IsFrontOfEvents steps (Synced ∷ before) after)
    (leaves : LeavesSince (begin_of before) after image moment) where
  newer_by : (place n : ℕ) → All (Spares place n) steps → Newer place n (Synced ∷ before) (events_by moment after)
  newer_by place n spared =
      front_newer place n steps (Synced ∷ before) (events_by moment after) spared
      (front_by steps (Synced ∷ before) after moment so_far (omega (arith, leaves.no_earlier)) leaves.no_later)

  -- bytes that no step meets
  pub range_stays : (place n : ℕ) → All (Spares place n) steps → place + n ≤ length (content before)
      → range place n image ≡ range place n (content before)
  range_stays place n spared within =
      let since = newer_by place n spared in
      spared_stays place n since.newer before image since.spares within
      (subst (λ (events : List Event). Leaves events image) since.is leaves.leaves)

  -- no image is shorter than the disk was
  pub as_long : All (Spares (length (content before)) 0) steps → length (content before) ≤ length image
  as_long spared =
      let place = length (content before) in
      let since = newer_by place 0 spared in
      let has = has_spared place 0 (range place 0 (content before)) since.newer before image since.spares
      (record { long = omega arith; is = refl })
      (subst (λ (events : List Event). Leaves events image) since.is leaves.leaves) in
      let long = has.long in
      omega (arith, long)

pub stays_as_long : StaysAsLong
stays_as_long before nodes super after image moment writes leaves =
    let place = length (content before) in
    as_long (events_of_commit nodes super) before after image moment writes.so_far leaves
    (All-append (Spares place 0) (node_events super.nodesize nodes) (superblock_events super)
    (nodes_spare_nothing place super.nodesize nodes)
    (superblocks_spare place 0 super (rest_spares_nothing super place)))

-- ---- what is read in a slot

slice_range-range : (address n : ℕ) (image : List ℕ) → slice_range image address (address + n) ≡ range address n image
slice_range-range address n image = let many : address + n - address ≡ n = omega arith in
    ap (λ (k : ℕ). take k (drop address image)) many

pub found_same : (super : Super) (old new : List ℕ) (address : ℕ)
    → (is_slot (sizes_of super) address ≡ true → range address super.nodesize new ≡ range address super.nodesize old)
    → node_found super new address ≡ node_found super old address
unfolding node_found
found_same super old new address same = elim (cases_Bool (is_slot (sizes_of super) address)) [
  | inl slot ↦
      let bytes : slice_range new address (address + super.nodesize) ≡ slice_range old address
      (address + super.nodesize) =
      slice_range-range address super.nodesize new ∙ same slot ∙ sym (slice_range-range address super.nodesize old) in
      ap (λ (text : List ℕ). in_slot (is_slot (sizes_of super) address) address (node_read address text)) bytes
  | inr none ↦
      ap (λ (is : Bool). in_slot is address (node_read address (slice_range new address (address + super.nodesize))))
      none
      ∙ sym (ap (λ (is : Bool). in_slot is address
      (node_read address (slice_range old address (address + super.nodesize)))) none)
]

-- by a superblock of the same sizes
pub found_by : (super reader : Super) (old new : List ℕ) (address : ℕ) → sizes_of reader ≡ sizes_of super
    → (is_slot (sizes_of super) address ≡ true → range address super.nodesize new ≡ range address super.nodesize old)
    → node_found reader new address ≡ node_found reader old address
found_by super reader old new address sizes same =
    let nodesize : super.nodesize ≡ reader.nodesize = sym (ap (λ (s : Sizes). s.nodesize) sizes) in
    found_same reader old new address
    (λ slot.
    subst (λ (n : ℕ). range address n new ≡ range address n old) nodesize
    (same (ap (λ (s : Sizes). is_slot s address) (sym sizes) ∙ slot)))

-- ---- a slot into which no node is written

slot_stays : (before : List Event) (nodes : List Node) (super : Super) (after : List Event) (image : List ℕ)
    (moment address : ℕ)
    → Writing before nodes super after → LeavesSince (begin_of before) after image moment
    → is_slot (sizes_of super) address ≡ true
    → All (λ node. (header_of node).address ≢ address) nodes
    → range address super.nodesize image ≡ range address super.nodesize (content before)
slot_stays before nodes super after image moment address writes leaves slot others =
    let n = super.nodesize in
    let between = is_slot-IsBetween (sizes_of super) address (fit_of super writes.may_be_written) slot in
    range_stays (events_of_commit nodes super) before after image moment writes.so_far leaves address n
    (All-append (Spares address n) (node_events n nodes) (superblock_events super)
    (nodes_spare super address nodes slot writes.in_slots others)
    (superblocks_spare address n super (rest_spares_slot super address between)))
    (omega (arith, between.end, writes.long))

pub other_slots_stay : OtherSlotsStay
other_slots_stay before nodes super reader after image moment address writes leaves sizes others =
    found_by super reader (content before) image address sizes
    (λ slot. slot_stays before nodes super after image moment address writes leaves slot others)

-- ---- all slots, once the nodes were made sure of

-- steps one after the other
pub with_events-append : (first last older : List Event)
    → with_events (first ++ last) older ≡ with_events last (with_events first older)
with_events-append [] last older = refl
with_events-append (event ∷ first) last older = with_events-append first last (event ∷ older)

-- a disk gets no shorter where nodes are written
nodes_no_shorter : (nodesize : ℕ) (nodes : List Node) (events : List Event)
    → length (content events) ≤ length (content (with_events (node_events nodesize nodes) events))
nodes_no_shorter nodesize [] events = omega arith
nodes_no_shorter nodesize (node ∷ nodes) events =
    let at = (header_of node).address in
    let text = node_text nodesize node in
    let later = nodes_no_shorter nodesize nodes (Wrote at text ∷ events) in
    omega (arith, later, length-overlay at text (content events))

-- a front that came past the nodes and their sync is one behind them
past_sync : (nodesize : ℕ) (nodes : List Node) (rest events after : List Event)
    → length events + length nodes + 1 ≤ length after
    → IsFrontOfEvents (node_events nodesize nodes ++ Synced ∷ rest) events after
    → IsFrontOfEvents rest (Synced ∷ with_events (node_events nodesize nodes) events) after
past_sync nodesize [] rest events after past (inl is) = absurd (omega (arith, ap length is))
past_sync nodesize [] rest events after past (inr (inl is)) = absurd (omega (arith, ap length is))
past_sync nodesize [] rest events after past (inr (inr front)) = front
past_sync nodesize (node ∷ nodes) rest events after past (inl is) = absurd (omega (arith, ap length is))
past_sync nodesize (node ∷ nodes) rest events after past (inr (inl fails)) = absurd (omega (arith, ap length fails.2))
past_sync nodesize (node ∷ nodes) rest events after past (inr (inr front)) =
    past_sync nodesize nodes rest (Wrote (header_of node).address (node_text nodesize node) ∷ events) after
    (omega arith) front

-- a slot holds the same in the image and on the disk after the whole commit
slot_settled : (before : List Event) (nodes : List Node) (super : Super) (after : List Event) (image : List ℕ)
    (moment address : ℕ)
    → Writing before nodes super after → LeavesSince (begin_of before) after image moment
    → nodes_synced before (node_events super.nodesize nodes) ≤ moment → is_slot (sizes_of super) address ≡ true
    → range address super.nodesize image ≡ range address super.nodesize (content (with_whole nodes super before))
slot_settled before nodes super after image moment address writes leaves past slot =
    let n = super.nodesize in
    let between = is_slot-IsBetween (sizes_of super) address (fit_of super writes.may_be_written) slot in
    let written = with_events (node_events n nodes) (Synced ∷ before) in
    let grown = nodes_no_shorter n nodes (Synced ∷ before) in
    let rest = rest_of super in
    let spared = rest_spares_slot super address between in
    let front = front_by (events_of_commit nodes super) (Synced ∷ before) after moment writes.so_far
    (omega (arith, leaves.no_earlier)) leaves.no_later in
    let many = length-events_by moment after leaves.no_later in
    let counted : length (node_events n nodes) ≡ length nodes =
    length-map nodes (λ (node : Node). Wrote (header_of node).address (node_text n node)) in
    let behind = past_sync n nodes rest (Synced ∷ before) (events_by moment after) (omega (arith, past)) front in
    let since = front_newer address n rest (Synced ∷ written) (events_by moment after) spared behind in
    let fits : address + n ≤ length (content written) = omega (arith, between.end, writes.long, grown) in
    let whole = whole_newer address n rest (Synced ∷ written) spared in
    let all : with_whole nodes super before ≡ whole.newer ++ Synced ∷ written =
    with_events-append (node_events n nodes) (superblock_events super) (Synced ∷ before) ∙ whole.is in
    spared_stays address n since.newer written image since.spares fits
    (subst (λ (events : List Event). Leaves events image) since.is leaves.leaves)
    ∙ sym (spared_stays address n whole.newer written (content (with_whole nodes super before)) whole.spares fits
    (subst (λ (events : List Event). Leaves events (content (with_whole nodes super before))) all
    (Leaves-content (with_whole nodes super before))))

pub slots_are_settled : SlotsAreSettled
slots_are_settled before nodes super reader after image moment address writes leaves sizes past =
    found_by super reader (content (with_whole nodes super before)) image address sizes
    (λ slot. slot_settled before nodes super after image moment address writes leaves past slot)
