-- What stands in the slots of a disk over which bytes were written.
use Rattle.std.proofs.Common.{◌≡◌, ◌≢◌, ◌⊎◌, ℕ, ◌+◌, ◌-◌, ◌%◌, ◌≤◌, inl, inr, true, false, List, ◌∷◌, length, arith}
use Rattle.std.proofs.Common.{refl, sym, ap, subst, ◌∙◌}
use Rattle.std.proofs.lemmas.Bool.{cases_lt}
use Rattle.std.proofs.lemmas.Bool.Decides.{nat_tests}
use Rattle.std.specs.Result.{result_ok}
use Rattle.std.specs.Prelude.{⊤, Option, Some, None, Ok}
use Rattle.qg_device.specs.History.{Event, History, Recorded, Unrecorded, Wrote, Synced, content, overlay, range}
use Rattle.qg_device.specs.History.{with_event}
use Rattle.qg_disk.proofs.Sizes.{length-overlay}
use Rattle.qg_node.specs.declared.node.Node.{Node}
use Rattle.qg_node.specs.NodeText.{IsNodeSize}
use Rattle.qg_node.specs.Reading.{node_read}
use Rattle.qg_super.specs.declared.sizes.Sizes.{Sizes}
use Rattle.qg_super.specs.Places.{is_served, is_slot, second_place, slots_begin}
use Rattle.qg_super.proofs.Served.{SizesFit-is_served}
use Rattle.qg_super.proofs.Slots.{IsSlotAt-is_slot, slot_ends}
use Rattle.qg_blocks.specs.NodesInMemory.{Draft, Held}
use Rattle.qg_blocks.specs.Standing.{has_slot, standing}
use Rattle.qg_blocks.specs.NodesFound.{IsBacked, fresh_at, told, told_or}
use Rattle.qg_blocks.specs.Writing.{AreWritten, HasWritten, Keeps}
use Rattle.qg_blocks.proofs.Ranges.{range-overlay_apart, range-overlay_same}
use Rattle.qg_blocks.proofs.Stands.{HasSlot-has_slot, standing-nowhere, standing-read}

-- ---- slots

slot-aligned : (sizes : Sizes) (address : ℕ) → is_slot sizes address ≡ true
    → (address - slots_begin) % sizes.nodesize ≡ 0
unfolding is_slot
slot-aligned sizes address slot = grind (arith, nat_tests)

numbers_apart : (n a b : ℕ) → IsNodeSize n → slots_begin ≤ a → slots_begin ≤ b → (a - slots_begin) % n ≡ 0
    → (b - slots_begin) % n ≡ 0 → a ≢ b
    → (a + n ≤ b) ⊎ (b + n ≤ a)
numbers_apart n a b served low low' at at' other = elim served [
  | inl is ↦ let whole = rw is at at in let whole' = rw is at at' in
      elim (cases_lt a b) [
        | inl less ↦ inl (rw is (omega (arith, low, whole, whole')))
        | inr more ↦ inr (rw is (omega (arith, low', whole, whole')))
      ]
  | inr is ↦ let whole = rw is at at in let whole' = rw is at at' in
      elim (cases_lt a b) [
        | inl less ↦ inl (rw is (omega (arith, low, whole, whole')))
        | inr more ↦ inr (rw is (omega (arith, low', whole, whole')))
      ]
]

-- slots at two addresses are apart
pub slots-apart : (sizes : Sizes) (a b : ℕ) → is_served sizes ≡ true → is_slot sizes a ≡ true → is_slot sizes b ≡ true
    → a ≢ b
    → (a + sizes.nodesize ≤ b) ⊎ (b + sizes.nodesize ≤ a)
slots-apart sizes a b served slot slot' =
    numbers_apart sizes.nodesize a b (SizesFit-is_served sizes served).node_size (IsSlotAt-is_slot sizes a slot).begin
    (IsSlotAt-is_slot sizes b slot').begin
    (slot-aligned sizes a slot) (slot-aligned sizes b slot')

-- ---- bytes written over an image

same_length : (place : ℕ) (bytes image : List ℕ) → place + length bytes ≤ length image
    → length image ≡ length (overlay place bytes image)
same_length place bytes image inside = omega (arith, length-overlay place bytes image)

-- in a slot apart from them stands what stood there
pub standing-apart : (sizes : Sizes) (place at : ℕ) (bytes image : List ℕ) → place + length bytes ≤ length image
    → (is_slot sizes at ≡ true → (at + sizes.nodesize ≤ place) ⊎ (place + length bytes ≤ at))
    → standing sizes (overlay place bytes image) at ≡ standing sizes image at
standing-apart sizes place at bytes image inside apart =
    let same = same_length place bytes image inside in
    let new = overlay place bytes image in
    (elim (has_slot sizes (length image) at) as (λ b. has_slot sizes (length image) at ≡ b
    → standing sizes new at ≡ standing sizes image at) [
      | true ↦ λ is.
          let has = HasSlot-has_slot sizes (length image) at is in
          let kept = range-overlay_apart place at sizes.nodesize bytes image has.inside (apart has.slot) in
          standing-read sizes (length image) at new (range at sizes.nodesize image)
          (node_read at (range at sizes.nodesize image)) same is (sym kept) refl
          ∙ sym (standing-read sizes (length image) at image (range at sizes.nodesize image)
          (node_read at (range at sizes.nodesize image)) refl is refl refl)
      | false ↦ λ is. standing-nowhere sizes (length image) at new same is
          ∙ sym (standing-nowhere sizes (length image) at image refl is)
    ]) refl

-- a node stands where its text was written
pub standing-written : (sizes : Sizes) (address : ℕ) (bytes image : List ℕ) (node : Node)
    → length bytes ≡ sizes.nodesize → has_slot sizes (length image) address ≡ true
    → node_read address bytes ≡ Ok node → standing sizes (overlay address bytes image) address ≡ Ok node
standing-written sizes address bytes image node long has read =
    let inside = (HasSlot-has_slot sizes (length image) address has).inside in
    standing-read sizes (length image) address (overlay address bytes image) bytes (Ok node)
    (same_length address bytes image (omega arith)) has
    (subst (λ (n : ℕ). bytes ≡ range address n (overlay address bytes image)) long
    (sym (range-overlay_same address bytes image))) read

-- ---- calls of a disk

-- how long the disk is, where it tells
abbrev IsLong : ℕ → History → Type 0
IsLong bytes history = (events : List Event) → history ≡ Recorded events → bytes ≡ length (content events)

event_before : (event : Event) (before : History) (later : List Event)
    → with_event event before ≡ Recorded later
    → (events : List Event) × (before ≡ Recorded events) × (later ≡ event ∷ events)
event_before event (Unrecorded changes) later is = cc
event_before event (Recorded events) later is = (events, refl, cc)

-- a node's text that is written at the address of a slot inside the disk: the node stands there, and nothing changes in
-- other slots
pub HasWritten-wrote : (sizes : Sizes) (size address : ℕ) (bytes : List ℕ) (node : Node)
    (before after : History) → is_served sizes ≡ true
    → length bytes ≡ sizes.nodesize → after ≡ with_event (Wrote address bytes) before → IsLong size before
    → has_slot sizes size address ≡ true
    → node_read address bytes ≡ Ok node → HasWritten sizes before after address node
HasWritten-wrote sizes size address bytes node before after served long event sized has read = record {
  here = λ later told.
      let was = event_before (Wrote address bytes) before later (sym event ∙ told) in
      let has' = rw (sized was.0 was.1) at has in
      ap (λ (events : List Event). standing sizes (content events) address) was.2
      ∙ standing-written sizes address bytes (content was.0) node long has' read;
  others = λ later told.
      let was = event_before (Wrote address bytes) before later (sym event ∙ told) in
      let has' = HasSlot-has_slot sizes (length (content was.0)) address (rw (sized was.0 was.1) at has) in
      let inside : address + length bytes ≤ length (content was.0) = let within = has'.inside in omega arith in (
        was.0,
        was.1,
        λ at other. ap (λ (events : List Event). standing sizes (content events) at) was.2
            ∙ (standing-apart sizes address at bytes (content was.0) inside
            (λ slot. rw long (slots-apart sizes at address served slot has'.slot other))),
      );
}

-- bytes that are written inside the disk, in front of the slots or behind them, as the superblocks, change nothing in
-- slots
pub Keeps-wrote : (sizes : Sizes) (size place : ℕ) (bytes : List ℕ) (before after : History)
    → is_served sizes ≡ true
    → after ≡ with_event (Wrote place bytes) before → IsLong size before → place + length bytes ≤ size
    → (place + length bytes ≤ slots_begin) ⊎ (second_place ≤ place)
    → Keeps sizes before after (λ at. ⊤)
Keeps-wrote sizes size place bytes before after served event sized inside apart later told =
    let was = event_before (Wrote place bytes) before later (sym event ∙ told) in
    let inside' : place + length bytes ≤ length (content was.0) = rw (sized was.0 was.1) at inside in (
      was.0,
      was.1,
      λ at any. ap (λ (events : List Event). standing sizes (content events) at) was.2
          ∙ (standing-apart sizes place at bytes (content was.0) inside'
          (λ slot. elim apart [
            | inl front ↦ inr (omega (arith, front, (IsSlotAt-is_slot sizes at slot).begin))
            | inr behind ↦ inl (omega (arith, behind, slot_ends sizes at (SizesFit-is_served sizes served) slot))
          ])),
    )

-- nor does a sync
pub Keeps-synced : (sizes : Sizes) (before after : History) → after ≡ with_event Synced before
    → Keeps sizes before after (λ at. ⊤)
Keeps-synced sizes before after event later told =
    let was = event_before Synced before later (sym event ∙ told) in
    (was.0, was.1, λ at any. ap (λ (events : List Event). standing sizes (content events) at) was.2)

pub Keeps-then : (sizes : Sizes) (before mid after : History) (Q : ℕ → Type 0) → Keeps sizes before mid Q
    → Keeps sizes mid after Q → Keeps sizes before after Q
Keeps-then sizes before mid after Q first second later told =
    let was = second later told in
    let was' = first was.0 was.1 in
    (was'.0, was'.1, λ at is. was.2 at is ∙ was'.2 at is)

pub Keeps-fewer : (sizes : Sizes) (before after : History) (P Q : ℕ → Type 0) → ((at : ℕ) → Q at → P at)
    → Keeps sizes before after P → Keeps sizes before after Q
Keeps-fewer sizes before after P Q fewer keeps later told = let was = keeps later told in
    (was.0, was.1, λ at is. was.2 at (fewer at is))

-- ---- where slots without a fresh node are as they were

-- clean nodes are backed
pub IsBacked-keeps : (held : Held) (before after : History)
    → Keeps held.draft.sizes before after (λ at. fresh_at held.draft at ≡ None)
    → IsBacked held before → IsBacked held after
IsBacked-keeps held before after keeps backed = record {
  stands = λ address node here later told. let was = keeps later told in was.2 address (backed.apart address node here)
      ∙ backed.stands address node here was.0 was.1;
  kept = backed.kept;
  apart = backed.apart;
}

kept_from : (fresh : Option Node) (sizes : Sizes) (before : History) (later : List Event) (at : ℕ)
    → (events : List Event) × (before ≡ Recorded events)
    × (fresh ≡ None → standing sizes (content later) at ≡ standing sizes (content events) at)
    → told_or fresh sizes (Recorded later) at ≡ told_or fresh sizes before at
kept_from (Some node) sizes before later at was = refl
kept_from None sizes (Unrecorded changes) later at was = let e = was.1 in cc
kept_from None sizes (Recorded events) later at was = let same : events ≡ was.0 = let e = was.1 in cc in
    ap result_ok (was.2 refl) ∙ rw same refl

-- and the same is told
pub told-keeps : (draft : Draft) (before : History) (later : List Event) (at : ℕ)
    → Keeps draft.sizes before (Recorded later) (λ at. fresh_at draft at ≡ None)
    → told draft (Recorded later) at ≡ told draft before at
unfolding told
told-keeps draft before later at keeps = let was = keeps later refl in
    kept_from (fresh_at draft at) draft.sizes before later at (was.0, was.1, was.2 at)

-- where no slot changes, what was written stays so
pub AreWritten-keeps : (draft : Draft) (before after : History) → Keeps draft.sizes before after (λ at. ⊤)
    → AreWritten draft before → AreWritten draft after
AreWritten-keeps draft before after keeps written = record {
  stands = λ address node fresh later told. let was = keeps later told in was.2 address tt
      ∙ written.stands address node fresh was.0 was.1;
  kept = written.kept;
}
