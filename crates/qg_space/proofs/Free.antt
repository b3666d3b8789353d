-- Free slots by the slots that nothing holds. Addresses are in bytes.
use Rattle.std.proofs.Common.{◌≡◌, ℕ, suc, ◌+◌, ◌-◌, ◌<◌, ◌≤◌, Bool, true, false, List, [], ◌∷◌, ◌++◌, map, length}
use Rattle.std.proofs.Common.{get_or, Some, None, refl, sym, ap, ◌∙◌, arith, inl, inr, cond}
use Rattle.std.specs.Prelude.{◌==◌, ◌&&◌, ◌||◌, not, replicate}
use Rattle.std.specs.List.{AllWithin, HoldsAt, list_any, count_by, range_with_len}
use Rattle.std.specs.Option.{option_map}
use Rattle.std.proofs.Math.ListN.{set, length-set}
use Rattle.std.proofs.lemmas.Bool.{and_parts, or_parts, cases_Bool, not-true, true≢false}
use Rattle.std.proofs.lemmas.List.{get_or-set_other}
use Rattle.std.proofs.lemmas.List.Elements.{AllWithin-set}
use Rattle.std.proofs.lemmas.List.Folds.{list_any-append}
use Rattle.std.proofs.lemmas.List.Sums.{sum_by-cons, sum_by-set}
use Rattle.qg_super.specs.declared.sizes.Sizes.{Sizes}
use Rattle.qg_super.specs.Places.{slot_at, is_slot}
use Rattle.qg_super.proofs.Slots.{is_slot-slot_at}
use Rattle.qg_image.specs.Table.{with_number}
use Rattle.qg_image.specs.declared.element.Element.{Element}
use Rattle.qg_image.specs.Space.{least}
use Rattle.qg_space.specs.Run.{Run}
use Rattle.qg_space.specs.declared.slots.Slot.{Slot}
use Rattle.qg_space.specs.Holding.{Holding, nothing_held, is_free_slot, first_slot, free_slots, has_slot, without_slot}
use Rattle.qg_space.specs.Lying.{present_of, held_of, slots_where, is_unused, committed_slot, holding_of, IsSound}
use Rattle.qg_space.proofs.Least.{least_none, least_some}
use Rattle.qg_space.proofs.Marks.{SlotsFit, at, among, none_among, set_same, set_put, set_gone, present_committed}
use Rattle.qg_space.proofs.Marks.{held_committed, none_unused}

-- ---- one slot

pub free_at : (sizes : Sizes) (runs : List Run) (slots : List Slot) (n : ℕ) (d : Slot) → SlotsFit sizes
    → length slots ≡ sizes.slots → n < sizes.slots
    → is_free_slot (holding_of sizes runs slots) (slot_at sizes n) ≡ is_unused (get_or slots n d)
unfolding is_free_slot
free_at sizes runs slots n d fit all short =
    let present = slots_where (λ slot. slot.present) sizes 0 slots in
    let held = slots_where (λ slot. slot.held) sizes 0 slots in
    ap (λ b. b && not (list_any (at sizes n) (present ++ held))) (is_slot-slot_at sizes n fit.some short)
    ∙ ap not (list_any-append (at sizes n) present held
    ∙ ap (λ b. b || list_any (at sizes n) held) (among (λ slot. slot.present) sizes n 0 n slots d fit.some (omega arith)
    (omega arith))
    ∙ ap (λ b. (get_or slots n d).present || b) (among (λ slot. slot.held) sizes n 0 n slots d fit.some (omega arith)
    (omega arith)))

-- ---- how many

-- as many addresses of slots pass one test as slots pass another
pub count_alike : (p : ℕ → Bool) (test : Slot → Bool) (sizes : Sizes) (k : ℕ) (slots : List Slot)
    → ((i n : ℕ) (d : Slot) → n ≡ k + i → i < length slots → p (slot_at sizes n) ≡ test (get_or slots i d))
    → count_by p (map (slot_at sizes) (range_with_len k (length slots))) ≡ count_by test slots
count_alike p test sizes k [] alike = refl
count_alike p test sizes k (slot ∷ slots) alike =
    sum_by-cons (λ n. cond (p n) 1 0) (slot_at sizes k) (map (slot_at sizes) (range_with_len (k + 1) (length slots)))
    ∙ ap (λ b. cond b 1 0 + count_by p (map (slot_at sizes) (range_with_len (k + 1) (length slots))))
    (alike 0 k slot (omega arith) (omega arith))
    ∙ ap (λ n. cond (test slot) 1 0 + n)
    (count_alike p test sizes (k + 1) slots (λ i n d is short. alike (suc i) n d (omega (arith, is))
    (omega (arith, short))))
    ∙ sym (sum_by-cons (λ slot. cond (test slot) 1 0) slot slots)

pub free_counted : (sizes : Sizes) (runs : List Run) (slots : List Slot) → SlotsFit sizes → length slots ≡ sizes.slots
    → free_slots (holding_of sizes runs slots) ≡ count_by is_unused slots
unfolding free_slots
free_counted sizes runs slots fit all =
    ap (λ n. count_by (is_free_slot (holding_of sizes runs slots)) (map (slot_at sizes) (range_with_len 0 n))) (sym all)
    ∙ count_alike (is_free_slot (holding_of sizes runs slots)) is_unused sizes 0 slots
    (λ i n d is short. free_at sizes runs slots n d fit all (omega (arith, is, short, all))
    ∙ ap (λ m. is_unused (get_or slots m d)) (omega (arith, is)))

-- ---- the first

pub first_slot_at : (sizes : Sizes) (runs : List Run) (slots : List Slot) (n : ℕ) → SlotsFit sizes
    → length slots ≡ sizes.slots → n < length slots
    → HoldsAt (λ slot. is_unused slot ≡ true) slots n → AllWithin (λ slot. is_unused slot ≡ false) slots 0 n
    → first_slot (holding_of sizes runs slots) ≡ Some (slot_at sizes n)
unfolding first_slot
first_slot_at sizes runs slots n fit all short free used =
    let nothing : Slot = record { present = false; held = false } in
    ap (option_map (slot_at sizes))
    (least_some (λ k. is_free_slot (holding_of sizes runs slots) (slot_at sizes k)) 0 sizes.slots n (omega arith)
    (omega (arith, short, all))
    (free_at sizes runs slots n nothing fit all (omega (arith, short, all)) ∙ free nothing)
    (λ j low less. free_at sizes runs slots j nothing fit all (omega (arith, short, all, less))
    ∙ used j nothing low less))

pub no_first_slot : (sizes : Sizes) (runs : List Run) (slots : List Slot) → SlotsFit sizes → length slots ≡ sizes.slots
    → AllWithin (λ slot. is_unused slot ≡ false) slots 0 (length slots)
    → first_slot (holding_of sizes runs slots) ≡ None
unfolding first_slot
no_first_slot sizes runs slots fit all used =
    let nothing : Slot = record { present = false; held = false } in
    ap (option_map (slot_at sizes))
    (least_none (λ k. is_free_slot (holding_of sizes runs slots) (slot_at sizes k)) 0 sizes.slots
    (λ j low less. free_at sizes runs slots j nothing fit all (omega (arith, less))
    ∙ used j nothing low (omega (arith, less, all))))

-- ---- a slot is taken

-- what a slot is before it is taken
pub record IsUnusedAt (slots : List Slot) (n : ℕ) : Type 0 where
  pub within : n < length slots
  pub present : (d : Slot) → (get_or slots n d).present ≡ false
  pub held : (d : Slot) → (get_or slots n d).held ≡ false

pub unused_at : (sizes : Sizes) (runs : List Run) (slots : List Slot) (n : ℕ) → SlotsFit sizes
    → length slots ≡ sizes.slots → n < sizes.slots
    → is_free_slot (holding_of sizes runs slots) (slot_at sizes n) ≡ true → IsUnusedAt slots n
unused_at sizes runs slots n fit all short free =
    let parts : (d : Slot) → ((get_or slots n d).present ≡ false) × ((get_or slots n d).held ≡ false) = λ d.
    or_parts (get_or slots n d).present (get_or slots n d).held
    (not-true _ (sym (free_at sizes runs slots n d fit all short) ∙ free)) in
    record { within = omega (arith, short, all); present = λ d. (parts d).0; held = λ d. (parts d).1 }

abbrev one_if : Bool → ℕ
one_if b = cond b 1 0

unused_one : (slot : Slot) → slot.present ≡ false → slot.held ≡ false → one_if (is_unused slot) ≡ 1
unused_one slot present held = ap (λ b. one_if (not (b || slot.held))) present ∙ ap (λ b. one_if (not b)) held

used_zero : (slot : Slot) → (slot.present || slot.held) ≡ true → one_if (is_unused slot) ≡ 0
used_zero slot used = ap (λ b. one_if (not b)) used

-- one slot fewer is unused
pub count_taken : (slots : List Slot) (n : ℕ) (slot : Slot) → IsUnusedAt slots n → slot.present ≡ true
    → count_by is_unused (set slots n slot) + 1 ≡ count_by is_unused slots
count_taken slots n slot unused taken =
    let f : Slot → ℕ = λ slot. cond (is_unused slot) 1 0 in
    let sums = sum_by-set f slots n slot slot unused.within in
    let was = unused_one (get_or slots n slot) (unused.present slot) (unused.held slot) in
    let is = used_zero slot (ap (λ b. b || slot.held) taken) in
    omega (arith, sums, was, is)

pub taken_sound : (sizes : Sizes) (runs : List Run) (packed : ℕ) (slots : List Slot) (unused first n : ℕ) (slot : Slot)
    → IsSound sizes runs packed slots unused first → IsUnusedAt slots n → slot.present ≡ true
    → IsSound sizes runs packed (set slots n slot) (unused - 1) first
taken_sound sizes runs packed slots unused first n slot sound free taken = record {
  served = sound.served;
  apart = sound.apart;
  front = sound.front;
  all = length-set slots n slot ∙ sound.all;
  counted = omega (arith, sound.counted, count_taken slots n slot free taken);
  used = AllWithin-set (λ slot. is_unused slot ≡ false) slots 0 first n slot free.within
      (ap (λ b. not (b || slot.held)) taken) sound.used;
}

changed : (sizes : Sizes) (runs : List Run) (slots edited : List Slot) (present held : List ℕ)
    → slots_where (λ slot. slot.present) sizes 0 edited ≡ present
    → slots_where (λ slot. slot.held) sizes 0 edited ≡ held
    → holding_of sizes runs edited ≡ record (holding_of sizes runs slots) { slots = present; held_slots = held }
changed sizes runs slots edited present held is is' =
    ap (λ (ns : List ℕ). record (holding_of sizes runs slots) {
      slots = ns;
      held_slots = slots_where (λ slot. slot.held) sizes 0 edited;
    }) is
    ∙ ap (λ (ns : List ℕ). record (holding_of sizes runs slots) { slots = present; held_slots = ns }) is'

pub taken_holding : (sizes : Sizes) (runs : List Run) (slots : List Slot) (n : ℕ) (slot : Slot) → SlotsFit sizes
    → IsUnusedAt slots n → slot.present ≡ true → slot.held ≡ (get_or slots n slot).held
    → holding_of sizes runs (set slots n slot)
    ≡ record (holding_of sizes runs slots) {
      slots = with_number (slot_at sizes n)
          (slots_where (λ slot. slot.present) sizes 0 slots);
    }
taken_holding sizes runs slots n slot fit free taken still =
    changed sizes runs slots (set slots n slot) _ _
    (set_put (λ slot. slot.present) sizes n 0 n slots slot slot fit.some (omega arith) free.within taken
    (free.present slot))
    (set_same (λ slot. slot.held) sizes 0 n slots slot slot still)

-- ---- a slot is given back

pub record IsPresentAt (slots : List Slot) (n : ℕ) : Type 0 where
  pub within : n < length slots
  pub present : (d : Slot) → (get_or slots n d).present ≡ true

pub has_is_slot : (sizes : Sizes) (runs : List Run) (slots : List Slot) (address : ℕ) → SlotsFit sizes
    → length slots ≡ sizes.slots → has_slot (holding_of sizes runs slots) address ≡ true
    → is_slot sizes address ≡ true
has_is_slot sizes runs slots address fit all has = elim (cases_Bool (is_slot sizes address)) [
  | inl is ↦ is
  | inr not' ↦ absurd (true≢false (sym has ∙ none_among (λ slot. slot.present) sizes address 0 slots fit.some not'
      (omega (arith, all))))
]

pub has_at : (sizes : Sizes) (runs : List Run) (slots : List Slot) (address n : ℕ) (d : Slot) → SlotsFit sizes
    → length slots ≡ sizes.slots → n < sizes.slots → slot_at sizes n ≡ address
    → has_slot (holding_of sizes runs slots) address ≡ (get_or slots n d).present
has_at sizes runs slots address n d fit all short is =
    ap (has_slot (holding_of sizes runs slots)) (sym is) ∙ among (λ slot. slot.present) sizes n 0 n slots d fit.some
    (omega arith) (omega (arith, short, all))

pub present_at : (sizes : Sizes) (runs : List Run) (slots : List Slot) (address n : ℕ) → SlotsFit sizes
    → length slots ≡ sizes.slots → n < sizes.slots → slot_at sizes n ≡ address
    → has_slot (holding_of sizes runs slots) address ≡ true → IsPresentAt slots n
present_at sizes runs slots address n fit all short is has = record {
  within = omega (arith, short, all);
  present = λ d. sym (has_at sizes runs slots address n d fit all short is) ∙ has;
}

pub given_holding : (sizes : Sizes) (runs : List Run) (slots : List Slot) (address n : ℕ) (slot : Slot) → SlotsFit sizes
    → IsPresentAt slots n → slot_at sizes n ≡ address → slot.present ≡ false
    → slot.held ≡ (get_or slots n slot).held
    → holding_of sizes runs (set slots n slot) ≡ record (holding_of sizes runs slots) {
      slots = without_slot address
          (slots_where (λ slot. slot.present) sizes 0 slots);
    }
given_holding sizes runs slots address n slot fit there is given still =
    changed sizes runs slots (set slots n slot) _ _
    (set_gone (λ slot. slot.present) sizes n 0 n slots slot slot fit.some (omega arith) there.within given
    (there.present slot)
    ∙ ap (λ a. without_slot a (slots_where (λ slot. slot.present) sizes 0 slots)) is)
    (set_same (λ slot. slot.held) sizes 0 n slots slot slot still)

-- it is unused now
pub given_sound : (sizes : Sizes) (runs : List Run) (packed : ℕ) (slots : List Slot) (unused first n least : ℕ)
    (slot : Slot) → IsSound sizes runs packed slots unused first → IsPresentAt slots n → slot.present ≡ false
    → slot.held ≡ false → least ≤ first → least ≤ n → IsSound sizes runs packed (set slots n slot) (unused + 1) least
given_sound sizes runs packed slots unused first n least slot sound there given free low low' =
    let f : Slot → ℕ = λ slot. cond (is_unused slot) 1 0 in
    let sums = sum_by-set f slots n slot slot there.within in
    let was = used_zero (get_or slots n slot) (ap (λ b. b || (get_or slots n slot).held) (there.present slot)) in
    let is = unused_one slot given free in
    record {
      served = sound.served;
      apart = sound.apart;
      front = sound.front;
      all = length-set slots n slot ∙ sound.all;
      counted = omega (arith, sound.counted, sums, was, is);
      used = λ k d low'' less.
          ap is_unused (get_or-set_other slots n k slot d (λ same. omega (arith, same, less, low')))
          ∙ sound.used k d low'' (omega (arith, less, low));
    }

-- ---- a commit, and the beginning

pub committed_holding : (sizes : Sizes) (runs edited : List Run) (slots changed : List Slot)
    → present_of edited ≡ present_of runs → held_of edited ≡ present_of runs → changed ≡ map committed_slot slots
    → holding_of sizes edited changed ≡ record (holding_of sizes runs slots) {
      held_runs = present_of runs;
      held_slots = slots_where (λ slot. slot.present) sizes 0 slots;
    }
committed_holding sizes runs edited slots changed present held is =
    let now = slots_where (λ slot. slot.present) sizes 0 slots in
    let now' = ap (slots_where (λ slot. slot.present) sizes 0) is ∙ present_committed sizes 0 slots in
    let then = ap (slots_where (λ slot. slot.held) sizes 0) is ∙ held_committed sizes 0 slots in
    let Held : List Element → List Element → List ℕ → List ℕ
    → Holding = λ rs hs ns ms. record { sizes = sizes; runs = rs; held_runs = hs; slots = ns; held_slots = ms } in
    ap (λ rs. Held rs (held_of edited) (slots_where (λ slot. slot.present) sizes 0 changed)
    (slots_where (λ slot. slot.held) sizes 0 changed)) present
    ∙ ap (λ hs. Held (present_of runs) hs (slots_where (λ slot. slot.present) sizes 0 changed)
    (slots_where (λ slot. slot.held) sizes 0 changed)) held
    ∙ ap (λ ns. Held (present_of runs) (present_of runs) ns (slots_where (λ slot. slot.held) sizes 0 changed)) now'
    ∙ ap (λ ms. Held (present_of runs) (present_of runs) now ms) then

pub nothing_held_yet : (sizes : Sizes) (runs : List Run) (slots : List Slot) → runs ≡ []
    → slots ≡ replicate sizes.slots (record { present = false; held = false })
    → holding_of sizes runs slots ≡ nothing_held sizes
nothing_held_yet sizes runs slots none unused =
    let slot : Slot = record { present = false; held = false } in
    ap (λ (rs : List Run). holding_of sizes rs slots) none
    ∙ ap (λ (ss : List Slot). holding_of sizes [] ss) unused
    ∙ ap (λ (ns : List ℕ). record (nothing_held sizes) {
      slots = ns;
      held_slots = slots_where (λ slot. slot.held) sizes 0 (replicate sizes.slots slot);
    })
    (none_unused (λ slot. slot.present) sizes 0 sizes.slots slot refl)
    ∙ ap (λ (ns : List ℕ). record (nothing_held sizes) { held_slots = ns })
    (none_unused (λ slot. slot.held) sizes 0 sizes.slots slot refl)

pub free_is_slot : (holding : Holding) (address : ℕ) → is_free_slot holding address ≡ true
    → is_slot holding.sizes address ≡ true
unfolding is_free_slot
free_is_slot holding address free =
    (and_parts (is_slot holding.sizes address)
    (not (list_any (λ slot. slot == address) (holding.slots ++ holding.held_slots))) free).0
