-- How many slots are free, before and after a change. Addresses are in bytes.
use Rattle.std.proofs.Common.{◌≡◌, ℕ, zero, suc, ◌+◌, ◌-◌, ◌/◌, ◌<◌, ◌≤◌, Bool, true, false, List, [], ◌∷◌, ◌++◌, map}
use Rattle.std.proofs.Common.{Option, None, Some, refl, sym, ap, subst, ◌∙◌, arith, inl, inr, cond}
use Rattle.std.specs.Prelude.{◌↔◌, ◌==◌, ◌&&◌, ◌||◌, not}
use Rattle.std.specs.List.{Contains, list_any, count_by, range_with_len}
use Rattle.std.specs.Option.{option_map}
use Rattle.std.proofs.lemmas.Bool.{and_parts, and_from, and_right, cases_Bool, cases_eq, eq-eqb, ne_eqb, not-true}
use Rattle.std.proofs.lemmas.Bool.{false_from_ne_true, true≢false, or_left}
use Rattle.std.proofs.lemmas.Option.{none-some}
use Rattle.std.proofs.lemmas.List.Elements.{Contains-append_left, Contains-append_right, Contains-append_cases}
use Rattle.std.proofs.lemmas.List.Folds.{list_any-append}
use Rattle.std.proofs.lemmas.List.Sums.{sum_by-cons}
use Rattle.qg_super.specs.Places.{slots_begin, slot_at, is_slot, is_served}
use Rattle.qg_super.proofs.Slots.{IsSlotAt-is_slot}
use Rattle.qg_image.specs.Table.{with_number}
use Rattle.qg_image.specs.declared.element.Element.{Element}
use Rattle.qg_image.specs.Space.{least}
use Rattle.qg_image.proofs.Contained.{contains_here, contains_later, contains_cases}
use Rattle.qg_space.specs.Holding.{Holding, is_free_slot, first_slot, free_slots, without_slot}
use Rattle.qg_space.proofs.Least.{none_passes}
use Rattle.qg_space.proofs.Marks.{SlotsFit-is_served, slots_apart}
use Rattle.qg_space.proofs.Members.{any_same, one_passes, passes_one, Contains-with_number, Contains-without_slot}
use Rattle.qg_space.proofs.Free.{free_is_slot}

-- ---- counts over numbers

count_first : (p : ℕ → Bool) (f : ℕ → ℕ) (from n : ℕ)
    → count_by p (map f (range_with_len from (suc n))) ≡ cond (p (f from)) 1 0 + count_by p
    (map f (range_with_len (from + 1) n))
count_first p f from n = sum_by-cons (λ m. cond (p m) 1 0) (f from) (map f (range_with_len (from + 1) n))

count_none : (p : ℕ → Bool) (f : ℕ → ℕ) (from n : ℕ) → ((k : ℕ) → from ≤ k → k < from + n → p (f k) ≡ false)
    → count_by p (map f (range_with_len from n)) ≡ 0
count_none p f from zero none = refl
count_none p f from (suc n) none =
    let head = count_first p f from n ∙ ap (λ b. cond b 1 0 + count_by p (map f (range_with_len (from + 1) n)))
    (none from (omega arith) (omega arith)) in
    let later = count_none p f (from + 1) n (λ k low less. none k (omega (arith, low)) (omega (arith, less))) in
    omega (arith, head, later)

count_same : (p q : ℕ → Bool) (f : ℕ → ℕ) (from n : ℕ) → ((k : ℕ) → from ≤ k → k < from + n → q (f k) ≡ p (f k))
    → count_by q (map f (range_with_len from n)) ≡ count_by p (map f (range_with_len from n))
count_same p q f from zero same = refl
count_same p q f from (suc n) same =
    count_first q f from n ∙ ap (λ b. cond b 1 0 + count_by q (map f (range_with_len (from + 1) n)))
    (same from (omega arith) (omega arith))
    ∙ ap (λ m. cond (p (f from)) 1 0 + m)
    (count_same p q f (from + 1) n (λ k low less. same k (omega (arith, low)) (omega (arith, less))))
    ∙ sym (count_first p f from n)

-- where all but one number pass alike, and that one no longer does, one fewer passes
count_but_one : (p q : ℕ → Bool) (f : ℕ → ℕ) (from n at : ℕ) → from ≤ at → at < from + n → p (f at) ≡ true
    → q (f at) ≡ false
    → ((k : ℕ) → from ≤ k → k < from + n → (k ≡ at → ⊥) → q (f k) ≡ p (f k))
    → count_by q (map f (range_with_len from n)) + 1 ≡ count_by p (map f (range_with_len from n))
count_but_one p q f from zero at low less was is same = absurd (omega (arith, low, less))
count_but_one p q f from (suc n) at low less was is same = elim (cases_eq from at) [
  | inl here ↦
      let later = count_same p q f (from + 1) n (λ k low' less'. same k (omega (arith, low')) (omega (arith, less'))
      (λ k_at. omega (arith, low', k_at, here))) in
      let gone = count_first q f from n
      ∙ ap (λ m. cond (q (f m)) 1 0 + count_by q (map f (range_with_len (from + 1) n))) here
      ∙ ap (λ b. cond b 1 0 + count_by q (map f (range_with_len (from + 1) n))) is in
      let there = count_first p f from n
      ∙ ap (λ m. cond (p (f m)) 1 0 + count_by p (map f (range_with_len (from + 1) n))) here
      ∙ ap (λ b. cond b 1 0 + count_by p (map f (range_with_len (from + 1) n))) was in
      omega (arith, later, gone, there)
  | inr other ↦
      let later = count_but_one p q f (from + 1) n at (omega (arith, low, other)) (omega (arith, less)) was is
      (λ k low' less' differ. same k (omega (arith, low')) (omega (arith, less')) differ) in
      let head = count_first q f from n ∙ ap (λ b. cond b 1 0 + count_by q (map f (range_with_len (from + 1) n)))
      (same from (omega arith) (omega arith) other) in
      omega (arith, later, head, count_first p f from n)
]

count_more : (p q : ℕ → Bool) (ns : List ℕ) → ((n : ℕ) → p n ≡ true → q n ≡ true) → count_by p ns ≤ count_by q ns
count_more p q [] more = omega arith
count_more p q (n ∷ ns) more =
    let rest = count_more p q ns more in
    let was = sum_by-cons (λ m. cond (p m) 1 0) n ns in
    let is = sum_by-cons (λ m. cond (q m) 1 0) n ns in
    elim (cases_Bool (p n)) [
      | inl passes ↦ omega (
        arith,
        rest,
        was,
        is,
        ap (λ b. cond b 1 0 + count_by p ns) passes,
        ap
            (λ b. cond b 1 0 + count_by q ns) (more n passes),
      )
      | inr fails ↦ omega (arith, rest, was, is, ap (λ b. cond b 1 0 + count_by p ns) fails)
    ]

-- ---- none and some

found_none : (holding : Holding) (found : Option ℕ)
    → least (λ k. is_free_slot holding (slot_at holding.sizes k)) 0 holding.sizes.slots ≡ found
    → option_map (slot_at holding.sizes) found ≡ None
    → found ≡ None
found_none holding None is none = refl
found_none holding (Some k) is none = absurd (none-some (slot_at holding.sizes k) (sym none))

-- where no slot is the first free one, none is free
pub free_slots-none : (holding : Holding) → first_slot holding ≡ None → free_slots holding ≡ 0
unfolding first_slot free_slots
free_slots-none holding none =
    let found = least (λ k. is_free_slot holding (slot_at holding.sizes k)) 0 holding.sizes.slots in
    count_none (is_free_slot holding) (slot_at holding.sizes) 0 holding.sizes.slots
    (none_passes (λ k. is_free_slot holding (slot_at holding.sizes k)) 0 holding.sizes.slots
    (found_none holding found refl none))

-- where a slot is free, there is a first free one
pub first_slot-some : (holding : Holding) → 0 < free_slots holding → (address : ℕ) × (first_slot holding ≡ Some address)
first_slot-some holding some = at (first_slot holding) refl where
  at : (found : Option ℕ) → first_slot holding ≡ found → (address : ℕ) × (first_slot holding ≡ Some address)
  at None is = absurd (omega (arith, some, free_slots-none holding is))
  at (Some address) is = (address, is)

-- ---- a slot is taken

with_one : (a : ℕ) (slots : List ℕ) (m : ℕ) → Contains (with_number a slots) m ↔ Contains (a ∷ slots) m
with_one a slots m = (into, back) where
  into : Contains (with_number a slots) m → Contains (a ∷ slots) m
  into has = elim ((Contains-with_number a slots m).0 has) [
    | inl is ↦ subst (λ n. Contains (n ∷ slots) m) is (contains_here m slots)
    | inr other ↦ contains_later a slots m other
  ]

  back : Contains (a ∷ slots) m → Contains (with_number a slots) m
  back has = elim (contains_cases a slots m has) [
    | inl is ↦ (Contains-with_number a slots m).1 (inl (sym is))
    | inr other ↦ (Contains-with_number a slots m).1 (inr other)
  ]

-- held by more, a slot is free where it was and is not the one more
free_with : (holding : Holding) (a m : ℕ) → is_free_slot (record holding { slots = with_number a holding.slots }) m
    ≡ (is_slot holding.sizes m && not ((a == m) || list_any (λ slot. slot == m) (holding.slots ++ holding.held_slots)))
unfolding is_free_slot
free_with holding a m =
    let there : ℕ → Bool = λ slot. slot == m in
    ap (λ b. is_slot holding.sizes m && not b)
    (list_any-append there (with_number a holding.slots) holding.held_slots
    ∙ ap (λ b. b || list_any there holding.held_slots) (any_same there (with_number a holding.slots) (a ∷ holding.slots)
    (with_one a holding.slots))
    ∙ or_assoc (a == m) (list_any there holding.slots) (list_any there holding.held_slots)
    ∙ ap (λ b. (a == m) || b) (sym (list_any-append there holding.slots holding.held_slots)))
  where
    or_assoc : (x y z : Bool) → ((x || y) || z) ≡ (x || (y || z))
    or_assoc true y z = refl
    or_assoc false y z = refl

other_same : (holding : Holding) (a m : ℕ) → (m ≡ a → ⊥)
    → is_free_slot (record holding { slots = with_number a holding.slots }) m ≡ is_free_slot holding m
unfolding is_free_slot
other_same holding a m differ =
    free_with holding a m
    ∙ ap (λ b. is_slot holding.sizes m && not (b || list_any (λ slot. slot == m) (holding.slots ++ holding.held_slots)))
    (ne_eqb a m (λ same. differ (sym same)))

itself_taken : (holding : Holding) (a : ℕ) → is_free_slot (record holding { slots = with_number a holding.slots }) a
    ≡ false
itself_taken holding a =
    free_with holding a a
    ∙ and_right (is_slot holding.sizes a) _
    (ap not (or_left (a == a) (list_any (λ slot. slot == a) (holding.slots ++ holding.held_slots))
    (eq-eqb a a refl)))

-- one slot fewer is free after a free one is taken
pub free_slots-taken : (holding : Holding) (address : ℕ) → is_served holding.sizes ≡ true
    → is_free_slot holding address ≡ true
    → free_slots (record holding { slots = with_number address holding.slots }) + 1 ≡ free_slots holding
unfolding free_slots
free_slots-taken holding address served free =
    let fit = SlotsFit-is_served holding.sizes served in
    let slot = IsSlotAt-is_slot holding.sizes address (free_is_slot holding address free) in
    let n = (address - slots_begin) / holding.sizes.nodesize in
    let after : Holding = record holding { slots = with_number address holding.slots } in
    count_but_one (is_free_slot holding) (is_free_slot after) (slot_at holding.sizes) 0 holding.sizes.slots n
    (omega arith) (omega (arith, slot.number))
    (ap (is_free_slot holding) slot.there ∙ free) (ap (is_free_slot after) slot.there ∙ itself_taken holding address)
    (λ k low less differ. other_same holding address (slot_at holding.sizes k)
    (λ same. slots_apart holding.sizes k n fit.some differ (same ∙ sym slot.there)))

-- ---- a slot is given back, and a commit

fewer_any : (p : ℕ → Bool) (xs ys : List ℕ) → ((m : ℕ) → Contains ys m → Contains xs m) → list_any p xs ≡ false
    → list_any p ys ≡ false
fewer_any p xs ys within none = false_from_ne_true (list_any p ys) (λ some. let found = one_passes p ys some in
    true≢false (sym (passes_one p xs found.0 (within found.0 found.1) found.2) ∙ none))

-- where less is held, as much is free and maybe more
more_free : (holding : Holding) (slots held : List ℕ)
    → ((m : ℕ) → Contains (slots ++ held) m → Contains (holding.slots ++ holding.held_slots) m)
    → free_slots holding ≤ free_slots (record holding { slots = slots; held_slots = held })
unfolding free_slots is_free_slot
more_free holding slots held within =
    let after : Holding = record holding { slots = slots; held_slots = held } in
    count_more (is_free_slot holding) (is_free_slot after)
    (map (slot_at holding.sizes) (range_with_len 0 holding.sizes.slots))
    (λ m free.
    let there : ℕ → Bool = λ slot. slot == m in
    let parts = and_parts (is_slot holding.sizes m) (not (list_any there (holding.slots ++ holding.held_slots))) free in
    and_from (is_slot holding.sizes m) (not (list_any there (slots ++ held))) parts.0
    (ap not (fewer_any there (holding.slots ++ holding.held_slots) (slots ++ held) within (not-true _ parts.1))))

-- no slot fewer is free after one is given back
pub free_slots-given : (holding : Holding) (address : ℕ)
    → free_slots holding ≤ free_slots (record holding { slots = without_slot address holding.slots })
free_slots-given holding address =
    more_free holding (without_slot address holding.slots) holding.held_slots
    (λ m has. elim (Contains-append_cases (without_slot address holding.slots) holding.held_slots m has) [
      | inl here ↦ Contains-append_left holding.slots holding.held_slots m
          ((Contains-without_slot address holding.slots m).0 here).0
      | inr held ↦ Contains-append_right holding.slots holding.held_slots m held
    ])

-- nor after a commit
pub free_slots-committed : (holding : Holding) (runs : List Element)
    → free_slots holding ≤ free_slots (record holding { held_runs = runs; held_slots = holding.slots })
unfolding free_slots is_free_slot
free_slots-committed holding runs =
    more_free holding holding.slots holding.slots
    (λ m has. elim (Contains-append_cases holding.slots holding.slots m has) [
      | inl here ↦ Contains-append_left holding.slots holding.held_slots m here
      | inr also ↦ Contains-append_left holding.slots holding.held_slots m also
    ])
