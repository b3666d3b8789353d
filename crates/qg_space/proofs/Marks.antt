-- The node slots that pass a test, ascending. Addresses are in bytes.
use Rattle.std.proofs.Common.{◌≡◌, ℕ, zero, suc, ◌+◌, ◌*◌, ◌<◌, ◌≤◌, Bool, true, false, List, [], ◌∷◌, map, length}
use Rattle.std.proofs.Common.{get_or, refl, sym, ap, subst, ◌∙◌, arith, inl, inr, cond}
use Rattle.std.specs.Prelude.{◌==◌, ◌||◌, not, nat_lt, replicate}
use Rattle.std.specs.List.{list_any}
use Rattle.std.proofs.Math.ListN.{set}
use Rattle.std.proofs.Math.Nat.{mul-le-mul_left}
use Rattle.std.proofs.lemmas.Bool.{or_left, cases_Bool, cases_lt, cond-true, cond-false, eq-eqb, ne_eqb, lt-ltb, le-ltb}
use Rattle.std.proofs.lemmas.Bool.{true≢false}
use Rattle.qg_super.specs.declared.sizes.Sizes.{Sizes}
use Rattle.qg_super.specs.Places.{slot_at, is_slot, is_served}
use Rattle.qg_super.proofs.Served.{SizesFit-is_served}
use Rattle.qg_super.proofs.Slots.{is_slot-slot_at}
use Rattle.qg_image.specs.Table.{with_number}
use Rattle.qg_space.specs.declared.slots.Slot.{Slot}
use Rattle.qg_space.specs.Holding.{without_slot}
use Rattle.qg_space.specs.Lying.{slots_where, committed_slot}

-- ---- places

-- what bounds the slots of an image that is served
pub record SlotsFit (sizes : Sizes) : Type 0 where
  pub some : 0 < sizes.nodesize
  pub within : sizes.slots * sizes.nodesize ≤ 66060288

pub SlotsFit-is_served : (sizes : Sizes) → is_served sizes ≡ true → SlotsFit sizes
SlotsFit-is_served sizes served = let fits = SizesFit-is_served sizes served in
    record { some = omega (arith, fits.least); within = fits.area }

-- slots ascend
pub slots_rise : (sizes : Sizes) (j k : ℕ) → 0 < sizes.nodesize → j < k → slot_at sizes j < slot_at sizes k
slots_rise sizes j k some order =
    let next : suc j ≤ k = omega arith in
    let product = mul-le-mul_left sizes.nodesize next in
    omega (arith, product)

pub slots_apart : (sizes : Sizes) (j k : ℕ) → 0 < sizes.nodesize → (j ≡ k → ⊥) → slot_at sizes j ≡ slot_at sizes k → ⊥
slots_apart sizes j k some differ same = elim (cases_lt j k) [
  | inl less ↦ omega (arith, slots_rise sizes j k some less, same)
  | inr not ↦ elim (cases_lt k j) [
    | inl more ↦ omega (arith, slots_rise sizes k j some more, same)
    | inr not' ↦ differ (omega (arith, not, not'))
  ]
]

-- ---- membership

abbrev pub at : Sizes → ℕ → ℕ → Bool
at sizes k address = address == slot_at sizes k

where_first : (test : Slot → Bool) (sizes : Sizes) (k : ℕ) (slot : Slot) (slots : List Slot) → test slot ≡ true
    → slots_where test sizes k (slot ∷ slots) ≡ slot_at sizes k ∷ slots_where test sizes (k + 1) slots
where_first test sizes k slot slots passes = cond-true (test slot) _ _ passes

where_skips : (test : Slot → Bool) (sizes : Sizes) (k : ℕ) (slot : Slot) (slots : List Slot) → test slot ≡ false
    → slots_where test sizes k (slot ∷ slots) ≡ slots_where test sizes (k + 1) slots
where_skips test sizes k slot slots fails = cond-false (test slot) _ _ fails

-- slots from a number on are none of those before
none_before : (test : Slot → Bool) (sizes : Sizes) (n k : ℕ) (slots : List Slot) → 0 < sizes.nodesize → n < k
    → list_any (at sizes n) (slots_where test sizes k slots) ≡ false
none_before test sizes n k [] some less = refl
none_before test sizes n k (slot ∷ slots) some less =
    let rest = none_before test sizes n (k + 1) slots some (omega arith) in
    elim (cases_Bool (test slot)) [
      | inl passes ↦
          ap (list_any (at sizes n)) (where_first test sizes k slot slots passes)
          ∙ ap (λ b. b || list_any (at sizes n) (slots_where test sizes (k + 1) slots))
          (ne_eqb (slot_at sizes k) (slot_at sizes n)
          (slots_apart sizes k n some (λ same. omega (arith, same, less))))
          ∙ rest
      | inr fails ↦ ap (list_any (at sizes n)) (where_skips test sizes k slot slots fails) ∙ rest
    ]

-- a slot is among those that pass where it passes
pub among : (test : Slot → Bool) (sizes : Sizes) (n k i : ℕ) (slots : List Slot) (d : Slot) → 0 < sizes.nodesize
    → n ≡ k + i → i < length slots
    → list_any (at sizes n) (slots_where test sizes k slots) ≡ test (get_or slots i d)
among test sizes n k i [] d some is short = absurd (omega (arith, short))
among test sizes n k zero (slot ∷ slots) d some is short =
    let here : slot_at sizes k ≡ slot_at sizes n = ap (slot_at sizes) (omega (arith, is)) in
    elim (cases_Bool (test slot)) [
      | inl passes ↦
          ap (list_any (at sizes n)) (where_first test sizes k slot slots passes)
          ∙ or_left _ _ (eq-eqb (slot_at sizes k) (slot_at sizes n) here) ∙ sym passes
      | inr fails ↦
          ap (list_any (at sizes n)) (where_skips test sizes k slot slots fails)
          ∙ none_before test sizes n (k + 1) slots some (omega (arith, is)) ∙ sym fails
    ]
among test sizes n k (suc i) (slot ∷ slots) d some is short =
    let rest = among test sizes n (k + 1) i slots d some (omega (arith, is)) (omega (arith, short)) in
    elim (cases_Bool (test slot)) [
      | inl passes ↦
          ap (list_any (at sizes n)) (where_first test sizes k slot slots passes)
          ∙ ap (λ b. b || list_any (at sizes n) (slots_where test sizes (k + 1) slots))
          (ne_eqb (slot_at sizes k) (slot_at sizes n)
          (slots_apart sizes k n some (λ same. omega (arith, same, is))))
          ∙ rest
      | inr fails ↦ ap (list_any (at sizes n)) (where_skips test sizes k slot slots fails) ∙ rest
    ]

-- what is no slot is not among them
pub none_among : (test : Slot → Bool) (sizes : Sizes) (address k : ℕ) (slots : List Slot) → 0 < sizes.nodesize
    → is_slot sizes address ≡ false → k + length slots ≤ sizes.slots
    → list_any (λ slot. slot == address) (slots_where test sizes k slots) ≡ false
none_among test sizes address k [] some not bound = refl
none_among test sizes address k (slot ∷ slots) some not bound =
    let rest = none_among test sizes address (k + 1) slots some not (omega (arith, bound)) in
    let other : (slot_at sizes k == address) ≡ false = ne_eqb (slot_at sizes k) address
    (λ same. true≢false (sym (ap (is_slot sizes) (sym same) ∙ is_slot-slot_at sizes k some (omega (arith, bound)))
    ∙ not)) in
    elim (cases_Bool (test slot)) [
      | inl passes ↦
          ap (list_any (λ slot. slot == address)) (where_first test sizes k slot slots passes)
          ∙ ap (λ b. b || list_any (λ slot. slot == address) (slots_where test sizes (k + 1) slots)) other ∙ rest
      | inr fails ↦ ap (list_any (λ slot. slot == address)) (where_skips test sizes k slot slots fails) ∙ rest
    ]

-- ---- a slot is changed

-- no change where the slot passes as before
pub set_same : (test : Slot → Bool) (sizes : Sizes) (k i : ℕ) (slots : List Slot) (new d : Slot)
    → test new ≡ test (get_or slots i d) → slots_where test sizes k (set slots i new) ≡ slots_where test sizes k slots
set_same test sizes k i [] new d same = refl
set_same test sizes k zero (slot ∷ slots) new d same =
    ap (λ b. cond b (slot_at sizes k ∷ slots_where test sizes (k + 1) slots) (slots_where test sizes (k + 1) slots))
    same
set_same test sizes k (suc i) (slot ∷ slots) new d same =
    ap (λ rest. cond (test slot) (slot_at sizes k ∷ rest) rest) (set_same test sizes (k + 1) i slots new d same)

-- each of some numbers is a lower bound's or above it
abbrev AreAbove : ℕ → List ℕ → Type 0
AreAbove low [] = Unit {0}
AreAbove low (n ∷ ns) = (low < n) × AreAbove low ns

where_above : (test : Slot → Bool) (sizes : Sizes) (n k : ℕ) (slots : List Slot) → 0 < sizes.nodesize → n < k
    → AreAbove (slot_at sizes n) (slots_where test sizes k slots)
where_above test sizes n k [] some less = tt
where_above test sizes n k (slot ∷ slots) some less =
    let rest = where_above test sizes n (k + 1) slots some (omega arith) in
    elim (cases_Bool (test slot)) [
      | inl passes ↦ subst (AreAbove (slot_at sizes n)) (sym (where_first test sizes k slot slots passes))
          (slots_rise sizes n k some less, rest)
      | inr fails ↦ subst (AreAbove (slot_at sizes n)) (sym (where_skips test sizes k slot slots fails)) rest
    ]

with_first : (n : ℕ) (ns : List ℕ) → AreAbove n ns → with_number n ns ≡ n ∷ ns
with_first n [] above = refl
with_first n (m ∷ ms) above = cond-true (nat_lt n m) _ _ (lt-ltb n m above.0)

with_later : (n m : ℕ) (ms : List ℕ) → m < n → with_number n (m ∷ ms) ≡ m ∷ with_number n ms
with_later n m ms less = cond-false (nat_lt n m) _ _ (le-ltb n m (omega arith))
    ∙ cond-false (n == m) _ _ (ne_eqb n m (λ same. omega (arith, same, less)))

-- a slot is put among those that pass
pub set_put : (test : Slot → Bool) (sizes : Sizes) (n k i : ℕ) (slots : List Slot) (new d : Slot) → 0 < sizes.nodesize
    → n ≡ k + i → i < length slots → test new ≡ true
    → test (get_or slots i d) ≡ false → slots_where test sizes k (set slots i new) ≡ with_number (slot_at sizes n)
    (slots_where test sizes k slots)
set_put test sizes n k i [] new d some is short passes failed = absurd (omega (arith, short))
set_put test sizes n k zero (slot ∷ slots) new d some is short passes failed =
    let here : k ≡ n = omega (arith, is) in
    where_first test sizes k new slots passes
    ∙ ap (λ m. slot_at sizes m ∷ slots_where test sizes (k + 1) slots) here
    ∙ sym (ap (with_number (slot_at sizes n)) (where_skips test sizes k slot slots failed)
    ∙ with_first (slot_at sizes n) (slots_where test sizes (k + 1) slots)
    (where_above test sizes n (k + 1) slots some (omega (arith, is))))
set_put test sizes n k (suc i) (slot ∷ slots) new d some is short passes failed =
    let rest = set_put test sizes n (k + 1) i slots new d some (omega (arith, is)) (omega (arith, short)) passes
    failed in
    elim (cases_Bool (test slot)) [
      | inl also ↦
          where_first test sizes k slot (set slots i new) also ∙ ap (λ later. slot_at sizes k ∷ later) rest
          ∙ sym (ap (with_number (slot_at sizes n)) (where_first test sizes k slot slots also)
          ∙ with_later (slot_at sizes n) (slot_at sizes k) (slots_where test sizes (k + 1) slots)
          (slots_rise sizes k n some (omega (arith, is))))
      | inr fails ↦ where_skips test sizes k slot (set slots i new) fails ∙ rest
          ∙ sym (ap (with_number (slot_at sizes n)) (where_skips test sizes k slot slots fails))
    ]

without_none : (n : ℕ) (ns : List ℕ) → AreAbove n ns → without_slot n ns ≡ ns
without_none n [] above = refl
without_none n (m ∷ ms) above =
    cond-true (not (m == n)) (m ∷ without_slot n ms) (without_slot n ms)
    (ap not (ne_eqb m n (λ same. omega (arith, same, above.0)))) ∙ ap (λ rest. m ∷ rest) (without_none n ms above.1)

-- a slot is taken from those that pass
pub set_gone : (test : Slot → Bool) (sizes : Sizes) (n k i : ℕ) (slots : List Slot) (new d : Slot) → 0 < sizes.nodesize
    → n ≡ k + i → i < length slots → test new ≡ false
    → test (get_or slots i d) ≡ true → slots_where test sizes k (set slots i new) ≡ without_slot (slot_at sizes n)
    (slots_where test sizes k slots)
set_gone test sizes n k i [] new d some is short fails passed = absurd (omega (arith, short))
set_gone test sizes n k zero (slot ∷ slots) new d some is short fails passed =
    let here : slot_at sizes k ≡ slot_at sizes n = ap (slot_at sizes) (omega (arith, is)) in
    let later = slots_where test sizes (k + 1) slots in
    where_skips test sizes k new slots fails
    ∙ sym (ap (without_slot (slot_at sizes n)) (where_first test sizes k slot slots passed)
    ∙ cond-false (not (slot_at sizes k == slot_at sizes n)) (slot_at sizes k ∷ without_slot (slot_at sizes n) later)
    (without_slot (slot_at sizes n) later) (ap not (eq-eqb (slot_at sizes k) (slot_at sizes n) here))
    ∙ without_none (slot_at sizes n) later (where_above test sizes n (k + 1) slots some (omega (arith, is))))
set_gone test sizes n k (suc i) (slot ∷ slots) new d some is short fails passed =
    let rest = set_gone test sizes n (k + 1) i slots new d some (omega (arith, is)) (omega (arith, short)) fails
    passed in
    let later = slots_where test sizes (k + 1) slots in
    let other = ne_eqb (slot_at sizes k) (slot_at sizes n)
    (slots_apart sizes k n some (λ same. omega (arith, same, is))) in
    elim (cases_Bool (test slot)) [
      | inl also ↦
          where_first test sizes k slot (set slots i new) also ∙ ap (λ given. slot_at sizes k ∷ given) rest
          ∙ sym (ap (without_slot (slot_at sizes n)) (where_first test sizes k slot slots also)
          ∙ cond-true (not (slot_at sizes k == slot_at sizes n))
          (slot_at sizes k ∷ without_slot (slot_at sizes n) later) (without_slot (slot_at sizes n) later)
          (ap not other))
      | inr skips ↦ where_skips test sizes k slot (set slots i new) skips ∙ rest
          ∙ sym (ap (without_slot (slot_at sizes n)) (where_skips test sizes k slot slots skips))
    ]

-- ---- a commit

pub present_committed : (sizes : Sizes) (k : ℕ) (slots : List Slot)
    → slots_where (λ slot. slot.present) sizes k (map committed_slot slots) ≡ slots_where (λ slot. slot.present) sizes k
    slots
present_committed sizes k [] = refl
present_committed sizes k (slot ∷ slots) = ap (λ rest. cond slot.present (slot_at sizes k ∷ rest) rest)
    (present_committed sizes (k + 1) slots)

pub held_committed : (sizes : Sizes) (k : ℕ) (slots : List Slot)
    → slots_where (λ slot. slot.held) sizes k (map committed_slot slots) ≡ slots_where (λ slot. slot.present) sizes k
    slots
held_committed sizes k [] = refl
held_committed sizes k (slot ∷ slots) = ap (λ rest. cond slot.present (slot_at sizes k ∷ rest) rest)
    (held_committed sizes (k + 1) slots)

-- ---- nothing is held

pub none_unused : (test : Slot → Bool) (sizes : Sizes) (k n : ℕ) (slot : Slot) → test slot ≡ false
    → slots_where test sizes k (replicate n slot) ≡ []
none_unused test sizes k zero slot fails = refl
none_unused test sizes k (suc n) slot fails = where_skips test sizes k slot (replicate n slot) fails
    ∙ none_unused test sizes (k + 1) n slot fails
