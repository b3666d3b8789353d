-- Lists of free slots. Addresses are in bytes.
use Rattle.std.proofs.Common.{◌≡◌, ℕ, zero, suc, ◌+◌, ◌<◌, ◌≤◌, Bool, true, false, min, List, [], ◌∷◌, ◌++◌, map}
use Rattle.std.proofs.Common.{length, get_or, take, drop, refl, sym, ap, subst, ◌∙◌, arith, cond}
use Rattle.std.specs.Prelude.{◌==◌}
use Rattle.std.specs.List.{AllByRecursion, AllWithin, IsDistinct, list_all, filter, range_with_len}
use Rattle.std.proofs.lemmas.Bool.{and_from, and_parts, ne_eqb}
use Rattle.std.proofs.lemmas.List.{take_more, take_at, take_all, take-append-drop, get_or-take, length-take}
use Rattle.std.proofs.lemmas.List.{length-take-le}
use Rattle.std.proofs.lemmas.List.FromFn.{length-map-range_with_len}
use Rattle.std.proofs.lemmas.List.Sums.{length-filter, count_by-le-length}
use Rattle.std.proofs.lemmas.Map.Keys.{IsDistinct-cons, IsDistinct-from_apart, apart_from_distinct}
use Rattle.qg_super.specs.declared.sizes.Sizes.{Sizes}
use Rattle.qg_super.specs.Places.{slot_at}
use Rattle.qg_space.specs.Run.{Run}
use Rattle.qg_space.specs.declared.slots.Slot.{Slot}
use Rattle.qg_space.specs.Holding.{Holding, is_free_slot, free_list, free_slots}
use Rattle.qg_space.specs.Lying.{slots_where, is_unused, holding_of}
use Rattle.qg_space.proofs.Marks.{SlotsFit, slots_apart}
use Rattle.qg_space.proofs.Free.{free_at}

-- ---- addresses of slots that pass a test

-- a slot's own address, if it passes
abbrev pub one_where : (Slot → Bool) → Sizes → ℕ → Slot → List ℕ
one_where test sizes k slot = cond (test slot) (slot_at sizes k ∷ []) []

kept_in_front : (b : Bool) (a : ℕ) (xs ys : List ℕ) → cond b (a ∷ (xs ++ ys)) (xs ++ ys) ≡ cond b (a ∷ xs) xs ++ ys
kept_in_front true a xs ys = refl
kept_in_front false a xs ys = refl

where-append : (test : Slot → Bool) (sizes : Sizes) (k : ℕ) (xs ys : List Slot)
    → slots_where test sizes k (xs ++ ys) ≡ slots_where test sizes k xs ++ slots_where test sizes (k + length xs) ys
where-append test sizes k [] ys = let same : k ≡ k + 0 = omega arith in ap (λ n. slots_where test sizes n ys) same
where-append test sizes k (x ∷ xs) ys =
    let same : k + 1 + length xs ≡ k + length (x ∷ xs) = omega arith in
    ap (λ zs. cond (test x) (slot_at sizes k ∷ zs) zs) (where-append test sizes (k + 1) xs ys
    ∙ ap (λ n. slots_where test sizes (k + 1) xs ++ slots_where test sizes n ys) same)
    ∙ kept_in_front (test x) (slot_at sizes k) (slots_where test sizes (k + 1) xs)
    (slots_where test sizes (k + length (x ∷ xs)) ys)

-- one slot more
pub where_more : (test : Slot → Bool) (sizes : Sizes) (slots : List Slot) (n : ℕ) (slot : Slot) → n < length slots
    → slot ≡ get_or slots n slot
    → slots_where test sizes 0 (take (n + 1) slots) ≡ slots_where test sizes 0 (take n slots)
    ++ one_where test sizes n slot
where_more test sizes slots n slot short is =
    let there : 0 + length (take n slots) ≡ n = omega (arith, length-take-le n slots) in
    ap (slots_where test sizes 0) (take_more slots n slot short ∙ ap (λ s. take n slots ++ s ∷ []) (sym is))
    ∙ where-append test sizes 0 (take n slots) (slot ∷ [])
    ∙ ap (λ k. slots_where test sizes 0 (take n slots) ++ slots_where test sizes k (slot ∷ [])) there

-- none passes
none_where : (test : Slot → Bool) (sizes : Sizes) (k : ℕ) (slots : List Slot)
    → ((j : ℕ) (d : Slot) → j < length slots → test (get_or slots j d) ≡ false) → slots_where test sizes k slots ≡ []
none_where test sizes k [] fails = refl
none_where test sizes k (slot ∷ slots) fails =
    ap (λ b. cond b (slot_at sizes k ∷ slots_where test sizes (k + 1) slots) (slots_where test sizes (k + 1) slots))
    (fails 0 slot (omega arith))
    ∙ none_where test sizes (k + 1) slots (λ j d short. fails (suc j) d (omega (arith, short)))

-- none lies in front of a number
pub none_in_front : (sizes : Sizes) (slots : List Slot) (n : ℕ) → AllWithin (λ slot. is_unused slot ≡ false) slots 0 n
    → slots_where is_unused sizes 0 (take n slots) ≡ []
none_in_front sizes slots n used = none_where is_unused sizes 0 (take n slots) (λ j d short.
    let inside : j < n = omega (arith, length-take n slots) in
    subst (λ slot. is_unused slot ≡ false) (sym (get_or-take n slots j d inside)) (used j d (omega arith) inside))

-- those of the first slots come first
pub where_in_front : (test : Slot → Bool) (sizes : Sizes) (slots : List Slot) (n count : ℕ)
    → length (slots_where test sizes 0 (take n slots)) ≡ count
    → slots_where test sizes 0 (take n slots) ≡ take count (slots_where test sizes 0 slots)
where_in_front test sizes slots n count many =
    sym (take_at (slots_where test sizes 0 (take n slots)) _ count many)
    ∙ ap (take count) (sym (where-append test sizes 0 (take n slots) (drop n slots))
    ∙ ap (slots_where test sizes 0) (take-append-drop n slots))

-- all slots were looked at, and there were no more
pub where_of_all : (test : Slot → Bool) (sizes : Sizes) (slots : List Slot) (n count : ℕ) → length slots ≤ n
    → length (slots_where test sizes 0 (take n slots)) ≤ count
    → slots_where test sizes 0 (take n slots) ≡ take count (slots_where test sizes 0 slots)
where_of_all test sizes slots n count all few =
    sym (take_all count (slots_where test sizes 0 (take n slots)) few)
    ∙ ap (λ those. take count (slots_where test sizes 0 those)) (take_all n slots all)

-- ---- they are the free ones

filter_alike : (p : ℕ → Bool) (sizes : Sizes) (k : ℕ) (slots : List Slot)
    → ((i n : ℕ) (d : Slot) → n ≡ k + i → i < length slots → p (slot_at sizes n) ≡ is_unused (get_or slots i d))
    → filter p (map (slot_at sizes) (range_with_len k (length slots))) ≡ slots_where is_unused sizes k slots
filter_alike p sizes k [] alike = refl
filter_alike p sizes k (slot ∷ slots) alike =
    let rest = filter p (map (slot_at sizes) (range_with_len (k + 1) (length slots))) in
    ap (λ b. cond b (slot_at sizes k ∷ rest) rest) (alike 0 k slot (omega arith) (omega arith))
    ∙ ap (λ ns. cond (is_unused slot) (slot_at sizes k ∷ ns) ns)
    (filter_alike p sizes (k + 1) slots (λ i n d is short. alike (suc i) n d (omega (arith, is))
    (omega (arith, short))))

pub free_listed : (sizes : Sizes) (runs : List Run) (slots : List Slot) → SlotsFit sizes → length slots ≡ sizes.slots
    → free_list (holding_of sizes runs slots) ≡ slots_where is_unused sizes 0 slots
unfolding free_list
free_listed sizes runs slots fit all =
    ap (λ n. filter (is_free_slot (holding_of sizes runs slots)) (map (slot_at sizes) (range_with_len 0 n))) (sym all)
    ∙ filter_alike (is_free_slot (holding_of sizes runs slots)) sizes 0 slots
    (λ i n d is short. free_at sizes runs slots n d fit all (omega (arith, is, short, all))
    ∙ ap (λ m. is_unused (get_or slots m d)) (omega (arith, is)))

-- ---- each once

all_if_kept : (P : ℕ → Type 0) (b : Bool) (a : ℕ) (ns : List ℕ) → P a → AllByRecursion P ns
    → AllByRecursion P (cond b (a ∷ ns) ns)
all_if_kept P true a ns here rest = (here, rest)
all_if_kept P false a ns here rest = rest

distinct_if_kept : (b : Bool) (a : ℕ) (ns : List ℕ) → AllByRecursion (λ n. (a == n) ≡ false) ns
    → IsDistinct (λ n m. n == m) ns → IsDistinct (λ n m. n == m) (cond b (a ∷ ns) ns)
distinct_if_kept true a ns here rest = IsDistinct-cons (λ n m. n == m) a ns here rest
distinct_if_kept false a ns here rest = rest

-- a slot's address is none of those of later slots
later_slots : (test : Slot → Bool) (sizes : Sizes) (a k : ℕ) (slots : List Slot) → 0 < sizes.nodesize → a < k
    → AllByRecursion (λ n. (slot_at sizes a == n) ≡ false) (slots_where test sizes k slots)
later_slots test sizes a k [] some later = tt
later_slots test sizes a k (slot ∷ slots) some later =
    all_if_kept (λ n. (slot_at sizes a == n) ≡ false) (test slot) (slot_at sizes k)
    (slots_where test sizes (k + 1) slots)
    (ne_eqb (slot_at sizes a) (slot_at sizes k) (slots_apart sizes a k some (λ same. omega (arith, same, later))))
    (later_slots test sizes a (k + 1) slots some (omega arith))

distinct_where : (test : Slot → Bool) (sizes : Sizes) (k : ℕ) (slots : List Slot) → 0 < sizes.nodesize
    → IsDistinct (λ a b. a == b) (slots_where test sizes k slots)
unfolding IsDistinct
distinct_where test sizes k [] some = tt
distinct_where test sizes k (slot ∷ slots) some =
    distinct_if_kept (test slot) (slot_at sizes k) (slots_where test sizes (k + 1) slots)
    (later_slots test sizes k (k + 1) slots some (omega arith)) (distinct_where test sizes (k + 1) slots some)

distinct_front : (ns : List ℕ) (count : ℕ) → IsDistinct (λ a b. a == b) ns → IsDistinct (λ a b. a == b) (take count ns)
distinct_front ns count distinct = IsDistinct-from_apart (λ a b. a == b) (take count ns) (λ i j d order short.
    let inside : j < count = omega (arith, length-take count ns) in
    let far : j < length ns = omega (arith, length-take count ns) in
    subst (λ a. (a == get_or (take count ns) j d) ≡ false) (sym (get_or-take count ns i d (omega arith)))
    (subst (λ b. (get_or ns i d == b) ≡ false) (sym (get_or-take count ns j d inside))
    (apart_from_distinct (λ a b. a == b) ns i j d distinct order far)))

pub listed_apart : (sizes : Sizes) (slots : List Slot) (count : ℕ) → 0 < sizes.nodesize
    → IsDistinct (λ a b. a == b) (take count (slots_where is_unused sizes 0 slots))
listed_apart sizes slots count some = distinct_front (slots_where is_unused sizes 0 slots) count
    (distinct_where is_unused sizes 0 slots some)

-- ---- of every state of what is held

all_with_kept : (p : ℕ → Bool) (n : ℕ) (ns : List ℕ) (b : Bool) → p n ≡ b → list_all p ns ≡ true
    → list_all p (cond b (n ∷ ns) ns) ≡ true
all_with_kept p n ns true passes rest = and_from (p n) (list_all p ns) passes rest
all_with_kept p n ns false fails rest = rest

all_pass : (p : ℕ → Bool) (ns : List ℕ) → list_all p (filter p ns) ≡ true
all_pass p [] = refl
all_pass p (n ∷ ns) = all_with_kept p n (filter p ns) (p n) refl (all_pass p ns)

all_in_front : (p : ℕ → Bool) (ns : List ℕ) (count : ℕ) → list_all p ns ≡ true → list_all p (take count ns) ≡ true
all_in_front p ns zero all = refl
all_in_front p [] (suc count) all = refl
all_in_front p (n ∷ ns) (suc count) all =
    let parts = and_parts (p n) (list_all p ns) all in
    and_from (p n) (list_all p (take count ns)) parts.0 (all_in_front p ns count parts.1)

-- the first free slots are free
pub listed_free : (holding : Holding) (count : ℕ) → list_all (is_free_slot holding) (take count (free_list holding))
    ≡ true
unfolding free_list
listed_free holding count = all_in_front (is_free_slot holding) (free_list holding) count
    (all_pass (is_free_slot holding) (map (slot_at holding.sizes) (range_with_len 0 holding.sizes.slots)))

-- and as many as are wanted, or as there are
pub listed_count : (holding : Holding) (count : ℕ)
    → length (take count (free_list holding)) ≡ min count (free_slots holding)
unfolding free_list free_slots
listed_count holding count =
    length-take count (free_list holding)
    ∙ ap (λ n. min count n) (length-filter (is_free_slot holding)
    (map (slot_at holding.sizes) (range_with_len 0 holding.sizes.slots)))

-- no more slots are free than there are
pub free_slots-le-slots : (holding : Holding) → free_slots holding ≤ holding.sizes.slots
unfolding free_slots
free_slots-le-slots holding =
    let places = map (slot_at holding.sizes) (range_with_len 0 holding.sizes.slots) in
    omega (
      arith,
      count_by-le-length (is_free_slot holding) places,
      length-map-range_with_len
          (slot_at holding.sizes) 0 holding.sizes.slots,
    )
