-- Chains of relations, where each leads from a lesser number to a greater one.
use Rattle.std.proofs.Common.{◌≡◌, ℕ, zero, suc, ◌+◌, ◌<◌, ◌≤◌, Bool, true, false, List, [], ◌∷◌, length, sym, ap}
use Rattle.std.proofs.Common.{subst, arith, inl, inr, ◌⊎◌, nat_le}
use Rattle.std.specs.Prelude.{◌&&◌, ◌==◌, if◌then◌else◌}
use Rattle.std.specs.List.{count_by, list_any}
use Rattle.std.proofs.lemmas.Bool.{cases_Bool, cond-true, cond-false, true≢false}
use Rattle.std.proofs.lemmas.Bool.Decides.{nat_tests}
use Rattle.std.proofs.lemmas.List.Sums.{count_by-le-length, sum_by-cons}
use Rattle.qg_machine.specs.Members.{is_below, leads}
use Rattle.qg_machine.specs.GroupChange.{has_pair, same_pair}
use Rattle.qg_qgroups.proofs.Lists.{both_true}
use Rattle.qg_qgroups.proofs.Sets.{number_is, pair_is}
use Rattle.qg_qgroups.proofs.Related.{and_both, any_pair, or_cases, or_left, or_right, pair_at, same_number}

-- each relation leads to a greater number
abbrev pub Rises : List (ℕ × ℕ) → Type 0
Rises pairs = (a b : ℕ) → has_pair a b pairs ≡ true → a < b

-- ---- a chain by its first relation

-- one relation leads from a number to where a chain begins
abbrev first_then : List (ℕ × ℕ) → ℕ → ℕ → ℕ → ℕ × ℕ → Bool
first_then pairs count from to pair = (pair.0 == from) && leads pairs count pair.1 to

pub lead_itself : (pairs : List (ℕ × ℕ)) (count n : ℕ) → leads pairs count n n ≡ true
unfolding leads
lead_itself pairs zero n = same_number n
lead_itself pairs (suc count) n = or_left (n == n) (list_any (first_then pairs count n n) pairs) (same_number n)

pub lead_step : (pairs : List (ℕ × ℕ)) (count from between to : ℕ) → has_pair from between pairs ≡ true
    → leads pairs count between to ≡ true → leads pairs (suc count) from to ≡ true
unfolding leads
lead_step pairs count from between to has later =
    or_right (from == to) (list_any (first_then pairs count from to) pairs)
    (any_pair (first_then pairs count from to) pairs from between has
    (and_both (from == from) (leads pairs count between to) (same_number from) later))

-- the parts of a chain: none, or its first relation and the rest
pub lead_parts : (pairs : List (ℕ × ℕ)) (count from to : ℕ) → leads pairs (suc count) from to ≡ true
    → (from ≡ to) ⊎ ((between : ℕ) × (has_pair from between pairs ≡ true) × (leads pairs count between to ≡ true))
unfolding leads
lead_parts pairs count from to led =
    elim (or_cases (from == to) (list_any (first_then pairs count from to) pairs) led) [
      | inl here ↦ inl (number_is from to here)
      | inr some ↦
          let found = pair_at (first_then pairs count from to) pairs some in
          let parts = both_true (found.0.0 == from) (leads pairs count found.0.1 to) found.2 in
          inr (
            found.0.1,
            subst (λ (a : ℕ). has_pair a found.0.1 pairs ≡ true) (number_is found.0.0 from parts.0) found.1,
            parts.1,
          )
    ]

lead_end : (pairs : List (ℕ × ℕ)) (from to : ℕ) → leads pairs 0 from to ≡ true → from ≡ to
unfolding leads
lead_end pairs from to led = number_is from to led

-- ---- longer chains

lead_more : (pairs : List (ℕ × ℕ)) (count from to : ℕ) → leads pairs count from to ≡ true
    → leads pairs (suc count) from to ≡ true
lead_more pairs zero from to led = subst (λ (n : ℕ). leads pairs 1 from n ≡ true) (lead_end pairs from to led)
    (lead_itself pairs 1 from)
lead_more pairs (suc count) from to led = elim (lead_parts pairs count from to led) [
  | inl is ↦ subst (λ (n : ℕ). leads pairs (suc (suc count)) from n ≡ true) is
      (lead_itself pairs (suc (suc count)) from)
  | inr rest ↦ lead_step pairs (suc count) from rest.0 to rest.1 (lead_more pairs count rest.0 to rest.2)
]

pub lead_up : (pairs : List (ℕ × ℕ)) (few many from to : ℕ) → few ≤ many → leads pairs few from to ≡ true
    → leads pairs many from to ≡ true
lead_up pairs few zero from to le led = let is : few ≡ 0 = omega (arith, le) in
    subst (λ (n : ℕ). leads pairs n from to ≡ true) is led
lead_up pairs few (suc many) from to le led = elim (cases_Bool (nat_le few many)) [
  | inl fewer ↦ lead_more pairs many from to (lead_up pairs few many from to (grind (arith, nat_tests)) led)
  | inr h ↦ let is : few ≡ suc many = let less : many < few = grind (arith, nat_tests) in omega (arith, less, le) in
      subst (λ (n : ℕ). leads pairs n from to ≡ true) is led
]

-- ---- as many relations as begin no lower are enough

-- how many relations begin at a number or above
abbrev fuel : ℕ → List (ℕ × ℕ) → ℕ
fuel from pairs = count_by (λ pair. nat_le from pair.0) pairs

abbrev counted : ℕ → ℕ × ℕ → ℕ
counted from pair = if nat_le from pair.0 then 1 else 0

counted_less : (a b : ℕ) (pair : ℕ × ℕ) → a ≤ b → counted b pair ≤ counted a pair
counted_less a b pair le = elim (cases_Bool (nat_le b pair.0)) [
  | inl high ↦
      let also : nat_le a pair.0 ≡ true = grind (arith, nat_tests) in
      let one : counted b pair ≡ 1 = cond-true _ _ _ high in
      let too : counted a pair ≡ 1 = cond-true _ _ _ also in
      omega (arith, one, too)
  | inr low ↦ let none : counted b pair ≡ 0 = cond-false _ _ _ low in omega (arith, none)
]

fuel_less : (a b : ℕ) (pairs : List (ℕ × ℕ)) → a ≤ b → fuel b pairs ≤ fuel a pairs
fuel_less a b [] le = omega arith
fuel_less a b (pair ∷ pairs) le =
    omega (
      arith,
      sum_by-cons (counted a) pair pairs,
      sum_by-cons (counted b) pair pairs,
      counted_less a b pair le,
      fuel_less a b pairs le,
    )

fuel_more : (a b other : ℕ) (pairs : List (ℕ × ℕ)) → a < b → has_pair a other pairs ≡ true
    → fuel b pairs + 1 ≤ fuel a pairs
fuel_more a b other [] less has = absurd (true≢false (sym has))
fuel_more a b other (pair ∷ pairs) less has =
    let le : a ≤ b = omega (arith, less) in
    elim (or_cases (same_pair (a, other) pair) (has_pair a other pairs) has) [
      | inl here ↦
          let is : a ≡ pair.0 = ap (λ (p : ℕ × ℕ). p.0) (pair_is (a, other) pair here) in
          let high : nat_le a pair.0 ≡ true = grind (arith, nat_tests) in
          let low : nat_le b pair.0 ≡ false = grind (arith, nat_tests) in
          let one : counted a pair ≡ 1 = cond-true _ _ _ high in
          let none : counted b pair ≡ 0 = cond-false _ _ _ low in
          omega (
            arith,
            sum_by-cons (counted a) pair pairs,
            sum_by-cons (counted b) pair pairs,
            one,
            none,
            fuel_less a b
                pairs le,
          )
      | inr later ↦ omega (
        arith,
        sum_by-cons (counted a) pair pairs,
        sum_by-cons (counted b) pair pairs,
        counted_less a
            b pair le,
        fuel_more a b other pairs less later,
      )
    ]

lead_enough : (pairs : List (ℕ × ℕ)) → Rises pairs → (count from to : ℕ) → leads pairs count from to ≡ true
    → leads pairs (fuel from pairs) from to ≡ true
lead_enough pairs rises zero from to led = lead_up pairs 0 (fuel from pairs) from to (omega arith) led
lead_enough pairs rises (suc count) from to led = elim (lead_parts pairs count from to led) [
  | inl is ↦ subst (λ (n : ℕ). leads pairs (fuel from pairs) from n ≡ true) is
      (lead_itself pairs (fuel from pairs) from)
  | inr rest ↦
      let enough = lead_enough pairs rises count rest.0 to rest.2 in
      let more : suc (fuel rest.0 pairs) ≤ fuel from pairs =
      omega (arith, fuel_more from rest.0 rest.0 pairs (rises from rest.0 rest.1) rest.1) in
      lead_up pairs (suc (fuel rest.0 pairs)) (fuel from pairs) from to more
      (lead_step pairs (fuel rest.0 pairs) from rest.0 to rest.1 enough)
]

-- ---- a group below another

pub below_by : (pairs : List (ℕ × ℕ)) → Rises pairs → (count from to : ℕ) → leads pairs count from to ≡ true
    → is_below pairs from to ≡ true
unfolding is_below
below_by pairs rises count from to led =
    lead_up pairs (fuel from pairs) (length pairs) from to
    (count_by-le-length (λ (pair : ℕ × ℕ). nat_le from pair.0) pairs) (lead_enough pairs rises count from to led)

below_led : (pairs : List (ℕ × ℕ)) (from to : ℕ) → is_below pairs from to ≡ true
    → leads pairs (suc (length pairs)) from to ≡ true
unfolding is_below
below_led pairs from to below = lead_more pairs (length pairs) from to below

pub below_itself : (pairs : List (ℕ × ℕ)) (n : ℕ) → is_below pairs n n ≡ true
unfolding is_below
below_itself pairs n = lead_itself pairs (length pairs) n

pub below_step : (pairs : List (ℕ × ℕ)) → Rises pairs → (from between to : ℕ) → has_pair from between pairs ≡ true
    → is_below pairs between to ≡ true → is_below pairs from to ≡ true
below_step pairs rises from between to has below =
    below_by pairs rises (suc (suc (length pairs))) from to (lead_step pairs (suc (length pairs)) from between to has
    (below_led pairs between to below))

-- the first relation of a chain
pub below_first : (pairs : List (ℕ × ℕ)) → Rises pairs → (from to : ℕ) → is_below pairs from to ≡ true
    → (from ≡ to) ⊎ ((between : ℕ) × (has_pair from between pairs ≡ true) × (is_below pairs between to ≡ true))
below_first pairs rises from to below = elim (lead_parts pairs (length pairs) from to (below_led pairs from to below)) [
  | inl is ↦ inl is
  | inr rest ↦ inr (rest.0, rest.1, below_by pairs rises (length pairs) rest.0 to rest.2)
]

-- one relation more at the end
pub below_more : (pairs : List (ℕ × ℕ)) → Rises pairs → (from between to : ℕ) → is_below pairs from between ≡ true
    → has_pair between to pairs ≡ true → is_below pairs from to ≡ true
below_more pairs rises from between to below has =
    each (suc (length pairs)) from (below_led pairs from between below) where
      each : (count from : ℕ) → leads pairs count from between ≡ true → is_below pairs from to ≡ true
      each zero from led = subst (λ (n : ℕ). is_below pairs n to ≡ true) (sym (lead_end pairs from between led))
          (below_step pairs rises between to to has (below_itself pairs to))
      each (suc count) from led = elim (lead_parts pairs count from between led) [
        | inl is ↦ subst (λ (n : ℕ). is_below pairs n to ≡ true) (sym is)
            (below_step pairs rises between to to has (below_itself pairs to))
        | inr rest ↦ below_step pairs rises from rest.0 to rest.1 (each count rest.0 rest.2)
      ]

-- the last relation of a chain
pub below_last : (pairs : List (ℕ × ℕ)) → Rises pairs → (from to : ℕ) → is_below pairs from to ≡ true
    → (from ≡ to) ⊎ ((between : ℕ) × (is_below pairs from between ≡ true) × (has_pair between to pairs ≡ true))
below_last pairs rises from to below = each (suc (length pairs)) from (below_led pairs from to below) where
  each : (count from : ℕ) → leads pairs count from to ≡ true
      → (from ≡ to) ⊎ ((between : ℕ) × (is_below pairs from between ≡ true) × (has_pair between to pairs ≡ true))
  each zero from led = inl (lead_end pairs from to led)
  each (suc count) from led = elim (lead_parts pairs count from to led) [
    | inl is ↦ inl is
    | inr rest ↦ elim (each count rest.0 rest.2) [
      | inl is ↦ inr (from, below_itself pairs from, subst (λ (n : ℕ). has_pair from n pairs ≡ true) is rest.1)
      | inr last ↦ inr (last.0, below_step pairs rises from rest.0 last.0 rest.1 last.1, last.2)
    ]
  ]
