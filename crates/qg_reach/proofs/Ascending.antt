-- Tables that ascend: what they have at each number tells them.
use Rattle.std.proofs.Common.{◌≡◌, ℕ, ◌<◌, false, List, [], ◌∷◌, refl, sym, ap, subst, ◌∙◌, arith, inl, inr}
use Rattle.std.specs.Prelude.{◌==◌, nat_lt, Option, Some, None, Contains}
use Rattle.std.specs.Cmp.{ranked}
use Rattle.std.specs.List.{AllByRecursion}
use Rattle.std.specs.List.Sorted.{IsStrictlyIncreasing, IsStrictlySortedBy}
use Rattle.std.specs.Ordering.{nat_cmp}
use Rattle.std.specs.declared.cmp.Ordering.TheVariants.{Less}
use Rattle.std.proofs.lemmas.Bool.{cases_Bool, cond-true, cond-false, eq-eqb, eqb-true, ltb-true}
use Rattle.std.proofs.lemmas.Bool.Decides.{nat_tests}
use Rattle.std.proofs.lemmas.Map.Keys.{sorted_from_strictly_increasing}
use Rattle.std.proofs.lemmas.Option.{same_Some}
use Rattle.qg_image.specs.Table.{keys_of, value_at}
use Rattle.qg_image.proofs.Contained.{contains_cases, none_contained}
use Rattle.qg_reach.proofs.Members.{all_weaker, contains_map, each_contained}

-- each number is less than all later ones
abbrev pub Rise : List ℕ → Type 0
Rise [] = Unit {0}
Rise (n ∷ ns) = AllByRecursion (λ m. n < m) ns × Rise ns

pub rise_sorted : (ns : List ℕ) → IsStrictlySortedBy nat_cmp ns → Rise ns
unfolding IsStrictlySortedBy
rise_sorted [] up = tt
rise_sorted (n ∷ ns) up = (
  all_weaker (λ m. nat_cmp n m ≡ Less) (λ m. n < m) (λ m h. ranked n m Less (sym h)) ns up.0,
  rise_sorted ns up.1,
)

differ_eqb : (a b : ℕ) → b < a → (a == b) ≡ false
differ_eqb a b less = grind (arith, nat_tests)

later_differs : (a b : ℕ) → a < b → (a == b) ≡ false
later_differs a b less = grind (arith, nat_tests)

none_past : {A : Type 0} (q : ℕ) (table : List (ℕ × A)) → AllByRecursion (λ m. q < m) (keys_of table)
    → value_at q table ≡ None
none_past q [] all = refl
none_past q (entry ∷ table) all = rw (differ_eqb entry.0 q all.0) (none_past q table all.1)

value_here : {A : Type 0} (entry : ℕ × A) (table : List (ℕ × A)) → value_at entry.0 (entry ∷ table) ≡ Some entry.1
value_here entry table =
    cond-true (entry.0 == entry.0) (Some entry.1) (value_at entry.0 table) (eq-eqb entry.0 entry.0 refl)

none_first : {A : Type 0} (value : A) (given : Option A) → given ≡ None → given ≡ Some value → ⊥
none_first value given none some = absurd cc

-- no entry is before the first of another that has the same
not_before : {A : Type 0} (d e : ℕ × A) (a b : List (ℕ × A)) → AllByRecursion (λ m. e.0 < m) (keys_of b)
    → value_at d.0 (d ∷ a) ≡ value_at d.0 (e ∷ b) → d.0 < e.0 → ⊥
not_before d e a b up same less =
    let later = all_weaker (λ m. e.0 < m) (λ m. d.0 < m) (λ m h. omega (arith, less, h)) (keys_of b) up in
    none_first d.1 (value_at d.0 (e ∷ b)) (none_past d.0 (e ∷ b) (less, later)) (sym same ∙ value_here d a)

same_numbers : (a b : ℕ) → nat_lt a b ≡ false → nat_lt b a ≡ false → a ≡ b
same_numbers a b h k = grind (arith, nat_tests)

-- two tables whose first numbers are the same
joined_same : {A : Type 0} (d e : ℕ × A) (a b : List (ℕ × A)) → AllByRecursion (λ m. d.0 < m) (keys_of a)
    → AllByRecursion (λ m. e.0 < m) (keys_of b) → ((q : ℕ) → value_at q (d ∷ a) ≡ value_at q (e ∷ b))
    → (((q : ℕ) → value_at q a ≡ value_at q b) → a ≡ b) → d.0 ≡ e.0 → d ∷ a ≡ e ∷ b
joined_same d e a b up up' same rest at =
    let here : value_at d.0 (e ∷ b) ≡ Some e.1 = ap (λ (q : ℕ). value_at q (e ∷ b)) at ∙ value_here e b in
    let value : d.1 ≡ e.1 = same_Some d.1 e.1 (sym (value_here d a) ∙ same d.0 ∙ here) in
    let later : (q : ℕ) → value_at q a ≡ value_at q b = λ q. elim (cases_Bool (d.0 == q)) [
      | inl is ↦
          let q_is : d.0 ≡ q = eqb-true d.0 q is in
          let mine = subst (λ (n : ℕ). value_at n a ≡ None) q_is (none_past d.0 a up) in
          let theirs = subst (λ (n : ℕ). value_at n b ≡ None) (sym at ∙ q_is) (none_past e.0 b up') in
          mine ∙ sym theirs
      | inr differs ↦
          let other : (e.0 == q) ≡ false = subst (λ (n : ℕ). (n == q) ≡ false) at differs in
          sym (cond-false (d.0 == q) (Some d.1) (value_at q a) differs) ∙ same q
          ∙ cond-false (e.0 == q) (Some e.1) (value_at q b) other
    ] in
    let are : a ≡ b = rest later in
    λ i. (at i, value i) ∷ are i

pub rises_same : {A : Type 0} (a b : List (ℕ × A)) → Rise (keys_of a) → Rise (keys_of b)
    → ((q : ℕ) → value_at q a ≡ value_at q b) → a ≡ b
rises_same [] [] up up' same = refl
rises_same [] (e ∷ b) up up' same = absurd (none_first e.1 (value_at e.0 (e ∷ b)) (sym (same e.0)) (value_here e b))
rises_same (d ∷ a) [] up up' same = absurd (none_first d.1 (value_at d.0 (d ∷ a)) (same d.0) (value_here d a))
rises_same (d ∷ a) (e ∷ b) up up' same = elim (cases_Bool (nat_lt d.0 e.0)) [
  | inl less ↦ absurd (not_before d e a b up'.0 (same d.0) (ltb-true d.0 e.0 less))
  | inr not ↦ elim (cases_Bool (nat_lt e.0 d.0)) [
    | inl less ↦ absurd (not_before e d b a up.0 (sym (same e.0)) (ltb-true e.0 d.0 less))
    | inr nor ↦
        joined_same d e a b up.0 up'.0 same (rises_same a b up.1 up'.1) (same_numbers d.0 e.0 not nor)
  ]
]

pub tables_same : {A : Type 0} (a b : List (ℕ × A)) → IsStrictlyIncreasing (keys_of a)
    → IsStrictlyIncreasing (keys_of b)
    → ((q : ℕ) → value_at q a ≡ value_at q b) → a ≡ b
tables_same a b up up' same =
    rises_same a b (rise_sorted (keys_of a) (sorted_from_strictly_increasing (keys_of a) up))
    (rise_sorted (keys_of b) (sorted_from_strictly_increasing (keys_of b) up')) same

-- an entry of a table that ascends is what it has at its number
rises_held : {A : Type 0} (table : List (ℕ × A)) (q : ℕ) (value : A) → Rise (keys_of table) → Contains table (q, value)
    → value_at q table ≡ Some value
rises_held [] q value up has = absurd (none_contained (q, value) has)
rises_held {A} (entry ∷ table) q value up has = elim (contains_cases entry table (q, value) has) [
  | inl is ↦
      subst (λ (e : ℕ × A). value_at e.0 (entry ∷ table) ≡ Some e.1) is (value_here entry table)
  | inr later ↦
      let number = contains_map (λ (e : ℕ × A). e.0) table (q, value) later in
      let past = each_contained (λ (m : ℕ). entry.0 < m) (keys_of table) q up.0 number in
      cond-false (entry.0 == q) (Some entry.1) (value_at q table) (later_differs entry.0 q past)
      ∙ rises_held table q value up.1 later
]

pub contained_value : {A : Type 0} (table : List (ℕ × A)) (q : ℕ) (value : A) → IsStrictlyIncreasing (keys_of table)
    → Contains table (q, value) → value_at q table ≡ Some value
contained_value table q value up has =
    rises_held table q value (rise_sorted (keys_of table) (sorted_from_strictly_increasing (keys_of table) up)) has
