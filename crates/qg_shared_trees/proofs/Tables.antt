-- Tables by number with one value more, or another value at a number.
use Rattle.std.proofs.Common.{◌≡◌, ℕ, ◌+◌, ◌<◌, ◌≤◌, List, [], ◌∷◌, map, Option, Some, None, arith, refl, sym, ap, ◌∙◌}
use Rattle.std.proofs.Common.{inl, inr}
use Rattle.std.specs.Prelude.{◌==◌, true, false, nat_lt, if◌then◌else◌}
use Rattle.std.specs.List.{Contains, flat_map}
use Rattle.std.proofs.lemmas.Bool.{cases_Bool, cases_eq, cond-true, cond-false, eq-eqb, le-ltb, ltb-true, ne_eqb}
use Rattle.std.proofs.lemmas.Option.{same_Some}
use Rattle.std.proofs.lemmas.List.Concat.{flat_map-cons}
use Rattle.qg_items.specs.declared.extent.Reference.{Reference}
use Rattle.qg_image.specs.Table.{value_at, with_value}
use Rattle.qg_image.specs.Owed.{Owing}
use Rattle.qg_image.proofs.Contained.{contains_cases, none_contained}
use Rattle.qg_files.proofs.Ascending.{Ascends}
use Rattle.qg_tree_backrefs.specs.Exchange.{times}
use Rattle.qg_tree_backrefs.proofs.Times.{times-append}

-- ---- what the entries of a list owe, one after the other

pub times-flat : {A : Type 0} (f : A → List Owing) (x : A) (xs : List A) (at : ℕ) (reference : Reference)
    → times (flat_map f (x ∷ xs)) at reference ≡ times (f x) at reference + times (flat_map f xs) at reference
times-flat {A} f x xs at reference =
    ap (λ (ys : List Owing). times ys at reference) (flat_map-cons f x xs)
    ∙ times-append (f x) (flat_map f xs) at reference

-- what one of a list owes, all owe
pub times-member : {A : Type 0} (f : A → List Owing) (xs : List A) (x : A) → Contains xs x → (at : ℕ)
    (reference : Reference) → times (f x) at reference ≤ times (flat_map f xs) at reference
times-member {A} f [] x has at reference = absurd (none_contained x has)
times-member {A} f (y ∷ ys) x has at reference =
    let split = times-flat f y ys at reference in
    elim (contains_cases y ys x has) [
      | inl same ↦ let own = ap (λ (z : A). times (f z) at reference) same in omega (arith, split, own)
      | inr later ↦ let rest = times-member f ys x later at reference in omega (arith, split, rest)
    ]

-- ---- a value where there was none

first_of_table : {A : Type 0} (n : ℕ) (entry : ℕ × A) (entries : List (ℕ × A)) → entry.0 ≡ n
    → value_at n (entry ∷ entries) ≡ Some entry.1
first_of_table {A} n entry entries is = cond-true (entry.0 == n) (Some entry.1) (value_at n entries)
    (eq-eqb entry.0 n is)

rest_of_table : {A : Type 0} (n : ℕ) (entry : ℕ × A) (entries : List (ℕ × A)) → (entry.0 ≡ n → ⊥)
    → value_at n (entry ∷ entries) ≡ value_at n entries
rest_of_table {A} n entry entries differ =
    cond-false (entry.0 == n) (Some entry.1) (value_at n entries) (ne_eqb entry.0 n differ)

module _ {A : Type 0} (n : ℕ) (value : A) where
  with_before : (entry : ℕ × A) (entries : List (ℕ × A)) → nat_lt n entry.0 ≡ true
      → with_value n value (entry ∷ entries) ≡ (n, value) ∷ entry ∷ entries
  with_before entry entries before =
      cond-true (nat_lt n entry.0) ((n, value) ∷ entry ∷ entries)
      (if entry.0 == n then (n, value) ∷ entries else entry ∷ with_value n value entries) before

  with_past : (entry : ℕ × A) (entries : List (ℕ × A)) → nat_lt n entry.0 ≡ false → (entry.0 ≡ n → ⊥)
      → with_value n value (entry ∷ entries) ≡ entry ∷ with_value n value entries
  with_past entry entries later differ =
      cond-false (nat_lt n entry.0) ((n, value) ∷ entry ∷ entries)
      (if entry.0 == n then (n, value) ∷ entries else entry ∷ with_value n value entries) later
      ∙ cond-false (entry.0 == n) ((n, value) ∷ entries) (entry ∷ with_value n value entries)
      (ne_eqb entry.0 n differ)

module _ {A : Type 0} (f : ℕ × A → List Owing) (n : ℕ) (value : A) (at : ℕ) (reference : Reference) where
  not_there : (entry : ℕ × A) (entries : List (ℕ × A)) → entry.0 ≡ n → value_at n (entry ∷ entries) ≡ None → ⊥
  not_there entry entries is none =
      let some : Some entry.1 ≡ None = sym (first_of_table n entry entries is) ∙ none in cc

  pub times-with : (table : List (ℕ × A)) → value_at n table ≡ None
      → times (flat_map f (with_value n value table)) at reference
      ≡ times (f (n, value)) at reference + times (flat_map f table) at reference
  times-with [] none = times-flat f (n, value) [] at reference
  times-with (entry ∷ entries) none = elim (cases_Bool (nat_lt n entry.0)) [
    | inl before ↦
        ap (λ (table : List (ℕ × A)). times (flat_map f table) at reference) (with_before n value entry entries before)
        ∙ times-flat f (n, value) (entry ∷ entries) at reference
    | inr later ↦ elim (cases_eq entry.0 n) [
      | inl is ↦ absurd (not_there entry entries is none)
      | inr differ ↦
          let table_is =
          ap (λ (table : List (ℕ × A)). times (flat_map f table) at reference)
          (with_past n value entry entries later differ) in
          let here = times-flat f entry (with_value n value entries) at reference in
          let rest = times-with entries (sym (rest_of_table n entry entries differ) ∙ none) in
          let old = times-flat f entry entries at reference in
          omega (arith, table_is, here, rest, old)
    ]
  ]

-- ---- another value at a number that is there

-- in a table that ascends there is nothing at a number before its first
pub none-before : {A : Type 0} (n from : ℕ) (table : List (ℕ × A)) → n < from → Ascends from table
    → value_at n table ≡ None
unfolding Ascends
none-before {A} n from [] less up = refl
none-before {A} n from (entry ∷ entries) less up =
    rest_of_table n entry entries (λ is. omega (arith, is, less, up.0))
    ∙ none-before n (entry.0 + 1) entries (omega (arith, less, up.0)) up.1

module _ {A B : Type 0} (g : ℕ × A → B) (n : ℕ) (old new : A) (same : g (n, new) ≡ g (n, old)) where
  value_is : (entry : ℕ × A) (entries : List (ℕ × A)) → entry.0 ≡ n → value_at n (entry ∷ entries) ≡ Some old
      → entry.1 ≡ old
  value_is entry entries is there =
      same_Some entry.1 old (sym (first_of_table n entry entries is) ∙ there)

  entry_is : (entry : ℕ × A) → entry.0 ≡ n → entry.1 ≡ old → g (n, new) ≡ g entry
  entry_is entry is was = same ∙ sym (λ i. g (is i, was i))

  replaced : (entry : ℕ × A) (entries : List (ℕ × A)) → entry.0 ≡ n
      → with_value n new (entry ∷ entries) ≡ (n, new) ∷ entries
  replaced entry entries is =
      cond-false (nat_lt n entry.0) ((n, new) ∷ entry ∷ entries)
      (if entry.0 == n then (n, new) ∷ entries else entry ∷ with_value n new entries)
      (le-ltb n entry.0 (omega (arith, is)))
      ∙ cond-true (entry.0 == n) ((n, new) ∷ entries) (entry ∷ with_value n new entries) (eq-eqb entry.0 n is)

  -- what is asked of entries stays, where it is the same of both values
  pub map-with : (from : ℕ) (table : List (ℕ × A)) → Ascends from table → value_at n table ≡ Some old
      → map g (with_value n new table) ≡ map g table
  unfolding Ascends
  map-with from [] up there = let wrong : ◌≡◌ {A = Option A} None (Some old) = there in absurd cc
  map-with from (entry ∷ entries) up there = elim (cases_eq entry.0 n) [
    | inl is ↦
        ap (λ (table : List (ℕ × A)). map g table) (replaced entry entries is)
        ∙ ap (λ (first : B). first ∷ map g entries) (entry_is entry is (value_is entry entries is there))
    | inr differ ↦
        let rest = sym (rest_of_table n entry entries differ) ∙ there in
        ap (λ (table : List (ℕ × A)). map g table) (with_past n new entry entries (behind entry entries up.1 rest)
        differ) ∙ ap (λ (later : List B). g entry ∷ later) (map-with (entry.0 + 1) entries up.1 rest)
  ]
    where
      behind : (entry : ℕ × A) (entries : List (ℕ × A)) → Ascends (entry.0 + 1) entries → value_at n entries ≡ Some old
          → nat_lt n entry.0 ≡ false
      behind entry entries up rest = elim (cases_Bool (nat_lt n entry.0)) [
        | inl before ↦
            let less = ltb-true n entry.0 before in
            let none = none-before n (entry.0 + 1) entries (omega (arith, less)) up in
            let wrong : ◌≡◌ {A = Option A} None (Some old) = sym none ∙ rest in absurd cc
        | inr after ↦ after
      ]
