-- What the entries of a table owe, where one of them changes or goes.
use Rattle.std.proofs.Common.{◌≡◌, ◌≢◌, ℕ, ◌+◌, ◌<◌, Bool, true, false, List, [], ◌∷◌, map, Option, Some, None, arith}
use Rattle.std.proofs.Common.{refl, sym, ap, ◌∙◌, inl, inr}
use Rattle.std.specs.Prelude.{◌==◌, if◌then◌else◌}
use Rattle.std.specs.List.{filter, flat_map}
use Rattle.std.specs.Option.{option_map}
use Rattle.std.proofs.lemmas.Bool.{cases_Bool, cases_eq, cond-true, cond-false, eq-eqb, ne_eqb}
use Rattle.std.proofs.lemmas.Option.{same_Some}
use Rattle.qg_items.specs.declared.extent.Reference.{Reference}
use Rattle.qg_image.specs.Table.{value_at}
use Rattle.qg_image.specs.Owed.{Owing}
use Rattle.qg_files.proofs.Ascending.{Ascends}
use Rattle.qg_tree_backrefs.specs.Exchange.{times}
use Rattle.qg_tree_backrefs.proofs.Times.{times-nil}
use Rattle.qg_shared_trees.proofs.Tables.{times-flat}

module _ {A : Type 0} (f g : ℕ × A → List Owing) (n : ℕ) (at : ℕ) (reference : Reference)
    (same : (entry : ℕ × A) → entry.0 ≢ n → f entry ≡ g entry) where
  -- past a number nothing changes
  times_past : (from : ℕ) (table : List (ℕ × A)) → n < from → Ascends from table
      → times (flat_map f table) at reference ≡ times (flat_map g table) at reference
  unfolding Ascends
  times_past from [] less up = refl
  times_past from (entry ∷ table) less up =
      let one = ap (λ (owings : List Owing). times owings at reference)
      (same entry (λ is. omega (arith, is, less, up.0))) in
      let a = times-flat f entry table at reference in
      let b = times-flat g entry table at reference in
      let rest = times_past (entry.0 + 1) table (omega (arith, less, up.0)) up.1 in
      omega (arith, one, a, b, rest)

  -- what all owe, where one entry owes something else
  pub times-changed : (value : A) (from : ℕ) (table : List (ℕ × A)) → Ascends from table
      → value_at n table ≡ Some value
      → times (flat_map g table) at reference + times (f (n, value)) at reference
      ≡ times (flat_map f table) at reference + times (g (n, value)) at reference
  unfolding Ascends
  times-changed value from [] up there = let wrong : ◌≡◌ {A = Option A} None (Some value) = there in absurd cc
  times-changed value from (entry ∷ table) up there = elim (cases_eq entry.0 n) [
    | inl is ↦
        let own = same_Some entry.1 value
        (sym (cond-true (entry.0 == n) (Some entry.1) (value_at n table) (eq-eqb entry.0 n is)) ∙ there) in
        let first : ◌≡◌ {A = ℕ × A} entry (n, value) = λ i. (is i, own i) in
        let a = times-flat f entry table at reference in
        let b = times-flat g entry table at reference in
        let old = ap (λ (e : ℕ × A). times (f e) at reference) first in
        let new = ap (λ (e : ℕ × A). times (g e) at reference) first in
        let rest = times_past (entry.0 + 1) table (omega (arith, is)) up.1 in
        omega (arith, a, b, old, new, rest)
    | inr differ ↦
        let later = sym (cond-false (entry.0 == n) (Some entry.1) (value_at n table) (ne_eqb entry.0 n differ))
        ∙ there in
        let a = times-flat f entry table at reference in
        let b = times-flat g entry table at reference in
        let one = ap (λ (owings : List Owing). times owings at reference) (same entry differ) in
        let rest = times-changed value (entry.0 + 1) table up.1 later in
        omega (arith, a, b, one, rest)
  ]

-- what is owed by the images of those that pass
pub times-kept : {A B : Type 0} (keeps : A → Bool) (h : A → B) (f : B → List Owing) (xs : List A) (at : ℕ)
    (reference : Reference)
    → times (flat_map f (map h (filter keeps xs))) at reference
    ≡ times (flat_map (λ x. if keeps x then f (h x) else []) xs) at reference
times-kept {A} {B} keeps h f [] at reference = refl
times-kept {A} {B} keeps h f (x ∷ xs) at reference =
    let g : A → List Owing = λ y. if keeps y then f (h y) else [] in
    let last = times-flat g x xs at reference in
    let rest = times-kept keeps h f xs at reference in
    elim (cases_Bool (keeps x)) [
      | inl passes ↦
          let list = ap (λ (ys : List A). times (flat_map f (map h ys)) at reference)
          (cond-true (keeps x) (x ∷ filter keeps xs) (filter keeps xs) passes) in
          let first = times-flat f (h x) (map h (filter keeps xs)) at reference in
          let own = ap (λ (owings : List Owing). times owings at reference)
          (cond-true (keeps x) (f (h x)) [] passes) in
          omega (arith, list, first, own, last, rest)
      | inr fails ↦
          let list = ap (λ (ys : List A). times (flat_map f (map h ys)) at reference)
          (cond-false (keeps x) (x ∷ filter keeps xs) (filter keeps xs) fails) in
          let own = ap (λ (owings : List Owing). times owings at reference)
          (cond-false (keeps x) (f (h x)) [] fails) in
          let none = times-nil at reference in
          omega (arith, list, own, none, last, rest)
    ]

-- a table of the entries whose numbers pass
pub value-kept : {A : Type 0} (keeps : ℕ → Bool) (n : ℕ) (table : List (ℕ × A))
    → value_at n (filter (λ entry. keeps entry.0) table) ≡ (if keeps n then value_at n table else None)
value-kept {A} keeps n [] = elim (cases_Bool (keeps n)) [
  | inl passes ↦ sym (cond-true {A = Option A} (keeps n) None None passes)
  | inr fails ↦ sym (cond-false {A = Option A} (keeps n) None None fails)
]
value-kept {A} keeps n (entry ∷ table) =
    let rest = value-kept keeps n table in
    let here = filter (λ (e : ℕ × A). keeps e.0) table in
    elim (cases_eq entry.0 n) [
      | inl is ↦ elim (cases_Bool (keeps n)) [
        | inl passes ↦
            let own : keeps entry.0 ≡ true = ap keeps is ∙ passes in
            ap (value_at n) (cond-true (keeps entry.0) (entry ∷ here) here own)
            ∙ cond-true (entry.0 == n) (Some entry.1) (value_at n here) (eq-eqb entry.0 n is)
            ∙ sym (cond-true (entry.0 == n) (Some entry.1) (value_at n table) (eq-eqb entry.0 n is))
            ∙ sym (cond-true (keeps n) (value_at n (entry ∷ table)) None passes)
        | inr fails ↦
            let own : keeps entry.0 ≡ false = ap keeps is ∙ fails in
            ap (value_at n) (cond-false (keeps entry.0) (entry ∷ here) here own)
            ∙ rest
            ∙ cond-false (keeps n) (value_at n table) None fails
            ∙ sym (cond-false (keeps n) (value_at n (entry ∷ table)) None fails)
      ]
      | inr differ ↦
          let later = cond-false (entry.0 == n) (Some entry.1) (value_at n table) (ne_eqb entry.0 n differ) in
          let whole = ap (λ (o : Option A). if keeps n then o else None) (sym later) in
          elim (cases_Bool (keeps entry.0)) [
            | inl passes ↦
                ap (value_at n) (cond-true (keeps entry.0) (entry ∷ here) here passes)
                ∙ cond-false (entry.0 == n) (Some entry.1) (value_at n here) (ne_eqb entry.0 n differ)
                ∙ rest ∙ whole
            | inr fails ↦
                ap (value_at n) (cond-false (keeps entry.0) (entry ∷ here) here fails) ∙ rest ∙ whole
          ]
    ]

-- a table whose values change by their numbers
pub value-each : {A B : Type 0} (h : ℕ × A → B) (n : ℕ) (table : List (ℕ × A))
    → value_at n (map (λ entry. (entry.0, h entry)) table) ≡ option_map (λ value. h (n, value)) (value_at n table)
value-each {A} {B} h n [] = refl
value-each {A} {B} h n (entry ∷ table) = elim (cases_eq entry.0 n) [
  | inl is ↦
      let first : ◌≡◌ {A = ℕ × A} entry (n, entry.1) = λ i. (is i, entry.1) in
      cond-true (entry.0 == n) (Some (h entry)) (value_at n (map (λ (e : ℕ × A). (e.0, h e)) table))
      (eq-eqb entry.0 n is) ∙ ap (λ (e : ℕ × A). Some (h e)) first
      ∙ sym (ap (λ (o : Option A). option_map (λ (value : A). h (n, value)) o)
      (cond-true (entry.0 == n) (Some entry.1) (value_at n table) (eq-eqb entry.0 n is)))
  | inr differ ↦
      cond-false (entry.0 == n) (Some (h entry)) (value_at n (map (λ (e : ℕ × A). (e.0, h e)) table))
      (ne_eqb entry.0 n differ)
      ∙ value-each h n table
      ∙ sym (ap (λ (o : Option A). option_map (λ (value : A). h (n, value)) o)
      (cond-false (entry.0 == n) (Some entry.1) (value_at n table) (ne_eqb entry.0 n differ)))
]
