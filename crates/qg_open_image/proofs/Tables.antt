-- Tables by number that have the same numbers.
use Rattle.std.proofs.Common.{◌≡◌, ℕ, Bool, true, false, List, [], ◌∷◌, get_or, map, Option, Some, None, refl, subst}
use Rattle.std.proofs.Common.{ap, ◌∙◌, inl, inr}
use Rattle.std.specs.Prelude.{◌⊎◌, ◌==◌, is_some, nat_lt, if◌then◌else◌}
use Rattle.std.specs.List.{All, Contains}
use Rattle.std.specs.List.Sorted.{IsStrictlyIncreasing}
use Rattle.std.specs.Option.{option_map}
use Rattle.std.proofs.lemmas.Bool.{cases_Bool, cond-false, cond-true, eq-eqb}
use Rattle.std.proofs.lemmas.List.Elements.{All-contains, Contains-get_or}
use Rattle.qg_image.specs.Table.{has_key, keys_of, value_at, with_value}
use Rattle.qg_image.proofs.Contained.{contains_cases, contains_here, contains_later, none_contained}
use Rattle.qg_files.proofs.Ascending.{Ascends-increasing}
use Rattle.qg_owner_rule.proofs.Reaching.{entry_of_value}
use Rattle.qg_fs_laws.proofs.Changed.{value-each}
use Rattle.qg_fs_laws.proofs.Tables.{map-with}
use Rattle.qg_fs_laws.proofs.Lists.{has-mapped}

-- ---- what is found of a table that is made of another

pub value-mapped : {A B : Type 0} (f : A → B) (n : ℕ) (table : List (ℕ × A))
    → value_at n (map (λ entry. (entry.0, f entry.1)) table) ≡ option_map f (value_at n table)
value-mapped {A} f n table = value-each (λ (entry : ℕ × A). f entry.1) n table

some_mapped : {A B : Type 0} (f : A → B) (o : Option A) → is_some (option_map f o) ≡ is_some o
some_mapped f None = refl
some_mapped f (Some value) = refl

pub key-mapped : {A B : Type 0} (f : A → B) (n : ℕ) (table : List (ℕ × A))
    → has_key n (map (λ entry. (entry.0, f entry.1)) table) ≡ has_key n table
key-mapped {A} {B} f n table =
    ap (λ (o : Option B). is_some o) (value-mapped f n table) ∙ some_mapped f (value_at n table)

pub keys-mapped : {A B : Type 0} (f : A → B) (table : List (ℕ × A))
    → keys_of (map (λ entry. (entry.0, f entry.1)) table) ≡ keys_of table
keys-mapped f [] = refl
keys-mapped f (entry ∷ table) = ap (λ (keys : List ℕ). entry.0 ∷ keys) (keys-mapped f table)

-- ---- numbers that are there

pub some-value : {A : Type 0} (o : Option A) → is_some o ≡ true → (value : A) × (o ≡ Some value)
some-value None is = absurd cc
some-value (Some value) is = (value, refl)

pub value-there : {A : Type 0} (n : ℕ) (table : List (ℕ × A)) → has_key n table ≡ true
    → (value : A) × (value_at n table ≡ Some value)
value-there n table is = some-value (value_at n table) is

pub key-of-value : {A : Type 0} (n : ℕ) (table : List (ℕ × A)) (value : A) → value_at n table ≡ Some value
    → has_key n table ≡ true
key-of-value {A} n table value is = ap (λ (o : Option A). is_some o) is

pub key-listed : {A : Type 0} (n : ℕ) (table : List (ℕ × A)) → has_key n table ≡ true → Contains (keys_of table) n
key-listed {A} n table is =
    let value = value-there n table is in
    has-mapped (λ (entry : ℕ × A). entry.0) table (n, value.0) (entry_of_value n value.0 table value.1)

later_key : {A : Type 0} (value : A) (n : ℕ) (table : List (ℕ × A)) → has_key n table ≡ true → (b : Bool)
    → is_some (if b then Some value else value_at n table) ≡ true
later_key value n table is true = refl
later_key value n table is false = is

pub listed-key : {A : Type 0} (n : ℕ) (table : List (ℕ × A)) → Contains (keys_of table) n → has_key n table ≡ true
listed-key n [] has = absurd (none_contained n has)
listed-key {A} n (entry ∷ table) has = elim (contains_cases entry.0 (keys_of table) n has) [
  | inl same ↦
      ap (λ (o : Option A). is_some o)
      (cond-true (entry.0 == n) (Some entry.1) (value_at n table) (eq-eqb entry.0 n same))
  | inr later ↦ later_key entry.1 n table (listed-key n table later) (entry.0 == n)
]

-- ---- a value that is put

-- what a table has after that is the value, or what it had
pub put-into : {A : Type 0} (n : ℕ) (value : A) (table : List (ℕ × A)) (one : ℕ × A)
    → Contains (with_value n value table) one → ((n, value) ≡ one) ⊎ Contains table one
put-into n value [] one has = contains_cases (n, value) [] one has
put-into {A} n value (first ∷ later) one has = elim (cases_Bool (nat_lt n first.0)) [
  | inl less ↦ contains_cases (n, value) (first ∷ later) one
      (subst (λ (table : List (ℕ × A)). Contains table one) (cond-true _ _ _ less) has)
  | inr more ↦
      let rest = subst (λ (table : List (ℕ × A)). Contains table one) (cond-false _ _ _ more) has in
      elim (cases_Bool (first.0 == n)) [
        | inl same ↦
            elim (contains_cases (n, value) later one
            (subst (λ (table : List (ℕ × A)). Contains table one) (cond-true _ _ _ same) rest)) [
              | inl own ↦ inl own
              | inr other ↦ inr (contains_later first later one other)
            ]
        | inr differ ↦
            elim (contains_cases first (with_value n value later) one
            (subst (λ (table : List (ℕ × A)). Contains table one) (cond-false _ _ _ differ) rest)) [
              | inl here ↦ inr (subst (λ (e : ℕ × A). Contains (first ∷ later) e) here (contains_here first later))
              | inr behind ↦ elim (put-into n value later one behind) [
                | inl own ↦ inl own
                | inr other ↦ inr (contains_later first later one other)
              ]
            ]
      ]
]

-- what is said of each element
pub all-of : {A : Type 0} (P : A → Type 0) (xs : List A) → ((x : A) → Contains xs x → P x) → All P xs
all-of P xs each = λ k d below. each (get_or xs k d) (Contains-get_or xs k d below)

pub all-put : {A : Type 0} (P : ℕ × A → Type 0) (n : ℕ) (value : A) (table : List (ℕ × A)) → P (n, value)
    → All P table → All P (with_value n value table)
all-put {A} P n value table here all = all-of P (with_value n value table)
    (λ one has. elim (put-into n value table one has) [
      | inl own ↦ subst P own here
      | inr other ↦ All-contains P table one all other
    ])

-- another value where one is: what is asked of entries stays, where it is the same of both
pub map-put : {A B : Type 0} (g : ℕ × A → B) (n : ℕ) (old new : A) (table : List (ℕ × A)) → g (n, new) ≡ g (n, old)
    → IsStrictlyIncreasing (keys_of table) → value_at n table ≡ Some old
    → map g (with_value n new table) ≡ map g table
map-put g n old new table same up there = map-with g n old new same 0 table (Ascends-increasing table up) there
