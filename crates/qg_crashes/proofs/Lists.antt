-- What lists contain that were mapped, joined, or put into tables.
use Rattle.std.proofs.Common.{◌≡◌, ◌⊎◌, inl, inr, ℕ, Bool, true, false, cond, List, [], ◌∷◌, ◌++◌, map, refl, ap, subst}
use Rattle.std.specs.Prelude.{◌==◌, nat_lt}
use Rattle.std.specs.List.{Contains, AllByRecursion, flat_map, fold}
use Rattle.std.proofs.lemmas.Bool.{eqb-true}
use Rattle.std.proofs.lemmas.List.Elements.{Contains-append_left, Contains-append_right}
use Rattle.qg_image.specs.Table.{keys_of, with_value}
use Rattle.qg_image.proofs.Contained.{none_contained, contains_here, contains_later, contains_cases}

pub contains_mapped : {A B : Type 0} (f : A → B) (xs : List A) (x : A) → Contains xs x → Contains (map f xs) (f x)
contains_mapped f [] x has = absurd (none_contained x has)
contains_mapped {A} {B} f (y ∷ xs) x has = elim (contains_cases y xs x has) [
  | inl is ↦ subst (λ (z : B). Contains (f y ∷ map f xs) z) (ap f is) (contains_here (f y) (map f xs))
  | inr later ↦ contains_later (f y) (map f xs) (f x) (contains_mapped f xs x later)
]

-- what holds of each element of lists that were joined holds of each element of each
pub each_of_joined : {A B : Type 0} (P : B → Type 0) (f : A → List B) (xs : List A)
    → ((y : B) → Contains (flat_map f xs) y → P y)
    → AllByRecursion (λ x. (y : B) → Contains (f x) y → P y) xs
each_of_joined P f [] each = tt
each_of_joined P f (x ∷ xs) each = (
  λ y has. each y (Contains-append_left (f x) (flat_map f xs) y has),
  each_of_joined P f xs (λ y has. each y (Contains-append_right (f x) (flat_map f xs) y has)),
)

-- lists that were joined are the same where each is
pub joined_same : {A B : Type 0} (f g : A → List B) (xs : List A) → AllByRecursion (λ x. f x ≡ g x) xs
    → flat_map f xs ≡ flat_map g xs
joined_same f g [] same = refl
joined_same f g (x ∷ xs) same = rw (same.0, joined_same f g xs same.1) refl

pub mapped_same : {A B : Type 0} (f g : A → B) (xs : List A) → AllByRecursion (λ x. f x ≡ g x) xs → map f xs ≡ map g xs
mapped_same f g [] same = refl
mapped_same f g (x ∷ xs) same = rw (same.0, mapped_same f g xs same.1) refl

-- ---- tables

-- the keys of a table with a value at a number: the number, and those of the table
here : (n k : ℕ) (keys : List ℕ) → (n ≡ k) ⊎ Contains keys k → Contains (n ∷ keys) k
here n k keys (inl is) = subst (λ (z : ℕ). Contains (n ∷ keys) z) is (contains_here n keys)
here n k keys (inr more) = contains_later n keys k more

-- a key that is replaced by the same one
replaced : (n m k : ℕ) (keys : List ℕ) → m ≡ n → (n ≡ k) ⊎ Contains (m ∷ keys) k → Contains (n ∷ keys) k
replaced n m k keys is (inl first) = here n k keys (inl first)
replaced n m k keys is (inr there) = subst (λ (z : ℕ). Contains (z ∷ keys) k) is there

-- a key in front of those behind
passed : (n m k : ℕ) (old new : List ℕ) → ((n ≡ k) ⊎ Contains old k → Contains new k) → (n ≡ k) ⊎ Contains (m ∷ old) k
    → Contains (m ∷ new) k
passed n m k old new rest (inl is) = contains_later m new k (rest (inl is))
passed n m k old new rest (inr more) = elim (contains_cases m old k more) [
  | inl is ↦ here m k new (inl is)
  | inr behind ↦ contains_later m new k (rest (inr behind))
]

put_keys : {A : Type 0} (n : ℕ) (value : A) (entry : ℕ × A) (entries new : List (ℕ × A)) (k : ℕ)
    → ((n ≡ k) ⊎ Contains (keys_of entries) k → Contains (keys_of new) k)
    → (less same : Bool) → (entry.0 == n) ≡ same → (n ≡ k) ⊎ Contains (keys_of (entry ∷ entries)) k
    → Contains (keys_of (cond less ((n, value) ∷ entry ∷ entries) (cond same ((n, value) ∷ entries) (entry ∷ new)))) k
put_keys n value entry entries new k rest true same is has = here n k (keys_of (entry ∷ entries)) has
put_keys n value entry entries new k rest false true is has =
    replaced n entry.0 k (keys_of entries) (eqb-true entry.0 n is) has
put_keys n value entry entries new k rest false false is has =
    passed n entry.0 k (keys_of entries) (keys_of new) rest has

with_value-keys : {A : Type 0} (n : ℕ) (value : A) (entries : List (ℕ × A)) (k : ℕ)
    → (n ≡ k) ⊎ Contains (keys_of entries) k
    → Contains (keys_of (with_value n value entries)) k
with_value-keys n value [] k (inl is) = subst (λ (z : ℕ). Contains (n ∷ []) z) is (contains_here n [])
with_value-keys n value [] k (inr has) = absurd (none_contained k has)
with_value-keys n value (entry ∷ entries) k has =
    put_keys n value entry entries (with_value n value entries) k (λ more. with_value-keys n value entries k more)
    (nat_lt n entry.0) (entry.0 == n) refl has

-- the keys of a table into which elements are put, one after the other
module _ {A B : Type 0} (at : A → ℕ) (value : A → B) where
  abbrev pub table_of : List (ℕ × B) → List A → List (ℕ × B)
  table_of entries xs = fold (λ table x. with_value (at x) (value x) table) entries xs

  stay_keys : (xs : List A) (entries : List (ℕ × B)) (k : ℕ) → Contains (keys_of entries) k
      → Contains (keys_of (table_of entries xs)) k
  stay_keys [] entries k has = has
  stay_keys (x ∷ xs) entries k has =
      stay_keys xs (with_value (at x) (value x) entries) k (with_value-keys (at x) (value x) entries k (inr has))

  pub are_keys : (xs : List A) (entries : List (ℕ × B)) (x : A) → Contains xs x
      → Contains (keys_of (table_of entries xs)) (at x)
  are_keys [] entries x has = absurd (none_contained x has)
  are_keys (y ∷ xs) entries x has =
      let rest = with_value (at y) (value y) entries in
      elim (contains_cases y xs x has) [
        | inl is ↦ stay_keys xs rest (at x) (with_value-keys (at y) (value y) entries (at x) (inl (ap at is)))
        | inr later ↦ are_keys xs rest x later
      ]
