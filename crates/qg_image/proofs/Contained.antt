-- What a list contains: nothing where it is empty, else its first and what the others contain.
use Rattle.std.proofs.Common.{◌≡◌, ℕ, zero, suc, ◌<◌, List, [], ◌∷◌, length, get_or, refl, arith, ◌⊎◌, inl, inr}
use Rattle.std.specs.List.{Contains}

pub none_contained : {A : Type 0} (x : A) → Contains [] x → ⊥
none_contained x has = omega (arith, has.1)

pub contains_here : {A : Type 0} (x : A) (xs : List A) → Contains (x ∷ xs) x
contains_here x xs = (0, omega arith, refl)

pub contains_later : {A : Type 0} (y : A) (xs : List A) (x : A) → Contains xs x → Contains (y ∷ xs) x
contains_later y xs x has = (suc has.0, omega (arith, has.1), has.2)

pub contains_cases : {A : Type 0} (y : A) (xs : List A) (x : A) → Contains (y ∷ xs) x → (y ≡ x) ⊎ Contains xs x
contains_cases {A} y xs x has = at has.0 has.1 has.2 where
  at : (k : ℕ) → k < length (y ∷ xs) → get_or (y ∷ xs) k x ≡ x → (y ≡ x) ⊎ Contains xs x
  at zero short is = inl is
  at (suc k) short is = inr (k, omega (arith, short), is)
