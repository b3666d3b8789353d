-- What stands at an index of a list in which some were put in the place of others.
use Rattle.std.proofs.Common.{◌≡◌, ◌⊎◌, ℕ, zero, suc, ◌≤◌, ◌<◌, List, [], ◌∷◌, ◌++◌, take, drop, length, arith, ap, inl}
use Rattle.std.proofs.Common.{inr, Some}
use Rattle.std.specs.Prelude.{slice_get}

pub append-get : {A : Type 0} (xs ys : List A) (i : ℕ) (x : A) → slice_get (xs ++ ys) i ≡ Some x
    → (slice_get xs i ≡ Some x) ⊎ ((k : ℕ) × (slice_get ys k ≡ Some x))
append-get [] ys i x is = inr (i, is)
append-get (z ∷ xs) ys zero x is = inl is
append-get (z ∷ xs) ys (suc i) x is = append-get xs ys i x is

pub take-get : {A : Type 0} (n : ℕ) (xs : List A) (i : ℕ) (x : A) → slice_get (take n xs) i ≡ Some x
    → (i < n) × (slice_get xs i ≡ Some x)
take-get zero xs i x is = absurd cc
take-get (suc n) [] i x is = absurd cc
take-get (suc n) (z ∷ xs) zero x is = (omega arith, is)
take-get (suc n) (z ∷ xs) (suc i) x is = let later = take-get n xs i x is in let low = later.0 in
    (omega (arith, low), later.1)

pub drop-get : {A : Type 0} (n : ℕ) (xs : List A) (i : ℕ) (x : A) → slice_get (drop n xs) i ≡ Some x
    → (j : ℕ) × (n ≤ j) × (slice_get xs j ≡ Some x)
drop-get zero xs i x is = (i, omega arith, is)
drop-get (suc n) [] i x is = absurd cc
drop-get (suc n) (z ∷ xs) i x is = let later = drop-get n xs i x is in let high = later.1 in
    (suc later.0, omega (arith, high), later.2)

-- one that stayed, at another index than those that went, or a new one
pub spliced-get : {A : Type 0} (xs new : List A) (from to i : ℕ) (x : A)
    → slice_get (take from xs ++ new ++ drop to xs) i ≡ Some x
    → ((j : ℕ) × ((j < from) ⊎ (to ≤ j)) × (slice_get xs j ≡ Some x)) ⊎ ((k : ℕ) × (slice_get new k ≡ Some x))
spliced-get {A} xs new from to i x is = last (append-get (take from xs ++ new) (drop to xs) i x is) where
  first : (j : ℕ) → (slice_get (take from xs) j ≡ Some x) ⊎ ((k : ℕ) × (slice_get new k ≡ Some x))
      → ((j : ℕ) × ((j < from) ⊎ (to ≤ j)) × (slice_get xs j ≡ Some x)) ⊎ ((k : ℕ) × (slice_get new k ≡ Some x))
  first j (inl there) = let stays = take-get from xs j x there in inl (j, inl stays.0, stays.1)
  first j (inr new_one) = inr new_one

  last : (slice_get (take from xs ++ new) i ≡ Some x) ⊎ ((k : ℕ) × (slice_get (drop to xs) k ≡ Some x))
      → ((j : ℕ) × ((j < from) ⊎ (to ≤ j)) × (slice_get xs j ≡ Some x)) ⊎ ((k : ℕ) × (slice_get new k ≡ Some x))
  last (inl front) = first i (append-get (take from xs) new i x front)
  last (inr (k, there)) = let stays = drop-get to xs k x there in inl (stays.0, inr stays.1, stays.2)

-- the list from an index on begins with what stands there
pub drop-there : {A : Type 0} (xs : List A) (i : ℕ) (x : A) → slice_get xs i ≡ Some x → drop i xs ≡ x ∷ drop (suc i) xs
drop-there [] i x is = absurd cc
drop-there (y ∷ xs) zero x is = let same : y ≡ x = cc in ap (λ (z : _). z ∷ xs) same
drop-there (y ∷ xs) (suc i) x is = drop-there xs i x is

-- and the list up to behind it ends with it
pub take-there : {A : Type 0} (xs : List A) (i : ℕ) (x : A) → slice_get xs i ≡ Some x
    → take (suc i) xs ≡ take i xs ++ x ∷ []
take-there [] i x is = absurd cc
take-there (y ∷ xs) zero x is = let same : y ≡ x = cc in ap (λ (z : _). z ∷ []) same
take-there (y ∷ xs) (suc i) x is = ap (λ (zs : List _). y ∷ zs) (take-there xs i x is)

-- what stands in the front stands there in the list, and what stands behind does
pub get-take : {A : Type 0} (n : ℕ) (xs : List A) (i : ℕ) (x : A) → i < n → slice_get xs i ≡ Some x
    → slice_get (take n xs) i ≡ Some x
get-take zero xs i x low is = absurd (omega arith)
get-take (suc n) [] i x low is = absurd cc
get-take (suc n) (z ∷ xs) zero x low is = is
get-take (suc n) (z ∷ xs) (suc i) x low is = get-take n xs i x (omega (arith, low)) is

pub get-drop : {A : Type 0} (n : ℕ) (xs : List A) (i : ℕ) (x : A) → n ≤ i → slice_get xs i ≡ Some x
    → (k : ℕ) × (slice_get (drop n xs) k ≡ Some x)
get-drop zero xs i x high is = (i, is)
get-drop (suc n) [] i x high is = absurd cc
get-drop (suc n) (z ∷ xs) zero x high is = absurd (omega arith)
get-drop (suc n) (z ∷ xs) (suc i) x high is = get-drop n xs i x (omega (arith, high)) is

pub got-inside : {A : Type 0} (i : ℕ) (xs : List A) (x : A) → slice_get xs i ≡ Some x → i < length xs
got-inside i [] x is = absurd cc
got-inside zero (y ∷ xs) x is = omega arith
got-inside (suc i) (y ∷ xs) x is = let low = got-inside i xs x is in omega (arith, low)
