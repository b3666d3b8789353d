-- What stands in a list, by its index.
use Rattle.std.proofs.Common.{◌≡◌, ℕ, zero, suc, ◌+◌, ◌<◌, List, [], ◌∷◌, ◌++◌, length, take, get_or, Some, refl, sym}
use Rattle.std.proofs.Common.{subst, ◌∙◌, arith, ◌⊎◌, inl, inr, length-take}
use Rattle.std.specs.Prelude.{slice_get}
use Rattle.std.specs.List.{All, Contains}
use Rattle.std.proofs.lemmas.Option.{same_Some, slice_get_read, slice_get_within, get_or_from_slice_get}
use Rattle.std.proofs.lemmas.List.{take_more}
use Rattle.std.proofs.lemmas.List.Elements.{Contains-append_left, Contains-push, Contains-push_cases}

-- ---- at an index

pub at_one : {A : Type 0} (xs : List A) (i : ℕ) (x y : A) → slice_get xs i ≡ Some x → slice_get xs i ≡ Some y → x ≡ y
at_one xs i x y first second = same_Some x y (sym first ∙ second)

pub at_along : {A : Type 0} (xs : List A) (i j : ℕ) (x : A) → i ≡ j → slice_get xs i ≡ Some x → slice_get xs j ≡ Some x
at_along xs i j x same at = subst (λ k. slice_get xs k ≡ Some x) same at

pub index_of : {A : Type 0} (xs : List A) (x : A) → Contains xs x → (i : ℕ) × (slice_get xs i ≡ Some x)
index_of xs x has = (has.0, slice_get_read xs (length xs) has.0 x refl has.1 (sym has.2))

pub contains_at : {A : Type 0} (xs : List A) (i : ℕ) (x : A) → slice_get xs i ≡ Some x → Contains xs x
contains_at xs i x at = (i, slice_get_within xs i x at, get_or_from_slice_get xs i x x at)

pub at_read : {A : Type 0} (xs : List A) (i : ℕ) (x : A) → i < length xs → x ≡ get_or xs i x → slice_get xs i ≡ Some x
at_read xs i x inside is = slice_get_read xs (length xs) i x refl inside is

pub All-at : {A : Type 0} (P : A → Type 0) (xs : List A) (i : ℕ) (x : A) → All P xs → slice_get xs i ≡ Some x → P x
All-at P xs i x all at = subst P (get_or_from_slice_get xs i x x at) (all i x (slice_get_within xs i x at))

-- ---- the front of a list

front_at : {A : Type 0} (n : ℕ) (xs : List A) (i : ℕ) → i < n → slice_get (take n xs) i ≡ slice_get xs i
front_at zero xs i short = absurd (omega arith)
front_at (suc n) [] i short = refl
front_at (suc n) (x ∷ xs) zero short = refl
front_at (suc n) (x ∷ xs) (suc i) short = front_at n xs i (omega arith)

pub at_front : {A : Type 0} (n : ℕ) (xs : List A) (i : ℕ) (x : A) → i < n → slice_get xs i ≡ Some x
    → slice_get (take n xs) i ≡ Some x
at_front n xs i x short at = front_at n xs i short ∙ at

pub within_front : {A : Type 0} (n : ℕ) (xs : List A) (i : ℕ) (x : A) → slice_get (take n xs) i ≡ Some x → i < n
within_front n xs i x at = let short = slice_get_within (take n xs) i x at in omega (arith, length-take n xs)

pub at_whole : {A : Type 0} (n : ℕ) (xs : List A) (i : ℕ) (x : A) → slice_get (take n xs) i ≡ Some x
    → slice_get xs i ≡ Some x
at_whole n xs i x at = sym (front_at n xs i (within_front n xs i x at)) ∙ at

-- one more of a list is in the front
pub in_front_more : {A : Type 0} (xs : List A) (i : ℕ) (x y : A) → i < length xs → x ≡ get_or xs i x
    → Contains (take i xs) y ⊎ (x ≡ y) → Contains (take (i + 1) xs) y
in_front_more xs i x y short is (inl earlier) =
    subst (λ front. Contains front y) (sym (take_more xs i x short))
    (Contains-append_left (take i xs) (get_or xs i x ∷ []) y earlier)
in_front_more xs i x y short is (inr same) =
    subst (λ front. Contains front y) (sym (take_more xs i x short))
    (subst (λ z. Contains (take i xs ++ z ∷ []) y) is
    (subst (λ z. Contains (take i xs ++ x ∷ []) z) same (Contains-push (take i xs) x)))

pub front_more_cases : {A : Type 0} (xs : List A) (i : ℕ) (x y : A) → i < length xs → x ≡ get_or xs i x
    → Contains (take (i + 1) xs) y → Contains (take i xs) y ⊎ (x ≡ y)
front_more_cases xs i x y short is has =
    Contains-push_cases (take i xs) x y
    (subst (λ z. Contains (take i xs ++ z ∷ []) y) (sym is)
    (subst (λ front. Contains front y) (take_more xs i x short) has))
