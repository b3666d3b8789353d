-- The elements of a list.
use Rattle.std.proofs.Common.{◌≡◌, List, [], ◌∷◌, map, sym, subst, inl, inr}
use Rattle.std.specs.List.{AllByRecursion, Contains, flat_map}
use Rattle.std.specs.List.Sorted.{IsPermutation}
use Rattle.std.proofs.lemmas.List.Elements.{All-contains, All-from_recursion, Contains-append_left}
use Rattle.std.proofs.lemmas.List.Elements.{Contains-append_right, Contains-append_cases}
use Rattle.std.proofs.lemmas.List.Sorted.{Contains-permutation, IsPermutation-sym}
use Rattle.qg_image.proofs.Contained.{none_contained, contains_here, contains_later, contains_cases}
use Rattle.qg_reach.specs.Sets.{HaveSame}

-- ---- what holds of each of them

pub each_contained : {A : Type 0} (P : A → Type 0) (xs : List A) (x : A) → AllByRecursion P xs → Contains xs x → P x
each_contained P xs x all has = All-contains P xs x (All-from_recursion P xs all) has

pub all_weaker : {A : Type 0} (P Q : A → Type 0) → ((x : A) → P x → Q x) → (xs : List A) → AllByRecursion P xs
    → AllByRecursion Q xs
all_weaker P Q step [] all = tt
all_weaker P Q step (x ∷ xs) all = (step x all.0, all_weaker P Q step xs all.1)

-- ---- what a function gives of them

pub contains_map : {A B : Type 0} (f : A → B) (xs : List A) (x : A) → Contains xs x → Contains (map f xs) (f x)
contains_map f [] x has = absurd (none_contained x has)
contains_map f (z ∷ zs) x has = elim (contains_cases z zs x has) [
  | inl is ↦ subst (λ w. Contains (f z ∷ map f zs) (f w)) is (contains_here (f z) (map f zs))
  | inr later ↦ contains_later (f z) (map f zs) (f x) (contains_map f zs x later)
]

pub one_mapped : {A B : Type 0} (f : A → B) (xs : List A) (y : B) → Contains (map f xs) y
    → (x : A) × Contains xs x × (f x ≡ y)
one_mapped f [] y has = absurd (none_contained y has)
one_mapped f (z ∷ zs) y has = elim (contains_cases (f z) (map f zs) y has) [
  | inl is ↦ (z, contains_here z zs, is)
  | inr later ↦ let found = one_mapped f zs y later in (found.0, contains_later z zs found.0 found.1, found.2)
]

pub contains_flat_map : {A B : Type 0} (f : A → List B) (xs : List A) (x : A) (y : B) → Contains xs x → Contains (f x) y
    → Contains (flat_map f xs) y
contains_flat_map f [] x y has given = absurd (none_contained x has)
contains_flat_map f (z ∷ zs) x y has given = elim (contains_cases z zs x has) [
  | inl is ↦ Contains-append_left (f z) (flat_map f zs) y (subst (λ w. Contains (f w) y) (sym is) given)
  | inr later ↦ Contains-append_right (f z) (flat_map f zs) y (contains_flat_map f zs x y later given)
]

pub one_flat_mapped : {A B : Type 0} (f : A → List B) (xs : List A) (y : B) → Contains (flat_map f xs) y
    → (x : A) × Contains xs x × Contains (f x) y
one_flat_mapped f [] y has = absurd (none_contained y has)
one_flat_mapped f (z ∷ zs) y has = elim (Contains-append_cases (f z) (flat_map f zs) y has) [
  | inl here ↦ (z, contains_here z zs, here)
  | inr later ↦ let found = one_flat_mapped f zs y later in (found.0, contains_later z zs found.0 found.1, found.2)
]

-- ---- lists of the same elements

pub same_back : {A : Type 0} (xs ys : List A) → HaveSame xs ys → HaveSame ys xs
same_back xs ys same = record { into = same.back; back = same.into }

pub same_on : {A : Type 0} (xs ys zs : List A) → HaveSame xs ys → HaveSame ys zs → HaveSame xs zs
same_on xs ys zs first second = record {
  into = λ x has. second.into x (first.into x has);
  back = λ x has. first.back x (second.back x has);
}

pub same_moved : {A : Type 0} (xs ys : List A) → IsPermutation xs ys → HaveSame xs ys
same_moved xs ys moved = record {
  into = λ x has. Contains-permutation xs ys x moved has;
  back = λ x has. Contains-permutation ys xs x (IsPermutation-sym xs ys moved) has;
}
