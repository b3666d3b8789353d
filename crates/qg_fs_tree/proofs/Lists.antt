-- What lists contain that are made of others.
use Rattle.std.proofs.Common.{◌≡◌, List, [], ◌∷◌, map, Option, Some, None, refl, sym, ap, subst, ◌∙◌, inl, inr}
use Rattle.std.specs.List.{AllByRecursion, Contains, cons_option, filter_map, flat_map}
use Rattle.std.proofs.lemmas.List.Concat.{flat_map-cons}
use Rattle.std.proofs.lemmas.List.Elements.{Contains-append_cases, Contains-append_left, Contains-append_right}
use Rattle.qg_image.proofs.Contained.{contains_cases, contains_here, contains_later, none_contained}

-- ---- a part of what is made

-- what is made of a list comes of something in it
pub from-some : {X Y : Type 0} (f : X → Option Y) (xs : List X) (y : Y) → Contains (filter_map f xs) y
    → (x : X) × Contains xs x × (f x ≡ Some y)
from-some f [] y has = absurd (none_contained y has)
from-some {X} {Y} f (x ∷ xs) y has = first_or (from-some f xs y) (f x) refl has where
  first_or : (Contains (filter_map f xs) y → (z : X) × Contains xs z × (f z ≡ Some y)) → (o : Option Y) → f x ≡ o
      → Contains (cons_option o (filter_map f xs)) y → (z : X) × Contains (x ∷ xs) z × (f z ≡ Some y)
  first_or rest None is has = let found = rest has in (found.0, contains_later x xs found.0 found.1, found.2)
  first_or rest (Some first) is has = elim (contains_cases first (filter_map f xs) y has) [
    | inl same ↦ (x, contains_here x xs, is ∙ ap Some same)
    | inr later ↦ let found = rest later in (found.0, contains_later x xs found.0 found.1, found.2)
  ]

-- and what is in it is made
made_later : {Y : Type 0} (o : Option Y) (ys : List Y) (y : Y) → Contains ys y → Contains (cons_option o ys) y
made_later None ys y has = has
made_later (Some first) ys y has = contains_later first ys y has

pub made-some : {X Y : Type 0} (f : X → Option Y) (xs : List X) (x : X) (y : Y) → Contains xs x → f x ≡ Some y
    → Contains (filter_map f xs) y
made-some f [] x y has is = absurd (none_contained x has)
made-some f (z ∷ xs) x y has is = elim (contains_cases z xs x has) [
  | inl same ↦
      subst (λ (o : Option _). Contains (cons_option o (filter_map f xs)) y) (sym (ap f same ∙ is))
      (contains_here y (filter_map f xs))
  | inr later ↦ made_later (f z) (filter_map f xs) y (made-some f xs x y later is)
]

-- ---- each made into one

pub has-mapped : {A B : Type 0} (f : A → B) (xs : List A) (x : A) → Contains xs x → Contains (map f xs) (f x)
has-mapped f [] x has = absurd (none_contained x has)
has-mapped {A} {B} f (z ∷ zs) x has = elim (contains_cases z zs x has) [
  | inl same ↦ subst (λ (w : A). Contains (f z ∷ map f zs) (f w)) same (contains_here (f z) (map f zs))
  | inr later ↦ contains_later (f z) (map f zs) (f x) (has-mapped f zs x later)
]

pub from-mapped : {A B : Type 0} (f : A → B) (xs : List A) (y : B) → Contains (map f xs) y
    → (x : A) × Contains xs x × (f x ≡ y)
from-mapped f [] y has = absurd (none_contained y has)
from-mapped f (z ∷ zs) y has = elim (contains_cases (f z) (map f zs) y has) [
  | inl same ↦ (z, contains_here z zs, same)
  | inr later ↦ let found = from-mapped f zs y later in (found.0, contains_later z zs found.0 found.1, found.2)
]

-- ---- each made into several

pub has-flat : {A B : Type 0} (f : A → List B) (xs : List A) (x : A) (y : B) → Contains xs x → Contains (f x) y
    → Contains (flat_map f xs) y
has-flat f [] x y has own = absurd (none_contained x has)
has-flat {A} {B} f (z ∷ zs) x y has own =
    subst (λ (ys : List B). Contains ys y) (sym (flat_map-cons f z zs))
    (elim (contains_cases z zs x has) [
      | inl same ↦
          Contains-append_left (f z) (flat_map f zs) y (subst (λ (w : A). Contains (f w) y) (sym same) own)
      | inr later ↦ Contains-append_right (f z) (flat_map f zs) y (has-flat f zs x y later own)
    ])

pub from-flat : {A B : Type 0} (f : A → List B) (xs : List A) (y : B) → Contains (flat_map f xs) y
    → (x : A) × Contains xs x × Contains (f x) y
from-flat f [] y has = absurd (none_contained y has)
from-flat {A} {B} f (z ∷ zs) y has =
    let both = subst (λ (ys : List B). Contains ys y) (flat_map-cons f z zs) has in
    elim (Contains-append_cases (f z) (flat_map f zs) y both) [
      | inl own ↦ (z, contains_here z zs, own)
      | inr later ↦ let found = from-flat f zs y later in (found.0, contains_later z zs found.0 found.1, found.2)
    ]

-- ---- all of a list

pub all-contained : {A : Type 0} (P : A → Type 0) (xs : List A) → ((x : A) → Contains xs x → P x) → AllByRecursion P xs
all-contained P [] each = tt
all-contained P (x ∷ xs) each =
    (each x (contains_here x xs), all-contained P xs (λ y has. each y (contains_later x xs y has)))
