-- Lists that ascend by a number of each element.
use Rattle.std.proofs.Common.{◌≡◌, ℕ, ◌<◌, Bool, true, false, cond, List, [], ◌∷◌, map, arith, refl, sym, ap, subst}
use Rattle.std.proofs.Common.{◌∙◌, inl, inr}
use Rattle.std.specs.Prelude.{◌==◌, nat_lt}
use Rattle.std.specs.List.{AllByRecursion, Contains, IsDistinct, filter}
use Rattle.std.specs.List.Sorted.{IsStrictlySortedBy}
use Rattle.std.specs.Ordering.{nat_cmp}
use Rattle.std.specs.declared.cmp.Ordering.TheVariants.{Less, Equal, Greater}
use Rattle.std.proofs.lemmas.Bool.{cases_Bool, cond-false, cond-true, ltb-true}
use Rattle.std.proofs.lemmas.Bool.Decides.{eqb_tells}
use Rattle.std.proofs.lemmas.Map.Keys.{IsDistinct-cons, sorted_head, sorted_tail}
use Rattle.qg_space.proofs.Members.{filter_contains}
use Rattle.qg_image.proofs.Contained.{contains_cases, contains_here, contains_later, none_contained}

-- ---- numbers in order

less_by : (lt same : Bool) → cond lt Less (cond same Equal Greater) ≡ Less → lt ≡ true
less_by true same is = refl
less_by false true is = absurd cc
less_by false false is = absurd cc

pub less-is : (a b : ℕ) → nat_cmp a b ≡ Less → a < b
less-is a b is = ltb-true a b (less_by (nat_lt a b) (a == b) is)

less_apart : (a b : ℕ) → a < b → (a == b) ≡ false
less_apart a b less = elim (eqb_tells a b) [
  | inl (equal, same) ↦ absurd (omega (arith, same, less))
  | inr (unequal, differ) ↦ unequal
]

all_apart : (a : ℕ) (ns : List ℕ) → AllByRecursion (λ b. nat_cmp a b ≡ Less) ns
    → AllByRecursion (λ b. (a == b) ≡ false) ns
all_apart a [] less = tt
all_apart a (n ∷ ns) less = (less_apart a n (less-is a n less.0), all_apart a ns less.1)

nothing_distinct : IsDistinct (λ (a b : ℕ). a == b) []
unfolding IsDistinct
nothing_distinct = tt

-- numbers that ascend are different
pub sorted-distinct : (ns : List ℕ) → IsStrictlySortedBy nat_cmp ns → IsDistinct (λ a b. a == b) ns
sorted-distinct [] up = nothing_distinct
sorted-distinct (n ∷ ns) up =
    IsDistinct-cons (λ a b. a == b) n ns (all_apart n ns (sorted_head nat_cmp n ns up))
    (sorted-distinct ns (sorted_tail nat_cmp n ns up))

-- ---- elements in the order of their numbers

module _ (A : Type 0) (number : A → ℕ) where
  -- each has a number below those of all behind it
  abbrev pub Ascends : List A → Type 0
  Ascends [] = Unit {0}
  Ascends (x ∷ xs) = ((y : A) → Contains xs y → number x < number y) × Ascends xs

  mapped_less : (a : ℕ) (xs : List A) → AllByRecursion (λ b. nat_cmp a b ≡ Less) (map number xs)
      → (y : A) → Contains xs y → a < number y
  mapped_less a [] less y has = absurd (none_contained y has)
  mapped_less a (x ∷ xs) less y has = elim (contains_cases x xs y has) [
    | inl same ↦ subst (λ (z : A). a < number z) same (less-is a (number x) less.0)
    | inr later ↦ mapped_less a xs less.1 y later
  ]

  pub ascends-sorted : (xs : List A) → IsStrictlySortedBy nat_cmp (map number xs) → Ascends xs
  ascends-sorted [] up = tt
  ascends-sorted (x ∷ xs) up = (
    mapped_less (number x) xs (sorted_head nat_cmp (number x) (map number xs) up),
    ascends-sorted xs (sorted_tail nat_cmp (number x) (map number xs) up),
  )

  pub ascends-filter : (p : A → Bool) (xs : List A) → Ascends xs → Ascends (filter p xs)
  ascends-filter p [] up = tt
  ascends-filter p (x ∷ xs) up = elim (cases_Bool (p x)) [
    | inl passes ↦
        subst Ascends (sym (cond-true (p x) (x ∷ filter p xs) (filter p xs) passes))
        (λ y has. up.0 y (filter_contains p xs y has).0, ascends-filter p xs up.1)
    | inr fails ↦
        subst Ascends (sym (cond-false (p x) (x ∷ filter p xs) (filter p xs) fails)) (ascends-filter p xs up.1)
  ]

  -- the first ones of two such lists that have the same elements are the same
  first_same : (x y : A) (xs ys : List A) → Ascends (x ∷ xs) → Ascends (y ∷ ys) → Contains (y ∷ ys) x
      → Contains (x ∷ xs) y → y ≡ x
  first_same x y xs ys up up' there back = elim (contains_cases y ys x there) [
    | inl same ↦ same
    | inr later ↦ elim (contains_cases x xs y back) [
      | inl same ↦ sym same
      | inr later' ↦
          let one = up'.0 x later in
          let two = up.0 y later' in
          absurd (omega (arith, one, two))
    ]
  ]

  -- what is behind the first of one is behind that of the other
  behind : (x y : A) (xs ys : List A) → Ascends (x ∷ xs) → y ≡ x → ((z : A) → Contains (x ∷ xs) z → Contains (y ∷ ys) z)
      → (z : A) → Contains xs z → Contains ys z
  behind x y xs ys up same into z has = elim (contains_cases y ys z (into z (contains_later x xs z has))) [
    | inl here ↦
        let above = up.0 z has in
        let level : number z ≡ number x = ap number (sym here) ∙ ap number same in
        absurd (omega (arith, above, level))
    | inr later ↦ later
  ]

  -- two that have the same elements are the same
  pub same-ascending : (xs ys : List A) → Ascends xs → Ascends ys → ((z : A) → Contains xs z → Contains ys z)
      → ((z : A) → Contains ys z → Contains xs z) → xs ≡ ys
  same-ascending [] [] up up' into back = refl
  same-ascending [] (y ∷ ys) up up' into back = absurd (none_contained y (back y (contains_here y ys)))
  same-ascending (x ∷ xs) [] up up' into back = absurd (none_contained x (into x (contains_here x xs)))
  same-ascending (x ∷ xs) (y ∷ ys) up up' into back =
      let same = first_same x y xs ys up up' (into x (contains_here x xs)) (back y (contains_here y ys)) in
      let rest = same-ascending xs ys up.1 up'.1 (behind x y xs ys up same into)
      (behind y x ys xs up' (sym same) back) in
      ap (λ (z : A). z ∷ xs) (sym same) ∙ ap (λ (zs : List A). y ∷ zs) rest
