-- What a test keeps of a list, and the front that passes it where the list ascends by a number.
use Rattle.std.proofs.Common.{◌≡◌, ℕ, suc, ◌+◌, ◌≤◌, Bool, true, false, List, [], ◌∷◌, take, drop, refl, sym, ap, subst}
use Rattle.std.proofs.Common.{◌∙◌, arith, inl, inr, cond}
use Rattle.std.specs.Prelude.{Some, None, ◌&&◌, not}
use Rattle.std.specs.List.{Contains, filter, find, prefix_len}
use Rattle.std.specs.List.Sorted.{IsNonDecreasingBy}
use Rattle.std.proofs.lemmas.Bool.{cases_Bool, cond-true, cond-false, true≢false}
use Rattle.qg_image.proofs.Contained.{none_contained, contains_here, contains_later, contains_cases}

-- ---- tests on the elements

module _ {X : Type 0} where
  pub filter_same : (p q : X → Bool) (xs : List X) → ((x : X) → Contains xs x → p x ≡ q x) → filter p xs ≡ filter q xs
  filter_same p q [] same = refl
  filter_same p q (x ∷ xs) same =
      ap (λ ws. cond (p x) (x ∷ ws) ws) (filter_same p q xs (λ y has. same y (contains_later x xs y has)))
      ∙ ap (λ b. cond b (x ∷ filter q xs) (filter q xs)) (same x (contains_here x xs))

  pub find_same : (p q : X → Bool) (xs : List X) → ((x : X) → Contains xs x → p x ≡ q x) → find p xs ≡ find q xs
  find_same p q [] same = refl
  find_same p q (x ∷ xs) same =
      ap (λ w. cond (p x) (Some x) w) (find_same p q xs (λ y has. same y (contains_later x xs y has)))
      ∙ ap (λ b. cond b (Some x) (find q xs)) (same x (contains_here x xs))

  pub all_pass : (p : X → Bool) (xs : List X) → ((x : X) → Contains xs x → p x ≡ true) → filter p xs ≡ xs
  all_pass p [] each = refl
  all_pass p (x ∷ xs) each =
      cond-true (p x) _ _ (each x (contains_here x xs))
      ∙ ap (λ ws. x ∷ ws) (all_pass p xs (λ y has. each y (contains_later x xs y has)))

  pub none_pass : (p : X → Bool) (xs : List X) → ((x : X) → Contains xs x → p x ≡ false) → filter p xs ≡ []
  none_pass p [] each = refl
  none_pass p (x ∷ xs) each = cond-false (p x) _ _ (each x (contains_here x xs))
      ∙ none_pass p xs (λ y has. each y (contains_later x xs y has))

  pub none_found : (p : X → Bool) (xs : List X) → ((x : X) → Contains xs x → p x ≡ false) → find p xs ≡ None
  none_found p [] each = refl
  none_found p (x ∷ xs) each = cond-false (p x) _ _ (each x (contains_here x xs))
      ∙ none_found p xs (λ y has. each y (contains_later x xs y has))

  -- a test after another one
  pub filter_of_filter : (p q r : X → Bool) (xs : List X) → ((x : X) → (q x && p x) ≡ r x)
      → filter p (filter q xs) ≡ filter r xs
  filter_of_filter p q r [] both = refl
  filter_of_filter p q r (x ∷ xs) both =
      let later = filter_of_filter p q r xs both in
      elim (cases_Bool (q x)) [
        | inl holds ↦
            let one : p x ≡ r x = sym (ap (λ b. b && p x) holds) ∙ both x in
            ap (filter p) (cond-true (q x) (x ∷ filter q xs) (filter q xs) holds)
            ∙ ap (λ ws. cond (p x) (x ∷ ws) ws) later
            ∙ ap (λ b. cond b (x ∷ filter r xs) (filter r xs)) one
        | inr fails ↦
            let none : r x ≡ false = sym (both x) ∙ ap (λ b. b && p x) fails in
            ap (filter p) (cond-false (q x) (x ∷ filter q xs) (filter q xs) fails) ∙ later
            ∙ sym (cond-false (r x) (x ∷ filter r xs) (filter r xs) none)
      ]

  pub find_of_filter : (p q r : X → Bool) (xs : List X) → ((x : X) → (q x && p x) ≡ r x)
      → find p (filter q xs) ≡ find r xs
  find_of_filter p q r [] both = refl
  find_of_filter p q r (x ∷ xs) both =
      let later = find_of_filter p q r xs both in
      elim (cases_Bool (q x)) [
        | inl holds ↦
            let one : p x ≡ r x = sym (ap (λ b. b && p x) holds) ∙ both x in
            ap (find p) (cond-true (q x) (x ∷ filter q xs) (filter q xs) holds) ∙ ap (λ w. cond (p x) (Some x) w) later
            ∙ ap (λ b. cond b (Some x) (find r xs)) one
        | inr fails ↦
            let none : r x ≡ false = sym (both x) ∙ ap (λ b. b && p x) fails in
            ap (find p) (cond-false (q x) (x ∷ filter q xs) (filter q xs) fails) ∙ later
            ∙ sym (cond-false (r x) (Some x) (find r xs) none)
      ]

  -- what is kept
  pub contains_kept : (p : X → Bool) (xs : List X) (x : X) → Contains xs x → p x ≡ true → Contains (filter p xs) x
  contains_kept p [] x has holds = has
  contains_kept p (z ∷ zs) x has holds = elim (contains_cases z zs x has) [
    | inl is ↦
        subst (λ ws. Contains ws x)
        (sym (cond-true (p z) (z ∷ filter p zs) (filter p zs) (subst (λ w. p w ≡ true) (sym is) holds)))
        (subst (λ w. Contains (z ∷ filter p zs) w) is (contains_here z (filter p zs)))
    | inr later ↦
        let there = contains_kept p zs x later holds in
        elim (cases_Bool (p z)) [
          | inl first ↦ subst (λ ws. Contains ws x) (sym (cond-true (p z) (z ∷ filter p zs) (filter p zs) first))
              (contains_later z (filter p zs) x there)
          | inr not' ↦ subst (λ ws. Contains ws x) (sym (cond-false (p z) (z ∷ filter p zs) (filter p zs) not')) there
        ]
  ]

  pub kept_contains : (p : X → Bool) (xs : List X) (x : X) → Contains (filter p xs) x → Contains xs x × (p x ≡ true)
  kept_contains p [] x has = absurd (none_contained x has)
  kept_contains p (z ∷ zs) x has = elim (cases_Bool (p z)) [
    | inl first ↦ elim (contains_cases z (filter p zs) x
        (subst (λ ws. Contains ws x) (cond-true (p z) (z ∷ filter p zs) (filter p zs) first) has)) [
          | inl is ↦ (subst (λ w. Contains (z ∷ zs) w) is (contains_here z zs), subst (λ w. p w ≡ true) is first)
          | inr later ↦ let found = kept_contains p zs x later in (contains_later z zs x found.0, found.1)
        ]
    | inr not' ↦
        let found = kept_contains p zs x
        (subst (λ ws. Contains ws x) (cond-false (p z) (z ∷ filter p zs) (filter p zs) not') has) in
        (contains_later z zs x found.0, found.1)
  ]

-- ---- lists that ascend

-- the number of each is no higher than that of any later one
abbrev pub Rises : {X : Type 0} → (X → ℕ) → List X → Type 0
Rises key [] = Unit {0}
Rises {X} key (x ∷ xs) = ((y : X) → Contains xs y → key x ≤ key y) × Rises key xs

pub rises_by : {X : Type 0} (key : X → ℕ) (xs : List X) → IsNonDecreasingBy key xs → Rises key xs
rises_by key [] up = tt
rises_by key (x ∷ xs) up = (
  λ y has. subst (λ w. key x ≤ key w) has.2 (up 0 (suc has.0) y (omega arith) (omega (arith, has.1))),
  rises_by key xs (λ i j d le h. up (suc i) (suc j) d (omega (arith, le)) (omega (arith, h))),
)

-- what passes at a number passes at each lower one
abbrev pub Falls : {X : Type 0} → (X → ℕ) → (X → Bool) → Type 0
Falls {X} key p = (x y : X) → key x ≤ key y → p y ≡ true → p x ≡ true

module _ {X : Type 0} (key : X → ℕ) (p : X → Bool) (falls : Falls key p) where
  none_later : (x : X) (xs : List X) → Rises key (x ∷ xs) → p x ≡ false → (y : X) → Contains (x ∷ xs) y → p y ≡ false
  none_later x xs up fails y has = elim (cases_Bool (p y)) [
    | inl holds ↦ elim (contains_cases x xs y has) [
      | inl is ↦ absurd (true≢false (sym holds ∙ subst (λ w. p w ≡ false) is fails))
      | inr later ↦ absurd (true≢false (sym (falls x y (up.0 y later) holds) ∙ fails))
    ]
    | inr fails' ↦ fails'
  ]

  -- the front that passes is all that passes
  pub take_front : (xs : List X) → Rises key xs → take (prefix_len p xs) xs ≡ filter p xs
  take_front [] up = refl
  take_front (x ∷ xs) up = elim (cases_Bool (p x)) [
    | inl holds ↦
        let more : prefix_len p (x ∷ xs) ≡ suc (prefix_len p xs) = cond-true {A = ℕ} (p x) (1 + prefix_len p xs) 0 holds
        ∙ omega arith in
        ap (λ n. take n (x ∷ xs)) more ∙ ap (λ ws. x ∷ ws) (take_front xs up.1)
        ∙ sym (cond-true (p x) (x ∷ filter p xs) (filter p xs) holds)
    | inr fails ↦ ap (λ n. take n (x ∷ xs)) (cond-false (p x) (1 + prefix_len p xs) 0 fails)
        ∙ sym (none_pass p (x ∷ xs) (none_later x xs up fails))
  ]

  -- what stands behind it is all that fails
  pub drop_front : (xs : List X) → Rises key xs → drop (prefix_len p xs) xs ≡ filter (λ x. not (p x)) xs
  drop_front [] up = refl
  drop_front (x ∷ xs) up = elim (cases_Bool (p x)) [
    | inl holds ↦
        let more : prefix_len p (x ∷ xs) ≡ suc (prefix_len p xs) = cond-true {A = ℕ} (p x) (1 + prefix_len p xs) 0 holds
        ∙ omega arith in
        ap (λ n. drop n (x ∷ xs)) more ∙ drop_front xs up.1
        ∙ sym (cond-false (not (p x)) (x ∷ filter (λ x. not (p x)) xs) (filter (λ x. not (p x)) xs) (ap not holds))
    | inr fails ↦
        ap (λ n. drop n (x ∷ xs)) (cond-false (p x) (1 + prefix_len p xs) 0 fails)
        ∙ sym (all_pass (λ x. not (p x)) (x ∷ xs) (λ y has. ap not (none_later x xs up fails y has)))
  ]
