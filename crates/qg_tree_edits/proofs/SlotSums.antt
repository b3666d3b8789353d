-- Sums over slots, each by how many ways lead to it.
use Rattle.std.proofs.Common.{◌≡◌, ℕ, zero, suc, ◌+◌, ◌*◌, ◌<◌, ◌≤◌, List, [], ◌∷◌, arith, refl, sym, ap, ◌∙◌, inl, inr}
use Rattle.std.specs.List.{sum_by}
use Rattle.std.proofs.Math.Nat.{add-mul, mul-add, mul-le-mul_left}
use Rattle.std.proofs.lemmas.Bool.Decides.{eqb_tells}
use Rattle.std.proofs.lemmas.List.Sums.{sum_by-cons}
use Rattle.qg_tree_edits.specs.Counting.{one}
use Rattle.qg_tree_edits.proofs.Ways.{one-here, one-other}

-- ---- sums by terms

module _ {A : Type 0} where
  pub sums-same : (f g : A → ℕ) (xs : List A) → ((x : A) → f x ≡ g x) → sum_by f xs ≡ sum_by g xs
  sums-same f g [] same = refl
  sums-same f g (x ∷ xs) same =
      let here = same x in
      let rest = sums-same f g xs same in
      let first = sum_by-cons f x xs in
      let last = sum_by-cons g x xs in
      omega (arith, here, rest, first, last)

  pub sums-less : (f g : A → ℕ) (xs : List A) → ((x : A) → f x ≤ g x) → sum_by f xs ≤ sum_by g xs
  sums-less f g [] less = omega arith
  sums-less f g (x ∷ xs) less =
      let here = less x in
      let rest = sums-less f g xs less in
      let first = sum_by-cons f x xs in
      let last = sum_by-cons g x xs in
      omega (arith, here, rest, first, last)

  pub sums-plus : (f g : A → ℕ) (xs : List A) → sum_by (λ x. f x + g x) xs ≡ sum_by f xs + sum_by g xs
  sums-plus f g [] = refl
  sums-plus f g (x ∷ xs) =
      let rest = sums-plus f g xs in
      let both = sum_by-cons (λ (y : A). f y + g y) x xs in
      let first = sum_by-cons f x xs in
      let last = sum_by-cons g x xs in
      omega (arith, rest, both, first, last)

  pub sums-none : (f : A → ℕ) (xs : List A) → ((x : A) → f x ≡ 0) → sum_by f xs ≡ 0
  sums-none f [] none = refl
  sums-none f (x ∷ xs) none =
      let here = none x in
      let rest = sums-none f xs none in
      let first = sum_by-cons f x xs in
      omega (arith, here, rest, first)

-- ---- by ways

-- the sum of numbers by slot, each as often as ways lead to the slot
abbrev pub over : List ℕ → (ℕ → ℕ) → (ℕ → ℕ) → ℕ
over slots w f = sum_by (λ s. w s * f s) slots

-- a slot is among them once
abbrev pub IsOnce : List ℕ → ℕ → Type 0
IsOnce slots at = sum_by (one at) slots ≡ 1

weighed : (w n m : ℕ) → (0 < w → n ≡ m) → w * n ≡ w * m
weighed zero n m same = omega arith
weighed (suc w) n m same = ap (λ (k : ℕ). suc w * k) (same (omega arith))

weighed_none : (w n : ℕ) → (0 < w → n ≡ 0) → w * n ≡ 0
weighed_none zero n none = omega arith
weighed_none (suc w) n none = ap (λ (k : ℕ). suc w * k) (none (omega arith)) ∙ omega arith

pub one-most : (at q : ℕ) → one at q ≤ 1
one-most at q = elim (eqb_tells q at) [
  | inl (equal, same) ↦ let here = one-here at q same in omega (arith, here)
  | inr (unequal, differ) ↦ let none = one-other at q differ in omega (arith, none)
]

one_there : (at q : ℕ) (f : ℕ → ℕ) → one at q * f q ≡ one at q * f at
one_there at q f = elim (eqb_tells q at) [
  | inl (equal, same) ↦ ap (λ (k : ℕ). one at q * f k) same
  | inr (unequal, differ) ↦
      let none = one-other at q differ in
      ap (λ (n : ℕ). n * f q) none ∙ (let e : 0 * f q ≡ 0 * f at = omega arith in e)
      ∙ ap (λ (n : ℕ). n * f at) (sym none)
]

module _ (slots : List ℕ) where
  pub over-moved : (v l w g f : ℕ → ℕ) → ((s : ℕ) → v s + l s ≡ w s + g s)
      → over slots v f + over slots l f ≡ over slots w f + over slots g f
  over-moved v l w g f same =
      sym (sums-plus (λ (s : ℕ). v s * f s) (λ (s : ℕ). l s * f s) slots)
      ∙ sums-same (λ (s : ℕ). v s * f s + l s * f s) (λ (s : ℕ). w s * f s + g s * f s) slots
      (λ s. sym (add-mul (v s) (l s) (f s)) ∙ ap (λ (n : ℕ). n * f s) (same s) ∙ add-mul (w s) (g s) (f s))
      ∙ sums-plus (λ (s : ℕ). w s * f s) (λ (s : ℕ). g s * f s) slots

  pub over-same : (w f g : ℕ → ℕ) → ((s : ℕ) → 0 < w s → f s ≡ g s) → over slots w f ≡ over slots w g
  over-same w f g same = sums-same (λ (s : ℕ). w s * f s) (λ (s : ℕ). w s * g s) slots
      (λ s. weighed (w s) (f s) (g s) (same s))

  pub over-none : (w f : ℕ → ℕ) → ((s : ℕ) → 0 < w s → f s ≡ 0) → over slots w f ≡ 0
  over-none w f none = sums-none (λ (s : ℕ). w s * f s) slots (λ s. weighed_none (w s) (f s) (none s))

  pub over-plus : (w f g : ℕ → ℕ) → over slots w (λ s. f s + g s) ≡ over slots w f + over slots w g
  over-plus w f g =
      sums-same (λ (s : ℕ). w s * (f s + g s)) (λ (s : ℕ). w s * f s + w s * g s) slots
      (λ s. mul-add (w s) (f s) (g s))
      ∙ sums-plus (λ (s : ℕ). w s * f s) (λ (s : ℕ). w s * g s) slots

  pub over-less : (w f g : ℕ → ℕ) → ((s : ℕ) → f s ≤ g s) → over slots w f ≤ over slots w g
  over-less w f g less = sums-less (λ (s : ℕ). w s * f s) (λ (s : ℕ). w s * g s) slots
      (λ s. mul-le-mul_left (w s) (less s))

  -- other weights that are the same
  pub over-alike : (v w f : ℕ → ℕ) → ((s : ℕ) → v s ≡ w s) → over slots v f ≡ over slots w f
  over-alike v w f same = sums-same (λ (s : ℕ). v s * f s) (λ (s : ℕ). w s * f s) slots
      (λ s. ap (λ (n : ℕ). n * f s) (same s))

  -- two counts of ways together
  pub over-weights : (v w f : ℕ → ℕ) → over slots (λ s. v s + w s) f ≡ over slots v f + over slots w f
  over-weights v w f =
      sums-same (λ (s : ℕ). (v s + w s) * f s) (λ (s : ℕ). v s * f s + w s * f s) slots (λ s. add-mul (v s) (w s) (f s))
      ∙ sums-plus (λ (s : ℕ). v s * f s) (λ (s : ℕ). w s * f s) slots

  -- and one for each of some
  pub over-each : {A : Type 0} (w : A → ℕ → ℕ) (xs : List A) (f : ℕ → ℕ)
      → over slots (λ s. sum_by (λ x. w x s) xs) f ≡ sum_by (λ x. over slots (w x) f) xs
  over-each w [] f = sums-none (λ (s : ℕ). 0 * f s) slots (λ s. omega arith)
  over-each {A} w (x ∷ xs) f =
      over-alike (λ (s : ℕ). sum_by (λ (y : A). w y s) (x ∷ xs)) (λ (s : ℕ). w x s + sum_by (λ (y : A). w y s) xs) f
      (λ s. sum_by-cons (λ (y : A). w y s) x xs)
      ∙ over-weights (w x) (λ (s : ℕ). sum_by (λ (y : A). w y s) xs) f
      ∙ ap (λ (n : ℕ). over slots (w x) f + n) (over-each w xs f)
      ∙ sym (sum_by-cons (λ (y : A). over slots (w y) f) x xs)

over_first : (slots : List ℕ) (at : ℕ) (f : ℕ → ℕ) → over slots (one at) f ≡ sum_by (one at) slots * f at
over_first [] at f = omega arith
over_first (s ∷ slots) at f =
    let terms = sum_by-cons (λ (q : ℕ). one at q * f q) s slots in
    let ones = ap (λ (n : ℕ). n * f at) (sum_by-cons (one at) s slots) ∙ add-mul (one at s) (sum_by (one at) slots)
    (f at) in
    let here = one_there at s f in
    let rest = over_first slots at f in
    omega (arith, terms, ones, here, rest)

module _ (slots : List ℕ) (at : ℕ) (once : IsOnce slots at) where
  -- one way, to one slot
  pub over-one : (f : ℕ → ℕ) → over slots (one at) f ≡ f at
  over-one f = over_first slots at f ∙ ap (λ (n : ℕ). n * f at) once ∙ omega arith

  -- one term is part of the sum
  pub over-part : (w f : ℕ → ℕ) → w at * f at ≤ over slots w f
  over-part w f =
      let term = over-one (λ (s : ℕ). w s * f s) in
      let less = sums-less (λ (s : ℕ). one at s * (w s * f s)) (λ (s : ℕ). w s * f s) slots
      (λ s. few (one at s) (w s * f s) (one-most at s)) in
      omega (arith, term, less) where
        few : (k n : ℕ) → k ≤ 1 → k * n ≤ n
        few zero n most = omega arith
        few (suc zero) n most = omega arith
        few (suc (suc k)) n most = absurd (omega (arith, most))

  -- of one way at least
  pub over-some : (w f : ℕ → ℕ) → 0 < w at → f at ≤ over slots w f
  over-some w f some =
      let part = over-part w f in
      let least = once_least (w at) (f at) some in
      omega (arith, part, least) where
        once_least : (k n : ℕ) → 0 < k → n ≤ k * n
        once_least zero n some = absurd (omega (arith, some))
        once_least (suc k) n some = let e = add-mul k 1 n in let f : suc k ≡ k + 1 = omega arith in let g =
            ap (λ (m : ℕ). m * n) f in omega (arith, e, g)
