-- A subvolume has no more nodes than lie below the data area: they lie in slots, each in its own.
use Rattle.std.proofs.Common.{◌≡◌, ℕ, ◌≤◌, ◌<◌, Bool, true, false, List, [], ◌∷◌, map, eqb, arith, refl, sym, ap, subst}
use Rattle.std.proofs.Common.{◌∙◌, ◌⊎◌, inl, inr}
use Rattle.std.specs.Prelude.{◌==◌, ◌||◌}
use Rattle.std.specs.List.{AllByRecursion, IsDistinct, filter, list_any}
use Rattle.std.proofs.lemmas.Bool.{cases_Bool, cond-false, cond-true, eq-eqb, eqb-true, false≢true, ne_eqb, or_cases}
use Rattle.std.proofs.lemmas.Bool.{true≢false}
use Rattle.std.proofs.lemmas.List.{length-map}
use Rattle.std.proofs.lemmas.Map.Keys.{IsDistinct-cons}
use Rattle.std.proofs.lemmas.Map.Steps.{length-le_from_distinct_below}
use Rattle.qg_image.specs.Table.{has_key}
use Rattle.qg_image.specs.declared.element.Element.{Element}
use Rattle.qg_image.specs.Reach.{distinct, is_among}
use Rattle.qg_image.specs.State.{Placed}
use Rattle.qg_subvolumes.proofs.Among.{nodes_among}

module _ (layout : List (ℕ × Placed)) where
  abbrev kept : List Element → List Element
  kept elements = filter (λ element. has_key element.address layout) elements

  abbrev once : List Element → List Element
  once elements = kept (distinct elements)

  abbrev addresses : List Element → List ℕ
  addresses elements = map (λ element. element.address) elements

  -- an element more adds itself, or nothing
  record Adds (x : Element) (xs : List Element) : Type 0 where
    other : is_among x.address xs ≡ false
    more : once (x ∷ xs) ≡ x ∷ once xs

  step : (x : Element) (xs : List Element) → (once (x ∷ xs) ≡ once xs) ⊎ Adds x xs
  step x xs = elim (cases_Bool (is_among x.address xs)) [
    | inl twice ↦ inl (ap kept (cond-true (is_among x.address xs) (distinct xs) (x ∷ distinct xs) twice))
    | inr new ↦
        let whole = ap kept (cond-false (is_among x.address xs) (distinct xs) (x ∷ distinct xs) new) in
        elim (cases_Bool (has_key x.address layout)) [
          | inl key ↦ inr (record {
            other = new;
            more = whole ∙ cond-true (has_key x.address layout) (x ∷ once xs) (once xs) key;
          })
          | inr none ↦ inl (whole ∙ cond-false (has_key x.address layout) (x ∷ once xs) (once xs) none)
        ]
  ]

  no_more : (a b : Bool) → (a || b) ≡ false → (a ≡ false) × (b ≡ false)
  no_more true b none = absurd (true≢false none)
  no_more false b none = (refl, none)

  unequal : (n m : ℕ) → (m == n) ≡ false → eqb n m ≡ false
  unequal n m differ = ne_eqb n m (λ same. true≢false (sym (eq-eqb m n (sym same)) ∙ differ))

  abbrev Differ : ℕ → List Element → Type 0
  Differ n elements = AllByRecursion (λ m. eqb n m ≡ false) (addresses elements)

  differ : (n : ℕ) (xs : List Element) → is_among n xs ≡ false → Differ n (once xs)
  differ n [] none = tt
  differ n (x ∷ xs) none =
      let parts = no_more (x.address == n) (is_among n xs) none in
      let rest = differ n xs parts.1 in
      elim (step x xs) [
        | inl same ↦ subst (Differ n) (sym same) rest
        | inr adds ↦ subst (Differ n) (sym adds.more) (unequal n x.address parts.0, rest)
      ]

  nil_distinct : IsDistinct eqb (addresses [])
  unfolding IsDistinct
  nil_distinct = tt

  -- no two of them have an address
  all_differ : (xs : List Element) → IsDistinct eqb (addresses (once xs))
  all_differ [] = nil_distinct
  all_differ (x ∷ xs) = elim (step x xs) [
    | inl same ↦ subst (λ (ys : List Element). IsDistinct eqb (addresses ys)) (sym same) (all_differ xs)
    | inr adds ↦
        subst (λ (ys : List Element). IsDistinct eqb (addresses ys)) (sym adds.more)
        (IsDistinct-cons eqb x.address (addresses (once xs)) (differ x.address xs adds.other) (all_differ xs))
  ]

  -- each is a node of the layout
  each_key : (q : ℕ) (xs : List Element) → list_any (eqb q) (addresses (kept xs)) ≡ true → has_key q layout ≡ true
  each_key q [] among = absurd (false≢true among)
  each_key q (x ∷ xs) among = elim (cases_Bool (has_key x.address layout)) [
    | inr none ↦
        each_key q xs (sym (ap (λ (ys : List Element). list_any (eqb q) (addresses ys))
        (cond-false (has_key x.address layout) (x ∷ kept xs) (kept xs) none)) ∙ among)
    | inl key ↦
        let both = sym (ap (λ (ys : List Element). list_any (eqb q) (addresses ys))
        (cond-true (has_key x.address layout) (x ∷ kept xs) (kept xs) key)) ∙ among in
        elim (or_cases (eqb q x.address) (list_any (eqb q) (addresses (kept xs))) both) [
          | inl here ↦
              subst (λ (n : ℕ). has_key n layout ≡ true) (sym (eqb-true q x.address here)) key
          | inr later ↦ each_key q xs later
        ]
  ]

  -- where all nodes lie below a bound they are no more than it
  pub nodes-few : (bound : ℕ) → ((q : ℕ) → has_key q layout ≡ true → q < bound) → (xs : List Element)
      → nodes_among layout xs ≤ bound
  nodes-few bound below xs =
      let most = length-le_from_distinct_below (addresses (once xs)) bound (all_differ xs)
      (λ q among. below q (each_key q (distinct xs) among)) in
      let same = length-map (once xs) (λ (element : Element). element.address) in
      omega (arith, most, same)
