-- How many nodes a part has: its top, and those of its children. And what is open once they all were dropped.
use Rattle.std.proofs.Common.{◌≡◌, ℕ, ◌+◌, ◌≤◌, ◌<◌, Bool, true, false, List, [], ◌∷◌, ◌++◌, length, arith, refl, sym}
use Rattle.std.proofs.Common.{ap, subst, ◌∙◌, inl, inr}
use Rattle.std.specs.Prelude.{◌==◌, ◌||◌}
use Rattle.std.specs.List.{filter}
use Rattle.std.proofs.lemmas.Bool.{cases_Bool, cond-false, cond-true, eq-eqb, eqb-true, false≢true, or_cases, or_left}
use Rattle.std.proofs.lemmas.Bool.{or_right}
use Rattle.std.proofs.lemmas.List.Folds.{list_any-append}
use Rattle.qg_image.specs.Table.{has_key}
use Rattle.qg_image.specs.declared.element.Element.{Element}
use Rattle.qg_image.specs.Reach.{distinct, is_among}
use Rattle.qg_image.specs.State.{Placed}

module _ (layout : List (ℕ × Placed)) where
  -- how many nodes of the layout some elements are
  abbrev pub nodes_among : List Element → ℕ
  nodes_among elements = length (filter (λ element. has_key element.address layout) (distinct elements))

  abbrev keyed : List Element → ℕ
  keyed elements = length (filter (λ element. has_key element.address layout) elements)

  keyed_more : (x : Element) (xs : List Element) → has_key x.address layout ≡ true → keyed (x ∷ xs) ≡ keyed xs + 1
  keyed_more x xs key =
      let rest = filter (λ (element : Element). has_key element.address layout) xs in
      let longer : length (x ∷ rest) ≡ length rest + 1 = omega arith in
      ap (λ (list : List Element). length list) (cond-true (has_key x.address layout) (x ∷ rest) rest key) ∙ longer

  keyed_same : (x : Element) (xs : List Element) → has_key x.address layout ≡ false → keyed (x ∷ xs) ≡ keyed xs
  keyed_same x xs key =
      let rest = filter (λ (element : Element). has_key element.address layout) xs in
      ap (λ (list : List Element). length list) (cond-false (has_key x.address layout) (x ∷ rest) rest key)

  among_twice : (x : Element) (xs : List Element) → is_among x.address xs ≡ true
      → nodes_among (x ∷ xs) ≡ nodes_among xs
  among_twice x xs among =
      ap keyed (cond-true (is_among x.address xs) (distinct xs) (x ∷ distinct xs) among)

  among_more : (x : Element) (xs : List Element) → is_among x.address xs ≡ false → has_key x.address layout ≡ true
      → nodes_among (x ∷ xs) ≡ nodes_among xs + 1
  among_more x xs among key =
      ap keyed (cond-false (is_among x.address xs) (distinct xs) (x ∷ distinct xs) among)
      ∙ keyed_more x (distinct xs) key

  among_same : (x : Element) (xs : List Element) → has_key x.address layout ≡ false
      → nodes_among (x ∷ xs) ≡ nodes_among xs
  among_same x xs key = elim (cases_Bool (is_among x.address xs)) [
    | inl twice ↦ among_twice x xs twice
    | inr once ↦
        ap keyed (cond-false (is_among x.address xs) (distinct xs) (x ∷ distinct xs) once)
        ∙ keyed_same x (distinct xs) key
  ]

  among_both : (q : ℕ) (xs ys : List Element) → is_among q (xs ++ ys) ≡ (is_among q xs || is_among q ys)
  among_both q xs ys = list_any-append (λ (element : Element). element.address == q) xs ys

  -- two lists that have no node in common
  pub among-append : (xs ys : List Element)
      → ((q : ℕ) → has_key q layout ≡ true → is_among q xs ≡ true → is_among q ys ≡ true → ⊥)
      → nodes_among (xs ++ ys) ≡ nodes_among xs + nodes_among ys
  among-append [] ys apart = omega arith
  among-append (x ∷ xs) ys apart =
      let later : (q : ℕ) → is_among q xs ≡ true → is_among q (x ∷ xs) ≡ true
      = λ q among. or_right (x.address == q) (is_among q xs) among in
      let rest = among-append xs ys (λ q key among among'. apart q key (later q among) among') in
      let here : is_among x.address (x ∷ xs) ≡ true =
      or_left (x.address == x.address) (is_among x.address xs) (eq-eqb x.address x.address refl) in
      elim (cases_Bool (has_key x.address layout)) [
        | inr none ↦
            let all = among_same x (xs ++ ys) none in
            let own = among_same x xs none in
            omega (arith, all, own, rest)
        | inl key ↦ elim (cases_Bool (is_among x.address xs)) [
          | inl twice ↦
              let all = among_twice x (xs ++ ys) (among_both x.address xs ys
              ∙ or_left (is_among x.address xs) (is_among x.address ys) twice) in
              let own = among_twice x xs twice in
              omega (arith, all, own, rest)
          | inr once ↦ elim (cases_Bool (is_among x.address ys)) [
            | inl behind ↦ absurd (apart x.address key here behind)
            | inr never ↦
                let none : is_among x.address (xs ++ ys) ≡ false = among_both x.address xs ys
                ∙ ap (λ (b : Bool). b || is_among x.address ys) once ∙ never in
                let all = among_more x (xs ++ ys) none key in
                let own = among_more x xs once key in
                omega (arith, all, own, rest)
          ]
        ]
      ]

  -- a node, and what is none
  pub among-none : (xs : List Element) → ((q : ℕ) → has_key q layout ≡ true → is_among q xs ≡ true → ⊥)
      → nodes_among xs ≡ 0
  among-none [] none = omega arith
  among-none (x ∷ xs) none =
      let here : is_among x.address (x ∷ xs) ≡ true =
      or_left (x.address == x.address) (is_among x.address xs) (eq-eqb x.address x.address refl) in
      let rest = among-none xs (λ q key among. none q key (or_right (x.address == q) (is_among q xs) among)) in
      elim (cases_Bool (has_key x.address layout)) [
        | inl key ↦ absurd (none x.address key here)
        | inr other ↦ among_same x xs other ∙ rest
      ]

  pub among-first : (x : Element) (xs : List Element) → has_key x.address layout ≡ true
      → ((q : ℕ) → has_key q layout ≡ true → is_among q xs ≡ true → q ≡ x.address → ⊥)
      → nodes_among (x ∷ xs) ≡ nodes_among xs + 1
  among-first x xs key apart = elim (cases_Bool (is_among x.address xs)) [
    | inl twice ↦ absurd (apart x.address key twice refl)
    | inr once ↦ among_more x xs once key
  ]

  among-most : (x : Element) (xs : List Element) → nodes_among xs ≤ nodes_among (x ∷ xs)
  among-most x xs = elim (cases_Bool (has_key x.address layout)) [
    | inr none ↦ let same = among_same x xs none in omega (arith, same)
    | inl key ↦ elim (cases_Bool (is_among x.address xs)) [
      | inl twice ↦ let same = among_twice x xs twice in omega (arith, same)
      | inr once ↦ let more = among_more x xs once key in omega (arith, more)
    ]
  ]

  -- where one of them is a node, there is one
  pub among-some : (q : ℕ) (xs : List Element) → has_key q layout ≡ true → is_among q xs ≡ true → 0 < nodes_among xs
  among-some q [] key among = absurd (false≢true among)
  among-some q (x ∷ xs) key among =
      let most = among-most x xs in
      elim (or_cases (x.address == q) (is_among q xs) among) [
        | inr later ↦ let rest = among-some q xs key later in omega (arith, most, rest)
        | inl here ↦ elim (cases_Bool (is_among x.address xs)) [
          | inl twice ↦
              let same = eqb-true x.address q here in
              let rest = among-some q xs key (subst (λ (n : ℕ). is_among n xs ≡ true) same twice) in
              omega (arith, most, rest)
          | inr once ↦
              let same = eqb-true x.address q here in
              let more = among_more x xs once (subst (λ (n : ℕ). has_key n layout ≡ true) (sym same) key) in
              omega (arith, more)
        ]
      ]
