-- Some that ascend by number: two of one number are one, and what a search for a number finds.
use Rattle.std.proofs.Common.{◌≡◌, ℕ, ◌+◌, ◌<◌, ◌≤◌, List, ◌++◌, length, get_or, map, Option, Some, None, Result, Ok}
use Rattle.std.proofs.Common.{Err, IfOk, IfErr, IfSome, IfNone, is_some, false, sym, ap, subst, ◌∙◌, arith, ◌⊎◌, inl}
use Rattle.std.proofs.Common.{inr}
use Rattle.std.specs.Prelude.{slice_get}
use Rattle.std.specs.List.{Contains}
use Rattle.std.specs.List.Sorted.{IsStrictlyIncreasing, IsNonDecreasingBy, IsSearchInRange, IsBinarySearchResult}
use Rattle.std.specs.Result.{result_ok}
use Rattle.std.specs.Ordering.{nat_cmp, ordering_index}
use Rattle.std.proofs.lemmas.Cmp.{ranked}
use Rattle.std.proofs.lemmas.Bool.{cases_order, cases_lt, false≢true}
use Rattle.std.proofs.lemmas.Bool.Decides.{nat_tests}
use Rattle.std.proofs.lemmas.Option.{slice_get_within, get_or_from_slice_get, slice_get_cases}
use Rattle.std.proofs.lemmas.List.{get_or-map, length-map, map-append, length-append, get_or_append_left}
use Rattle.std.proofs.lemmas.List.{get_or-append-add}
use Rattle.std.proofs.lemmas.List.Kept.{AllPairs-from_increasing}
use Rattle.qg_owner_rule.specs.Places.{StandsAt, AreOthers}
use Rattle.qg_owner_rule.proofs.Listed.{index_of}

module _ {X : Type 0} (number : X → ℕ) (xs : List X) (up : IsStrictlyIncreasing (map number xs)) where
  below : (i j : ℕ) (d : X) → i < j → j < length xs → number (get_or xs i d) < number (get_or xs j d)
  below i j d less short =
      let here = get_or-map number xs i d 0 (omega arith) in
      let there = get_or-map number xs j d 0 short in
      let rise = AllPairs-from_increasing (map number xs) up i j 0 less (omega (arith, length-map xs number)) in
      omega (arith, here, there, rise)

  -- two of one number stand at one index
  pub one_place : (i j : ℕ) (x y : X) → slice_get xs i ≡ Some x → slice_get xs j ≡ Some y → number x ≡ number y → i ≡ j
  one_place i j x y at at' same = cases (cases_order i j) where
    first : number (get_or xs i x) ≡ number x
    first = ap number (get_or_from_slice_get xs i x x at)

    second : number (get_or xs j x) ≡ number y
    second = ap number (get_or_from_slice_get xs j y x at')

    cases : (i ≡ j) ⊎ ((i < j) ⊎ (j < i)) → i ≡ j
    cases (inl is) = is
    cases (inr (inl less)) = absurd (omega (arith, first, second, same, below i j x less (slice_get_within xs j y at')))
    cases (inr (inr more)) = absurd (omega (arith, first, second, same, below j i x more (slice_get_within xs i x at)))

  -- and are one
  pub one_of_number : (x y : X) → Contains xs x → Contains xs y → number x ≡ number y → x ≡ y
  one_of_number x y has has' same =
      let here = index_of xs x has in
      let there = index_of xs y has' in
      let is = one_place here.0 there.0 x y here.1 there.1 same in
      sym (get_or_from_slice_get xs here.0 x x here.1) ∙ ap (λ k. get_or xs k x) is
      ∙ get_or_from_slice_get xs there.0 y x there.1

  tests_rise : (n : ℕ) → IsNonDecreasingBy (λ x. ordering_index (nat_cmp (number x) n)) xs
  tests_rise n i j d le short = cases (cases_order i j) where
    cases : (i ≡ j) ⊎ ((i < j) ⊎ (j < i))
        → ordering_index (nat_cmp (number (get_or xs i d)) n) ≤ ordering_index (nat_cmp (number (get_or xs j d)) n)
    cases (inl same) = let is = ap (λ k. ordering_index (nat_cmp (number (get_or xs k d)) n)) same in omega (arith, is)
    cases (inr (inl less)) = let rise = below i j d less short in grind (arith, nat_tests)
    cases (inr (inr more)) = absurd (omega arith)

  pub searched_there : (n : ℕ) (r : Result ℕ ℕ) → IsSearchInRange r (length xs)
      → IsBinarySearchResult (λ x. nat_cmp (number x) n) xs r → IfOk r (λ place. StandsAt number xs n place)
  searched_there n (Err at) inside found = tt
  searched_there n (Ok at) inside found = there (slice_get_cases xs at).1 where
    there : ((x : X) × (at < length xs) × (slice_get xs at ≡ Some x) × (get_or xs at x ≡ x))
        ⊎ ((length xs ≤ at) × (slice_get xs at ≡ None)) → StandsAt number xs n at
    there (inl some) = (some.0, some.2, sym (ap number some.3) ∙ ranked _ n _ (sym (found some.0)))
    there (inr none) = absurd (omega (arith, inside, none.0))

  pub searched_absent : (n : ℕ) (r : Result ℕ ℕ) → IsBinarySearchResult (λ x. nat_cmp (number x) n) xs r
      → IfErr r (λ place. AreOthers number xs n)
  searched_absent n (Ok at) found = tt
  searched_absent n (Err at) found = λ k d short same. other k d short same (cases_lt k at) where
    other : (k : ℕ) (d : X) → k < length xs → number (get_or xs k d) ≡ n → (k < at) ⊎ (at ≤ k) → ⊥
    other k d short same (inl less) =
        let test = ranked _ n _ (sym ((found (tests_rise n)).0 k d (omega arith) less)) in omega (arith, test, same)
    other k d short same (inr more) =
        let test = ranked _ n _ (sym ((found (tests_rise n)).1 k d more short)) in omega (arith, test, same)

-- ---- what was found, as an option

pub there_if_some : (P : ℕ → Type 0) (r : Result ℕ ℕ) (o : Option ℕ) → o ≡ result_ok r → IfOk r P → IfSome o P
there_if_some P (Ok at) o is there = subst (λ found. IfSome found P) (sym is) there
there_if_some P (Err at) o is there = subst (λ found. IfSome found P) (sym is) tt

pub absent_if_none : (P : Type 0) (r : Result ℕ ℕ) (o : Option ℕ) → o ≡ result_ok r → IfErr r (λ place. P) → IfNone o P
absent_if_none P (Ok at) o is absent = subst (λ found. IfNone found P) (sym is) tt
absent_if_none P (Err at) o is absent = subst (λ found. IfNone found P) (sym is) absent

pub absent_at : (P : Type 0) (o : Option ℕ) → is_some o ≡ false → IfNone o P → P
absent_at P None is absent = absent
absent_at P (Some at) is absent = absurd (false≢true (sym is))

-- ---- parts

pub increasing-front : (xs ys : List ℕ) → IsStrictlyIncreasing (xs ++ ys) → IsStrictlyIncreasing xs
increasing-front xs ys up = λ k short.
    let here = get_or_append_left xs ys 0 k (omega arith) in
    let next = get_or_append_left xs ys 0 (k + 1) short in
    let rise = up k (omega (arith, length-append xs ys)) in
    omega (arith, here, next, rise)

pub increasing-back : (xs ys : List ℕ) → IsStrictlyIncreasing (xs ++ ys) → IsStrictlyIncreasing ys
increasing-back xs ys up = λ k short.
    let here = get_or-append-add xs ys k 0 in
    let next = get_or-append-add xs ys (k + 1) 0 in
    let rise = up (length xs + k) (omega (arith, length-append xs ys)) in
    let same : length xs + k + 1 ≡ length xs + (k + 1) = omega arith in
    let at = ap (λ n. get_or (xs ++ ys) n 0) same in
    omega (arith, here, next, rise, at)

-- a table is parted
pub front_ascends : {X : Type 0} (number : X → ℕ) (xs ys zs : List X) → zs ≡ xs ++ ys
    → IsStrictlyIncreasing (map number zs) → IsStrictlyIncreasing (map number xs)
front_ascends number xs ys zs are up =
    increasing-front (map number xs) (map number ys)
    (subst IsStrictlyIncreasing (ap (map number) are ∙ map-append number xs ys) up)

pub back_ascends : {X : Type 0} (number : X → ℕ) (xs ys zs : List X) → zs ≡ xs ++ ys
    → IsStrictlyIncreasing (map number zs) → IsStrictlyIncreasing (map number ys)
back_ascends number xs ys zs are up =
    increasing-back (map number xs) (map number ys)
    (subst IsStrictlyIncreasing (ap (map number) are ∙ map-append number xs ys) up)
