-- Elements that pass a test of their addresses.
use Rattle.std.proofs.Common.{◌≡◌, Bool, true, false, List, [], ◌∷◌, refl, sym, ap, subst, ◌∙◌, inl, inr}
use Rattle.std.specs.List.{Contains, filter}
use Rattle.std.proofs.lemmas.Bool.{cases_Bool, cond-true, cond-false}
use Rattle.std.proofs.lemmas.Map.Keys.{IsDistinct-tail}
use Rattle.qg_image.specs.declared.element.Element.{Element}
use Rattle.qg_image.proofs.Contained.{none_contained, contains_here, contains_later, contains_cases}
use Rattle.qg_reach.specs.Sets.{HaveSame}
use Rattle.qg_reach.proofs.Distinct.{AreApart, apart_first, apart_with, begin_alike}

-- what is left passed the test, and was there
pub passed : (test : Element → Bool) (xs : List Element) (x : Element) → Contains (filter test xs) x
    → Contains xs x × (test x ≡ true)
passed test [] x has = absurd (none_contained x has)
passed test (z ∷ zs) x has = elim (cases_Bool (test z)) [
  | inl right ↦ elim (contains_cases z (filter test zs) x (subst (λ ys. Contains ys x) (cond-true _ _ _ right) has)) [
    | inl is ↦ subst (λ w. Contains (z ∷ zs) w × (test w ≡ true)) is (contains_here z zs, right)
    | inr later ↦ let found = passed test zs x later in (contains_later z zs x found.0, found.1)
  ]
  | inr wrong ↦
      let found = passed test zs x (subst (λ ys. Contains ys x) (cond-false _ _ _ wrong) has) in
      (contains_later z zs x found.0, found.1)
]

-- and what was there and passes it is left
pub passes : (test : Element → Bool) (xs : List Element) (x : Element) → Contains xs x → test x ≡ true
    → Contains (filter test xs) x
passes test [] x has right = has
passes test (z ∷ zs) x has right = elim (contains_cases z zs x has) [
  | inl is ↦
      subst (λ ys. Contains ys x) (sym (cond-true (test z) _ _ (ap test is ∙ right)))
      (subst (λ w. Contains (z ∷ filter test zs) w) is (contains_here z (filter test zs)))
  | inr later ↦ among (test z) refl (passes test zs x later right)
] where
  among : (b : Bool) → test z ≡ b → Contains (filter test zs) x → Contains (filter test (z ∷ zs)) x
  among true is has' = subst (λ ys. Contains ys x) (sym (cond-true (test z) _ _ is))
      (contains_later z (filter test zs) x has')
  among false is has' = subst (λ ys. Contains ys x) (sym (cond-false (test z) _ _ is)) has'

-- elements that lie apart do so still
pub apart-passed : (test : Element → Bool) (xs : List Element) → AreApart xs → AreApart (filter test xs)
apart-passed test [] apart = apart
apart-passed test (z ∷ zs) apart =
    let rest = apart-passed test zs (IsDistinct-tail begin_alike z zs apart) in
    elim (cases_Bool (test z)) [
      | inl right ↦
          subst AreApart (sym (cond-true (test z) _ _ right))
          (apart_with z (filter test zs) (λ y has same. apart_first z zs y apart (passed test zs y has).0 same) rest)
      | inr wrong ↦ subst AreApart (sym (cond-false (test z) _ _ wrong)) rest
    ]

-- lists of the same elements are so still
pub same-passed : (test : Element → Bool) (xs ys : List Element) → HaveSame xs ys
    → HaveSame (filter test xs) (filter test ys)
same-passed test xs ys same = record {
  into = λ z has. let found = passed test xs z has in passes test ys z (same.into z found.0) found.1;
  back = λ z has. let found = passed test ys z has in passes test xs z (same.back z found.0) found.1;
}

-- two tests, one after the other
pub passes-both : (first second both : Element → Bool) (xs : List Element)
    → ((x : Element) → Contains xs x → first x ≡ true → both x ≡ second x)
    → ((x : Element) → Contains xs x → first x ≡ false → both x ≡ false)
    → filter second (filter first xs) ≡ filter both xs
passes-both first second both [] there gone = refl
passes-both first second both (z ∷ zs) there gone =
    let rest = passes-both first second both zs (λ x has. there x (contains_later z zs x has))
    (λ x has. gone x (contains_later z zs x has)) in
    elim (cases_Bool (first z)) [
      | inl right ↦
          ap (filter second) (cond-true (first z) _ _ right)
          ∙ one (second z) refl (there z (contains_here z zs) right) rest
      | inr wrong ↦
          ap (filter second) (cond-false (first z) _ _ wrong) ∙ rest
          ∙ sym (cond-false (both z) _ _ (gone z (contains_here z zs) wrong))
    ]
  where
    one : (b : Bool) → second z ≡ b → both z ≡ second z → filter second (filter first zs) ≡ filter both zs
        → filter second (z ∷ filter first zs) ≡ filter both (z ∷ zs)
    one true is same rest =
        cond-true (second z) _ _ is ∙ ap (λ ys. z ∷ ys) rest ∙ sym (cond-true (both z) _ _ (same ∙ is))
    one false is same rest = cond-false (second z) _ _ is ∙ rest ∙ sym (cond-false (both z) _ _ (same ∙ is))
