-- Data extents as things.
use Rattle.std.proofs.Common.{◌≡◌, ℕ, List, [], ◌∷◌, map, Option, Some, None, refl, sym, ap, subst}
use Rattle.std.proofs.Common.{◌∙◌, inl, inr}
use Rattle.std.specs.Prelude.{◌==◌}
use Rattle.std.specs.List.{Contains, find}
use Rattle.std.specs.Option.{option_map}
use Rattle.std.proofs.lemmas.Bool.{cases_Bool, cond-true, cond-false, eq-eqb, eqb-true, true≢false}
use Rattle.std.proofs.lemmas.Option.{none-some, same_Some}
use Rattle.qg_image.specs.declared.element.Element.{Element}
use Rattle.qg_image.proofs.Contained.{contains_cases, contains_here, contains_later, none_contained}
use Rattle.qg_reach.specs.Sets.{HaveSame}
use Rattle.qg_reach.proofs.Distinct.{AreApart, apart_same}
use Rattle.qg_backref_rule.specs.OwedLists.{kind_at}
use Rattle.qg_backref_rule.specs.declared.thing.Thing.{Thing}
use Rattle.qg_backref_rule.proofs.Things.{kind_of_extent}
use Rattle.qg_shared_walk.specs.Marked.{extent_thing}

-- the extent that begins at an address
abbrev pub at : ℕ → List Element → Option Element
at address extents = find (λ extent. extent.address == address) extents

told_at : (extents : List Element) (a : ℕ) → kind_at (map extent_thing extents) a ≡ kind_of_extent (at a extents)
told_at [] a = refl
told_at (extent ∷ extents) a = elim (cases_Bool (extent.address == a)) [
  | inl here ↦
      ap (option_map (λ (thing : Thing). thing.kind)) (cond-true (extent.address == a) (Some (extent_thing extent))
      (find (λ thing. thing.address == a) (map extent_thing extents)) here)
      ∙ sym (ap kind_of_extent (cond-true (extent.address == a) (Some extent) (at a extents) here))
  | inr other ↦
      ap (option_map (λ (thing : Thing). thing.kind)) (cond-false (extent.address == a) (Some (extent_thing extent))
      (find (λ thing. thing.address == a) (map extent_thing extents)) other)
      ∙ told_at extents a
      ∙ sym (ap kind_of_extent (cond-false (extent.address == a) (Some extent) (at a extents) other))
]

-- an extent that is found is one of them, and begins there
pub at_is : (extents : List Element) (a : ℕ) (extent : Element) → at a extents ≡ Some extent
    → Contains extents extent × (extent.address ≡ a)
at_is [] a extent is = absurd (none-some extent is)
at_is (first ∷ extents) a extent is = elim (cases_Bool (first.address == a)) [
  | inl here ↦
      let one = same_Some first extent (sym (cond-true (first.address == a) (Some first) (at a extents) here) ∙ is) in (
        subst (Contains (first ∷ extents)) one (contains_here first extents),
        ap (λ (e : Element). e.address) (sym one)
            ∙ eqb-true first.address a here,
      )
  | inr other ↦
      let later =
      at_is extents a extent (sym (cond-false (first.address == a) (Some first) (at a extents) other) ∙ is) in
      (contains_later first extents extent later.0, later.1)
]

-- where none is found none of them begins there
pub at_none : (extents : List Element) (a : ℕ) (extent : Element) → at a extents ≡ None → Contains extents extent
    → extent.address ≡ a → ⊥
at_none [] a extent none has same = none_contained extent has
at_none (first ∷ extents) a extent none has same = elim (cases_Bool (first.address == a)) [
  | inl here ↦ none-some first (sym none ∙ cond-true (first.address == a) (Some first) (at a extents) here)
  | inr other ↦ elim (contains_cases first extents extent has) [
    | inl is ↦ true≢false (sym (eq-eqb first.address a (ap (λ (e : Element). e.address) is ∙ same)) ∙ other)
    | inr later ↦ at_none extents a extent (sym (cond-false (first.address == a) (Some first) (at a extents) other)
        ∙ none) later same
  ]
]

-- the same is found among the same extents, of which no two begin at one address
at_same : (xs ys : List Element) (a : ℕ) → AreApart xs → HaveSame xs ys → at a xs ≡ at a ys
at_same xs ys a apart same = cases (at a xs) refl (at a ys) refl where
  cases : (first : Option Element) → at a xs ≡ first → (second : Option Element) → at a ys ≡ second → first ≡ second
  cases None none None none' = refl
  cases None none (Some y) is = let found = at_is ys a y is in absurd
      (at_none xs a y none (same.back y found.0) found.1)
  cases (Some x) is None none = let found = at_is xs a x is in absurd
      (at_none ys a x none (same.into x found.0) found.1)
  cases (Some x) is (Some y) is' =
      let first = at_is xs a x is in
      let second = at_is ys a y is' in
      ap Some (apart_same xs x y apart first.0 (same.back y second.0) (first.1 ∙ sym second.1))

pub extents_there : (extents named : List Element) → AreApart extents → HaveSame extents named
    → (a : ℕ) → kind_at (map extent_thing extents) a ≡ kind_of_extent (find (λ extent. extent.address == a) named)
extents_there extents named apart same a = told_at extents a ∙ ap kind_of_extent (at_same extents named a apart same)
