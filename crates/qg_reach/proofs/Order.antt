-- The order of extents: by address, and where that is one by length.
use Rattle.std.proofs.Common.{◌≡◌, true, false, sym, subst, ◌∙◌, arith, ◌⊎◌, inl, inr}
use Rattle.std.specs.Cmp.{IsStrictWeakOrder}
use Rattle.std.proofs.lemmas.Bool.{cases_Bool, true≢false}
use Rattle.std.proofs.lemmas.Bool.Decides.{nat_tests}
use Rattle.qg_image.specs.declared.element.Element.{Element}
use Rattle.qg_image.specs.Verdict.{is_before, same_extent}

pub before_chain : (a b c : Element) → is_before a b ≡ true → is_before b c ≡ true → is_before a c ≡ true
before_chain a b c h k = grind (arith, nat_tests)

pub before_one_way : (a b : Element) → is_before a b ≡ true → is_before b a ≡ false
before_one_way a b h = grind (arith, nat_tests)

pub before_not_itself : (a : Element) → is_before a a ≡ false
before_not_itself a = grind (arith, nat_tests)

pub after_chain : (a b c : Element) → is_before a b ≡ false → is_before b c ≡ false → is_before a c ≡ false
after_chain a b c h k = grind (arith, nat_tests)

pub same_fields : (a b : Element) → a.address ≡ b.address → a.bytes ≡ b.bytes → a ≡ b
same_fields a b p q = λ i. record { address = p i; bytes = q i }

pub same_extent_is : (a b : Element) → same_extent a b ≡ true → a ≡ b
same_extent_is a b h = same_fields a b (grind (arith, nat_tests)) (grind (arith, nat_tests))

pub same_itself : (a : Element) → same_extent a a ≡ true
same_itself a = grind (arith, nat_tests)

-- of two that differ one comes before the other
pub before_or_same : (a b : Element) → is_before a b ≡ false → is_before b a ≡ false → a ≡ b
before_or_same a b h k = same_fields a b (grind (arith, nat_tests)) (grind (arith, nat_tests))

pub not_same : (a b : Element) → is_before b a ≡ true → same_extent a b ≡ false
not_same a b h = grind (arith, nat_tests)

pub order_of_extents : IsStrictWeakOrder is_before
order_of_extents = record { one_way = before_one_way; chain = after_chain }

pub order_cases : (a b : Element) → (is_before a b ≡ true) ⊎ ((a ≡ b) ⊎ (is_before b a ≡ true))
order_cases a b = elim (cases_Bool (is_before a b)) [
  | inl before ↦ inl before
  | inr not ↦ elim (cases_Bool (is_before b a)) [
    | inl after ↦ inr (inr after)
    | inr not' ↦ inr (inl (before_or_same a b not not'))
  ]
]

-- one that comes no later than another comes before what follows that
pub not_after : (a b c : Element) → is_before b a ≡ false → is_before b c ≡ true → is_before a c ≡ true
not_after a b c h k = elim (order_cases a b) [
  | inl before ↦ before_chain a b c before k
  | inr rest ↦ elim rest [
    | inl is ↦ subst (λ w. is_before w c ≡ true) (sym is) k
    | inr after ↦ absurd (true≢false (sym after ∙ h))
  ]
]
