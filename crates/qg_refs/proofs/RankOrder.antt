-- The order of references is total, and tells each from each.
use Rattle.std.proofs.Common.{◌≡◌, ℕ, Bool, true, false, sym, ap, subst, ◌∙◌, arith, ◌⊎◌, inl, inr, refl}
use Rattle.std.specs.Prelude.{◌&&◌, ◌||◌, ◌==◌, nat_lt}
use Rattle.std.proofs.lemmas.Bool.{cases_Bool, true≢false}
use Rattle.std.proofs.lemmas.Bool.Decides.{nat_tests}
use Rattle.qg_items.specs.declared.extent.Reference.{Reference}
use Rattle.qg_items.specs.declared.extent.Reference.TheVariants.{KeyedBlock, SharedBlock, KeyedData, SharedData}
use Rattle.qg_image.specs.Record.{same_reference}
use Rattle.qg_refs.specs.declared.order.Rank.{Rank}
use Rattle.qg_refs.specs.Order.{rank_of, is_lower, precedes}

-- one number before the rest
lex_chain : (a b c : ℕ) (r s t : Bool) → (r ≡ true → s ≡ true → t ≡ true) → (nat_lt a b || ((a == b) && r)) ≡ true
    → (nat_lt b c || ((b == c) && s)) ≡ true → (nat_lt a c || ((a == c) && t)) ≡ true
lex_chain a b c r s true rest h k = grind (arith, nat_tests)
lex_chain a b c true true false rest h k = absurd (true≢false (sym (rest refl refl)))
lex_chain a b c true false false rest h k = grind (arith, nat_tests)
lex_chain a b c false s false rest h k = grind (arith, nat_tests)

lt_chain : (a b c : ℕ) → nat_lt a b ≡ true → nat_lt b c ≡ true → nat_lt a c ≡ true
lt_chain a b c h k = grind (arith, nat_tests)

lower_chain : (a b c : Rank) → is_lower a b ≡ true → is_lower b c ≡ true → is_lower a c ≡ true
lower_chain a b c = lex_chain a.kind b.kind c.kind _ _ _
    (lex_chain a.from b.from c.from _ _ _ (lex_chain a.ino b.ino c.ino _ _ _ (lt_chain a.offset b.offset c.offset)))

lower_not_itself : (a : Rank) → is_lower a a ≡ false
lower_not_itself a = grind (arith, nat_tests)

same_kind : (a b : Rank) → is_lower a b ≡ false → is_lower b a ≡ false → a.kind ≡ b.kind
same_kind a b h k = grind (arith, nat_tests)

same_from : (a b : Rank) → is_lower a b ≡ false → is_lower b a ≡ false → a.from ≡ b.from
same_from a b h k = grind (arith, nat_tests)

same_ino : (a b : Rank) → is_lower a b ≡ false → is_lower b a ≡ false → a.ino ≡ b.ino
same_ino a b h k = grind (arith, nat_tests)

same_offset : (a b : Rank) → is_lower a b ≡ false → is_lower b a ≡ false → a.offset ≡ b.offset
same_offset a b h k = grind (arith, nat_tests)

-- ---- of references

pub precedes_chain : (a b c : Reference) → precedes a b ≡ true → precedes b c ≡ true → precedes a c ≡ true
precedes_chain a b c = lower_chain (rank_of a) (rank_of b) (rank_of c)

pub precedes_not_itself : (a : Reference) → precedes a a ≡ false
precedes_not_itself a = lower_not_itself (rank_of a)

data_same : (root root' ino ino' offset offset' : ℕ) → root ≡ root' → ino ≡ ino' → offset ≡ offset'
    → KeyedData root ino offset ≡ KeyedData root' ino' offset'
data_same root root' ino ino' offset offset' p q r = λ i. KeyedData (p i) (q i) (r i)

-- two of which neither comes before the other are one
pub precedes_or_same : (a b : Reference) → precedes a b ≡ false → precedes b a ≡ false → a ≡ b
precedes_or_same (KeyedBlock root) (KeyedBlock root') h k =
    ap KeyedBlock (same_from (rank_of (KeyedBlock root)) (rank_of (KeyedBlock root')) h k)
precedes_or_same (SharedBlock parent) (SharedBlock parent') h k =
    ap SharedBlock (same_from (rank_of (SharedBlock parent)) (rank_of (SharedBlock parent')) h k)
precedes_or_same (SharedData parent) (SharedData parent') h k =
    ap SharedData (same_from (rank_of (SharedData parent)) (rank_of (SharedData parent')) h k)
precedes_or_same (KeyedData root ino offset) (KeyedData root' ino' offset') h k =
    let a = rank_of (KeyedData root ino offset) in
    let b = rank_of (KeyedData root' ino' offset') in
    data_same root root' ino ino' offset offset' (same_from a b h k) (same_ino a b h k) (same_offset a b h k)
precedes_or_same a b h k = absurd (omega (arith, same_kind (rank_of a) (rank_of b) h k))

pub same_reference_is : (a b : Reference) → same_reference a b ≡ true → a ≡ b
same_reference_is (KeyedBlock root) (KeyedBlock root') h = ap KeyedBlock (grind (arith, nat_tests))
same_reference_is (SharedBlock parent) (SharedBlock parent') h = ap SharedBlock (grind (arith, nat_tests))
same_reference_is (SharedData parent) (SharedData parent') h = ap SharedData (grind (arith, nat_tests))
same_reference_is (KeyedData root ino offset) (KeyedData root' ino' offset') h =
    data_same root root' ino ino' offset offset' (grind (arith, nat_tests)) (grind (arith, nat_tests))
    (grind (arith, nat_tests))
same_reference_is a b h = absurd (true≢false (sym h))

pub same_itself : (a : Reference) → same_reference a a ≡ true
same_itself (KeyedBlock root) = grind (arith, nat_tests)
same_itself (SharedBlock parent) = grind (arith, nat_tests)
same_itself (SharedData parent) = grind (arith, nat_tests)
same_itself (KeyedData root ino offset) = grind (arith, nat_tests)

pub precedes_differs : (a b : Reference) → precedes a b ≡ true → same_reference a b ≡ false
precedes_differs a b h = elim (cases_Bool (same_reference a b)) [
  | inl same ↦ absurd (true≢false (sym h ∙ subst (λ c. precedes a c ≡ false) (same_reference_is a b same)
      (precedes_not_itself a)))
  | inr differs ↦ differs
]

pub same_other_way : (a b : Reference) → same_reference a b ≡ false → same_reference b a ≡ false
same_other_way a b h = elim (cases_Bool (same_reference b a)) [
  | inl same ↦ absurd (true≢false
      (sym (subst (λ c. same_reference c b ≡ true) (same_reference_is b a same) (same_itself b)) ∙ h))
  | inr differs ↦ differs
]

-- of two that differ, one that does not come before the other comes after it
pub precedes_if_not : (a b : Reference) → precedes b a ≡ false → same_reference b a ≡ false → precedes a b ≡ true
precedes_if_not a b h differs = elim (cases_Bool (precedes a b)) [
  | inl before ↦ before
  | inr not ↦ absurd (true≢false
      (sym (subst (λ c. same_reference b c ≡ true) (precedes_or_same b a h not) (same_itself b)) ∙ differs))
]
