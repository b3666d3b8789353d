-- Which keys stand from one to another, by their addresses and types.
use Rattle.std.proofs.Common.{◌≡◌, ℕ, ◌≤◌, ◌<◌, true, false, Bool, refl, sym, subst, ◌∙◌, arith, inl, inr}
use Rattle.std.specs.Prelude.{◌&&◌, ◌==◌, ◌⊎◌, cond, not}
use Rattle.std.specs.Ordering.{is_lt, nat_cmp, ordering_then}
use Rattle.std.specs.declared.cmp.Ordering.TheVariants.{Less, Equal, Greater}
use Rattle.std.proofs.Math.Bool.{and_assoc}
use Rattle.std.proofs.lemmas.Bool.{and_from, cases_Bool, cases_order, eq-eqb, le-ltb, lt-ltb, ne_eqb}
use Rattle.qg_num.specs.Key.{key_cmp}
use Rattle.qg_num.specs.declared.key.Key.{Key}
use Rattle.qg_shape.proofs.Ascending.{greater}
use Rattle.qg_blocks.specs.IsShaped.{same_key}
use Rattle.qg_tree_items.specs.Keys.{key_with}
use Rattle.qg_walk.proofs.KeyRanges.{not_less_itself, same_key-true}
use Rattle.qg_tree_read.specs.Reading.{is_within}

-- ---- how numbers compare

cmp_less : (a b : ℕ) → a < b → nat_cmp a b ≡ Less
cmp_less a b h = rw (lt-ltb a b h) refl

cmp_same : (a b : ℕ) → a ≡ b → nat_cmp a b ≡ Equal
cmp_same a b h = rw (le-ltb a b (omega (arith, h)), eq-eqb a b h) refl

apart : (a b : ℕ) → b < a → a ≡ b → ⊥
apart a b h is = omega (arith, h, is)

cmp_greater : (a b : ℕ) → b < a → nat_cmp a b ≡ Greater
cmp_greater a b h = rw (le-ltb a b (omega (arith, h)), ne_eqb a b (apart a b h)) refl

not_less_either : (b : Bool) → is_lt (cond b Equal Greater) ≡ false
not_less_either true = refl
not_less_either false = refl

not_below_zero : (n : ℕ) → is_lt (nat_cmp n 0) ≡ false
not_below_zero n = rw (le-ltb n 0 (omega arith)) (not_less_either (n == 0))

-- ---- keys between two types of an address

abbrev between : ℕ → ℕ → ℕ → Key → Bool
between at a b key = is_within (key_with at a 0) (key_with at b 0) key

before_address : (at a b : ℕ) (key : Key) → key.objectid < at → between at a b key ≡ false
before_address at a b key h = rw (cmp_less key.objectid at h) refl

and_false : (b : Bool) → (b && false) ≡ false
and_false true = refl
and_false false = refl

past_address : (at a b : ℕ) (key : Key) → at < key.objectid → between at a b key ≡ false
past_address at a b key h =
    rw (cmp_less at key.objectid h)
    (and_false (not (is_lt (key_cmp key (key_with at a 0)))))

-- a key of a type from the first one on, and below the second one
pub within-kinds : (at a b : ℕ) (key : Key) → a ≤ key.kind → key.kind < b
    → between at a b key ≡ (key.objectid == at)
within-kinds at a b key low high = elim (cases_order key.objectid at) [
  | inl same ↦
      rw (
        cmp_same key.objectid at same,
        cmp_same at key.objectid (sym same),
        cmp_greater b key.kind high,
        eq-eqb key.objectid at same,
      )
      (from_kind (cases_order key.kind a))
  | inr (inl less) ↦ before_address at a b key less ∙ sym (ne_eqb key.objectid at (λ is. apart at key.objectid less
      (sym is)))
  | inr (inr more) ↦ past_address at a b key more ∙ sym (ne_eqb key.objectid at (λ is. apart key.objectid at more is))
] where
  from_kind : (key.kind ≡ a) ⊎ ((key.kind < a) ⊎ (a < key.kind))
      → (not (is_lt (ordering_then (nat_cmp key.kind a) (nat_cmp key.offset 0))) && true) ≡ true
  from_kind (inl same) = rw (cmp_same key.kind a same, not_below_zero key.offset) refl
  from_kind (inr (inl less)) = absurd (omega (arith, low, less))
  from_kind (inr (inr more)) = rw (cmp_greater key.kind a more) refl

-- one of a lesser type
pub below-kinds : (at a b : ℕ) (key : Key) → key.kind < a → between at a b key ≡ false
below-kinds at a b key low = elim (cases_order key.objectid at) [
  | inl same ↦ rw (cmp_same key.objectid at same, cmp_less key.kind a low) refl
  | inr (inl less) ↦ before_address at a b key less
  | inr (inr more) ↦ past_address at a b key more
]

-- one of a greater type
pub above-kinds : (at a b : ℕ) (key : Key) → b < key.kind → between at a b key ≡ false
above-kinds at a b key high = elim (cases_order key.objectid at) [
  | inl same ↦
      rw (cmp_same at key.objectid (sym same), cmp_less b key.kind high)
      (and_false (not (is_lt (key_cmp key (key_with at a 0)))))
  | inr (inl less) ↦ before_address at a b key less
  | inr (inr more) ↦ past_address at a b key more
]

-- ---- one key

not_both : (key other : Key) → same_key key other ≡ false → (b : Bool) → is_lt (key_cmp key other) ≡ b
    → (not b && not (is_lt (key_cmp other key))) ≡ false
not_both key other differ true is = refl
not_both key other differ false is =
    let are : ((key.objectid == other.objectid) && ((key.kind == other.kind) && (key.offset == other.offset))) ≡ false =
    sym (and_assoc (key.objectid == other.objectid) (key.kind == other.kind) (key.offset == other.offset)) ∙ differ in
    rw (greater key other is are) refl

pub within-one : (key other : Key) → is_within key key other ≡ same_key other key
within-one key other = elim (cases_Bool (same_key other key)) [
  | inl same ↦
      let is = same_key-true other key same in
      subst (λ (k : Key). is_within key key k ≡ true) (sym is)
      (and_from (not (is_lt (key_cmp key key))) (not (is_lt (key_cmp key key))) (not_less_itself key)
      (not_less_itself key)) ∙ sym same
  | inr differ ↦ not_both other key differ (is_lt (key_cmp other key)) refl ∙ sym differ
]
