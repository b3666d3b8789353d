-- Bytes of portions that tell a layout, and of subvolumes one among others.
use Rattle.std.proofs.Common.{◌≡◌, ◌≢◌, ℕ, zero, suc, ◌<◌, Bool, true, false, not, List, [], ◌∷◌, length, Some, refl}
use Rattle.std.proofs.Common.{sym, ap, subst, ◌∙◌, arith, inl, inr}
use Rattle.std.specs.Prelude.{◌==◌, ◌&&◌, slice_get}
use Rattle.std.specs.List.{Contains, filter, list_any}
use Rattle.std.proofs.lemmas.Bool.{cond-true, cond-false, eq-eqb, eqb-true, or_cases, or_left, or_right, true≢false}
use Rattle.std.proofs.lemmas.List.Sums.{sum_by-cons}
use Rattle.std.proofs.lemmas.Option.{same_Some}
use Rattle.qg_image.specs.declared.element.Element.{Element}
use Rattle.qg_image.specs.State.{Layout}
use Rattle.qg_image.specs.Counts.{bytes_of}
use Rattle.qg_image.proofs.Contained.{contains_cases, contains_here, contains_later, none_contained}
use Rattle.qg_qgroup_counts.specs.declared.counting.Portion.{Portion}
use Rattle.qg_qgroup_counts.specs.Portions.{bytes_where, given}
use Rattle.qg_qgroup_counts.specs.Telling.{ArePortionsOf, IsPortionOf}

-- ---- one subvolume among others

pub contained-at : (xs : List (ℕ × ℕ)) (i : ℕ) (x : ℕ × ℕ) → slice_get xs i ≡ Some x → i < length xs
contained-at [] i x is = absurd cc
contained-at (y ∷ ys) zero x is = omega arith
contained-at (y ∷ ys) (suc i) x is = let rest = contained-at ys i x is in omega (arith, rest)

pub there-at : (xs : List (ℕ × ℕ)) (i : ℕ) → i < length xs → (x : ℕ × ℕ) × (slice_get xs i ≡ Some x)
there-at [] i less = absurd (omega (arith, less))
there-at (y ∷ ys) zero less = (y, refl)
there-at (y ∷ ys) (suc i) less = there-at ys i (omega (arith, less))

pub any-there : (test : ℕ → Bool) (ns : List ℕ) → list_any test ns ≡ true → (n : ℕ) × Contains ns n × (test n ≡ true)
any-there test [] is = absurd cc
any-there test (n ∷ ns) is = elim (or_cases (test n) (list_any test ns) is) [
  | inl here ↦ (n, contains_here n ns, here)
  | inr later ↦ let found = any-there test ns later in (found.0, contains_later n ns found.0 found.1, found.2)
]

pub any-of : (test : ℕ → Bool) (ns : List ℕ) (n : ℕ) → Contains ns n → test n ≡ true → list_any test ns ≡ true
any-of test [] n has is = absurd (none_contained n has)
any-of test (m ∷ ms) n has is = elim (contains_cases m ms n has) [
  | inl same ↦ or_left (test m) (list_any test ms) (ap test same ∙ is)
  | inr later ↦ or_right (test m) (list_any test ms) (any-of test ms n later is)
]

pub both-true : (a b : Bool) → (a && b) ≡ true → (a ≡ true) × (b ≡ true)
both-true true b is = (refl, is)
both-true false b wrong = absurd cc

pub and-true : (a b : Bool) → a ≡ true → b ≡ true → (a && b) ≡ true
and-true true true first second = refl
and-true false b wrong second = absurd cc
and-true true false first wrong = absurd cc

pub not-differs : (a b : ℕ) → not (a == b) ≡ true → a ≢ b
not-differs a b is same = absurd (true≢false (sym (eq-eqb a b same) ∙ wrong (a == b) is)) where
  wrong : (c : Bool) → not c ≡ true → c ≡ false
  wrong true bad = absurd cc
  wrong false bad = refl

pub differs-not : (a b : ℕ) → a ≢ b → not (a == b) ≡ true
differs-not a b differ = by (a == b) refl where
  by : (c : Bool) → (a == b) ≡ c → not c ≡ true
  by true is = absurd (differ (eqb-true a b is))
  by false is = refl

pub same-bool : (a b : Bool) → (a ≡ true → b ≡ true) → (b ≡ true → a ≡ true) → a ≡ b
same-bool true true into back = refl
same-bool false false into back = refl
same-bool true false into back = sym (into refl)
same-bool false true into back = back refl

pub contains-at : (xs : List (ℕ × ℕ)) (i : ℕ) (x : ℕ × ℕ) → slice_get xs i ≡ Some x → Contains xs x
contains-at [] i x is = absurd cc
contains-at (y ∷ ys) zero x is = subst (λ (z : ℕ × ℕ). Contains (y ∷ ys) z) (same_Some y x is) (contains_here y ys)
contains-at (y ∷ ys) (suc i) x is = contains_later y ys x (contains-at ys i x is)

-- ---- the sums

-- the bytes of portions that pass a test are those of the elements that pass the same
pub sum-is : (layout : Layout) (rows : List (List ℕ)) (test : ℕ → Bool) (want : Element
    → Bool) (elements : List Element)
    (portions : List Portion) → ArePortionsOf layout rows elements portions
    → ((element : Element) (portion : Portion) → IsPortionOf layout rows element portion
    → test portion.set ≡ want element)
    → bytes_where test portions ≡ bytes_of (filter want elements)
unfolding bytes_where given
sum-is layout rows test want [] [] are each = refl
sum-is layout rows test want [] (portion ∷ portions) are each = absurd are
sum-is layout rows test want (element ∷ elements) [] are each = absurd are
sum-is layout rows test want (element ∷ elements) (portion ∷ portions) are each =
    by (test portion.set) refl (sum-is layout rows test want elements portions are.1 each)
  where
    by : (b : Bool) → test portion.set ≡ b → bytes_where test portions ≡ bytes_of (filter want elements)
        → bytes_where test (portion ∷ portions) ≡ bytes_of (filter want (element ∷ elements))
    by true is rest =
        let here = ap (λ (b : Bool). given b portion.bytes) is in
        let kept = ap bytes_of (cond-true (want element) (element ∷ filter want elements) (filter want elements)
        (sym (each element portion are.0) ∙ is)) in
        let sum = sum_by-cons (λ (e : Element). e.bytes) element (filter want elements) in
        omega (arith, here, kept, sum, rest, are.0.bytes)
    by false is rest =
        let here = ap (λ (b : Bool). given b portion.bytes) is in
        let kept = ap bytes_of (cond-false (want element) (element ∷ filter want elements) (filter want elements)
        (sym (each element portion are.0) ∙ is)) in
        omega (arith, here, kept, rest)
