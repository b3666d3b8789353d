-- Changes that ascend: where one stands, and what is there after an edit.
use Rattle.std.proofs.Common.{◌≡◌, ℕ, zero, suc, ◌+◌, ◌<◌, ◌≤◌, true, false, List, [], ◌∷◌, length, Option, Some}
use Rattle.std.proofs.Common.{None}
use Rattle.std.proofs.Common.{get_or, set, refl, sym, ap, subst, ◌∙◌, arith, ◌⊎◌, inl, inr, ltb}
use Rattle.std.specs.Prelude.{insert, if◌then◌else◌}
use Rattle.std.specs.List.{All}
use Rattle.std.specs.List.Sorted.{IsPartitionedBy, IsPartitionPoint}
use Rattle.std.proofs.lemmas.Bool.{cases_Bool, cond-true, cond-false, ltb-true, ltb-false, true≢false}
use Rattle.std.proofs.lemmas.List.Elements.{All-nil, All-cons}
use Rattle.std.proofs.lemmas.List.Kept.{AllPairs-cons}
use Rattle.qg_items.specs.declared.extent.Reference.{Reference}
use Rattle.qg_image.specs.Record.{same_reference}
use Rattle.qg_refs.specs.Order.{precedes}
use Rattle.qg_refs.proofs.RankOrder.{precedes_chain, precedes_differs, precedes_if_not, precedes_not_itself}
use Rattle.qg_refs.proofs.RankOrder.{same_reference_is, same_itself, same_other_way}
use Rattle.qg_delayed.specs.declared.change.Change.{Change}
use Rattle.qg_delayed.specs.Changes.{ChangesAscend, change_of, with_change, sum_each}

-- ---- references

-- one that is another
pub same_as : (x y : Reference) → y ≡ x → same_reference x y ≡ true
same_as x y is = subst (λ (w : Reference). same_reference w y ≡ true) is (same_itself y)

-- of two, not each comes before the other
pub not_before : (a b : Reference) → precedes a b ≡ true → precedes b a ≡ false
not_before a b before = elim (cases_Bool (precedes b a)) [
  | inl after ↦ absurd (true≢false (sym (precedes_chain a b a before after) ∙ precedes_not_itself a))
  | inr not ↦ not
]

-- ---- changes that ascend

pub later : (x : Change) (xs : List Change) → ChangesAscend (x ∷ xs) → ChangesAscend xs
later x xs up = λ i j d h k. up (suc i) (suc j) d (omega (arith, h)) (omega (arith, k))

-- each comes after a reference
abbrev pub AllAfter : Reference → List Change → Type 0
AllAfter x xs = All (λ change. precedes x change.reference ≡ true) xs

pub first_before : (x : Change) (xs : List Change) → ChangesAscend (x ∷ xs) → AllAfter x.reference xs
first_before x xs up = λ k d h. up 0 (suc k) d (omega arith) (omega (arith, h))

-- all from one on, where a reference comes before that
pub after_first : (x : Reference) (y : Change) (ys : List Change) → ChangesAscend (y ∷ ys)
    → precedes x y.reference ≡ true → AllAfter x (y ∷ ys)
after_first x y ys up before = All-cons (λ (change : Change). precedes x change.reference ≡ true) y ys before
    (λ k d h. precedes_chain x y.reference (get_or ys k d).reference before (first_before y ys up k d h))

pub none_after : (x : Reference) (xs : List Change) → AllAfter x xs → change_of x xs ≡ None
none_after x [] each = refl
none_after x (y ∷ ys) each =
    cond-false _ _ _ (precedes_differs x y.reference (each 0 y (omega arith)))
    ∙ none_after x ys (λ k d h. each (suc k) d (omega (arith, h)))

-- ---- where a reference is

pub change_found : (x : Reference) (xs : List Change) (i : ℕ) (d : Change) → ChangesAscend xs → i < length xs
    → (get_or xs i d).reference ≡ x → change_of x xs ≡ Some (get_or xs i d)
change_found x [] i d up inside is = absurd (omega (arith, inside))
change_found x (y ∷ ys) zero d up inside is = cond-true _ _ _ (same_as x y.reference is)
change_found x (y ∷ ys) (suc i) d up inside is =
    let before : precedes y.reference x ≡ true =
    subst (λ w. precedes y.reference w ≡ true) is (up 0 (suc i) d (omega arith) inside) in
    cond-false _ _ _ (same_other_way y.reference x (precedes_differs y.reference x before))
    ∙ change_found x ys i d (later y ys up) (omega (arith, inside)) is

-- what a search for a reference splits
abbrev pub IsPlace : Reference → List Change → ℕ → Type 0
IsPlace x xs i = IsPartitionPoint (λ change. precedes change.reference x ≡ true)
    (λ change. precedes change.reference x ≡ false) xs i

place_later : (x : Reference) (y : Change) (ys : List Change) (i : ℕ) → IsPlace x (y ∷ ys) (suc i) → IsPlace x ys i
place_later x y ys i point = (
  λ k d a h. point.0 (suc k) d (omega arith) (omega (arith, h)),
  λ k d a h. point.1 (suc k) d (omega (arith, a)) (omega (arith, h)),
)

-- it comes before the change at its place, where that is of another
before_first : (x : Reference) (y : Change) (ys : List Change) → IsPlace x (y ∷ ys) zero
    → ((d : Change) → 0 < length (y ∷ ys) → same_reference (get_or (y ∷ ys) 0 d).reference x ≡ false)
    → precedes x y.reference ≡ true
before_first x y ys point other =
    precedes_if_not x y.reference (point.1 0 y (omega arith) (omega arith)) (other y (omega arith))

pub change_missing : (x : Reference) (xs : List Change) (i : ℕ) → ChangesAscend xs → IsPlace x xs i
    → ((d : Change) → i < length xs → same_reference (get_or xs i d).reference x ≡ false) → change_of x xs ≡ None
change_missing x [] i up point other = refl
change_missing x (y ∷ ys) zero up point other =
    none_after x (y ∷ ys) (after_first x y ys up (before_first x y ys point other))
change_missing x (y ∷ ys) (suc i) up point other =
    let before : precedes y.reference x ≡ true = point.0 0 y (omega arith) (omega arith) in
    cond-false _ _ _ (same_other_way y.reference x (precedes_differs y.reference x before))
    ∙ change_missing x ys i (later y ys up) (place_later x y ys i point) (λ d h. other d (omega (arith, h)))

-- those before a reference come first
pub parted_by : (xs : List Change) (x : Reference) → ChangesAscend xs
    → IsPartitionedBy (λ change. precedes change.reference x) xs
parted_by xs x up i j d le h before = cases (cases_Bool (ltb i j)) where
  cases : (ltb i j ≡ true) ⊎ (ltb i j ≡ false) → precedes (get_or xs i d).reference x ≡ true
  cases (inl below) = precedes_chain (get_or xs i d).reference (get_or xs j d).reference x
      (up i j d (ltb-true i j below) h) before
  cases (inr above) =
      let same : j ≡ i = omega (arith, ltb-false i j above, le) in
      subst (λ (k : ℕ). precedes (get_or xs k d).reference x ≡ true) same before

-- ---- a change that is put

with_same : (c y : Change) (ys : List Change) → same_reference c.reference y.reference ≡ true
    → with_change c (y ∷ ys) ≡ c ∷ ys
with_same c y ys same = cond-true _ _ _ same

with_first : (c y : Change) (ys : List Change) → precedes c.reference y.reference ≡ true
    → with_change c (y ∷ ys) ≡ c ∷ y ∷ ys
with_first c y ys before =
    cond-false _ _ _ (precedes_differs c.reference y.reference before) ∙ cond-true _ _ _ before

with_later : (c y : Change) (ys : List Change) → precedes y.reference c.reference ≡ true
    → with_change c (y ∷ ys) ≡ y ∷ with_change c ys
with_later c y ys before =
    cond-false _ _ _ (same_other_way y.reference c.reference (precedes_differs y.reference c.reference before))
    ∙ cond-false _ _ _ (not_before y.reference c.reference before)

-- which of the three it is
data Stands (c y : Change) : Type 0 where
  here : same_reference c.reference y.reference ≡ true → Stands c y
  before : precedes c.reference y.reference ≡ true → Stands c y
  behind : precedes y.reference c.reference ≡ true → same_reference c.reference y.reference ≡ false → Stands c y

stands : (c y : Change) → Stands c y
stands c y = cases (cases_Bool (same_reference c.reference y.reference)) (cases_Bool (precedes c.reference y.reference))
  where
    cases : (same_reference c.reference y.reference ≡ true) ⊎ (same_reference c.reference y.reference ≡ false)
        → (precedes c.reference y.reference ≡ true) ⊎ (precedes c.reference y.reference ≡ false) → Stands c y
    cases (inl same) order = here same
    cases (inr differs) (inl first) = before first
    cases (inr differs) (inr not) = behind (precedes_if_not y.reference c.reference not differs) differs

-- it is set where it is, and inserted where it isn't
pub set_with : (xs : List Change) (i : ℕ) (c : Change) → ChangesAscend xs → i < length xs
    → ((d : Change) → (get_or xs i d).reference ≡ c.reference) → set xs i c ≡ with_change c xs
set_with [] i c up inside at = absurd (omega (arith, inside))
set_with (y ∷ ys) zero c up inside at = sym (with_same c y ys (same_as c.reference y.reference (at y)))
set_with (y ∷ ys) (suc i) c up inside at =
    let first : precedes y.reference c.reference ≡ true =
    subst (λ w. precedes y.reference w ≡ true) (at y) (up 0 (suc i) y (omega arith) inside) in
    ap (λ (rest : List Change). y ∷ rest) (set_with ys i c (later y ys up) (omega (arith, inside)) at)
    ∙ sym (with_later c y ys first)

pub insert_with : (xs : List Change) (i : ℕ) (c : Change) → i ≤ length xs → IsPlace c.reference xs i
    → ((d : Change) → i < length xs → same_reference (get_or xs i d).reference c.reference ≡ false)
    → insert xs i c ≡ with_change c xs
insert_with [] zero c bound point other = refl
insert_with [] (suc i) c bound point other = absurd (omega (arith, bound))
insert_with (y ∷ ys) zero c bound point other = sym (with_first c y ys (before_first c.reference y ys point other))
insert_with (y ∷ ys) (suc i) c bound point other =
    ap (λ (rest : List Change). y ∷ rest) (insert_with ys i c (omega (arith, bound))
    (place_later c.reference y ys i point) (λ d h. other d (omega (arith, h))))
    ∙ sym (with_later c y ys (point.0 0 y (omega arith) (omega arith)))

-- a reference that has no change isn't at its place
pub other_there : (x : Reference) (xs : List Change) (i : ℕ) → ChangesAscend xs → change_of x xs ≡ None → (d : Change)
    → i < length xs → same_reference (get_or xs i d).reference x ≡ false
other_there x xs i up none d inside = elim (cases_Bool (same_reference (get_or xs i d).reference x)) [
  | inl same ↦ absurd (some_none (get_or xs i d)
      (sym (change_found x xs i d up inside (same_reference_is (get_or xs i d).reference x same)) ∙ none))
  | inr differs ↦ differs
]
  where
    some_none : (c : Change) → Some c ≡ None → ⊥
    some_none c is = cc

-- what holds of it and of each holds of each then
pub all_with : (P : Change → Type 0) (c : Change) (xs : List Change) → P c → All P xs → All P (with_change c xs)
all_with P c [] own each = All-cons P c [] own (All-nil P)
all_with P c (y ∷ ys) own each = elim (stands c y) [
  | here same ↦ subst (All P) (sym (with_same c y ys same)) (All-cons P c ys own rest)
  | before low ↦ subst (All P) (sym (with_first c y ys low)) (All-cons P c (y ∷ ys) own each)
  | behind high differs ↦
      subst (All P) (sym (with_later c y ys high))
      (All-cons P y (with_change c ys) first (all_with P c ys own rest))
]
  where
    rest : All P ys
    rest = λ k d h. each (suc k) d (omega (arith, h))

    first : P y
    first = each 0 y (omega arith)

ascend_cons : (x : Change) (xs : List Change) → AllAfter x.reference xs → ChangesAscend xs → ChangesAscend (x ∷ xs)
ascend_cons x xs = AllPairs-cons (λ (change later : Change). precedes change.reference later.reference ≡ true) x xs

pub with_ascends : (c : Change) (xs : List Change) → ChangesAscend xs → ChangesAscend (with_change c xs)
with_ascends c [] up = λ i j d h k. absurd (omega (arith, h, k))
with_ascends c (y ∷ ys) up = elim (stands c y) [
  | here same ↦
      let is : y.reference ≡ c.reference = sym (same_reference_is c.reference y.reference same) in
      subst ChangesAscend (sym (with_same c y ys same))
      (ascend_cons c ys (subst (λ (w : Reference). AllAfter w ys) is (first_before y ys up)) (later y ys up))
  | before low ↦
      subst ChangesAscend (sym (with_first c y ys low))
      (ascend_cons c (y ∷ ys) (after_first c.reference y ys up low) up)
  | behind high differs ↦
      subst ChangesAscend (sym (with_later c y ys high))
      (ascend_cons y (with_change c ys)
      (all_with (λ (later : Change). precedes y.reference later.reference ≡ true) c ys high (first_before y ys up))
      (with_ascends c ys (later y ys up)))
]

-- ---- what is there then

pub with_own : (c : Change) (xs : List Change) → change_of c.reference (with_change c xs) ≡ Some c
with_own c [] = cond-true _ _ _ (same_itself c.reference)
with_own c (y ∷ ys) = elim (stands c y) [
  | here same ↦ ap (change_of c.reference) (with_same c y ys same) ∙ cond-true _ _ _ (same_itself c.reference)
  | before low ↦ ap (change_of c.reference) (with_first c y ys low) ∙ cond-true _ _ _ (same_itself c.reference)
  | behind high differs ↦
      ap (change_of c.reference) (with_later c y ys high) ∙ cond-false _ _ _ differs
      ∙ with_own c ys
]

pub with_other : (c : Change) (xs : List Change) (x : Reference) → same_reference x c.reference ≡ false
    → change_of x (with_change c xs) ≡ change_of x xs
with_other c [] x differs = cond-false _ _ _ differs
with_other c (y ∷ ys) x differs = elim (stands c y) [
  | here same ↦
      let is : c.reference ≡ y.reference = same_reference_is c.reference y.reference same in
      ap (change_of x) (with_same c y ys same) ∙ cond-false _ _ _ differs
      ∙ sym (cond-false _ _ _ (subst (λ (w : Reference). same_reference x w ≡ false) is differs))
  | before low ↦ ap (change_of x) (with_first c y ys low) ∙ cond-false _ _ _ differs
  | behind high apart ↦
      ap (change_of x) (with_later c y ys high)
      ∙ ap (λ (o : Option Change). if same_reference x y.reference then Some y else o) (with_other c ys x differs)
]

-- a number of the change that a reference has, if it has one
abbrev pub number_in : (Change → ℕ) → Option Change → ℕ
number_in number None = 0
number_in number (Some change) = number change

pub with_sum : (f : Change → ℕ) (c : Change) (xs : List Change) → ChangesAscend xs
    → sum_each f (with_change c xs) + number_in f (change_of c.reference xs) ≡ sum_each f xs + f c
with_sum f c [] up = omega arith
with_sum f c (y ∷ ys) up = elim (stands c y) [
  | here same ↦
      let sum : sum_each f (with_change c (y ∷ ys)) ≡ f c + sum_each f ys = ap (sum_each f) (with_same c y ys same) in
      let was : number_in f (change_of c.reference (y ∷ ys)) ≡ f y =
      ap (number_in f) (cond-true (same_reference c.reference y.reference) (Some y) (change_of c.reference ys) same) in
      omega (arith, sum, was)
  | before low ↦
      let sum : sum_each f (with_change c (y ∷ ys)) ≡ f c + (f y + sum_each f ys) =
      ap (sum_each f) (with_first c y ys low) in
      let was : number_in f (change_of c.reference (y ∷ ys)) ≡ 0 =
      ap (number_in f) (none_after c.reference (y ∷ ys) (after_first c.reference y ys up low)) in
      omega (arith, sum, was)
  | behind high differs ↦
      let sum : sum_each f (with_change c (y ∷ ys)) ≡ f y + sum_each f (with_change c ys) =
      ap (sum_each f) (with_later c y ys high) in
      let was : number_in f (change_of c.reference (y ∷ ys)) ≡ number_in f (change_of c.reference ys) =
      ap (number_in f)
      (cond-false (same_reference c.reference y.reference) (Some y) (change_of c.reference ys) differs) in
      omega (arith, sum, was, with_sum f c ys (later y ys up))
]
