-- References with their counts: one so often, all changes made, and how often all are there together.
use Rattle.std.proofs.Common.{◌≡◌, ℕ, zero, suc, ◌+◌, ◌<◌, ◌≤◌, true, false, List, [], ◌∷◌, Some}
use Rattle.std.proofs.Common.{None}
use Rattle.std.proofs.Common.{get_or, refl, sym, ap, subst, ◌∙◌, arith, ◌⊎◌, inl, inr}
use Rattle.std.specs.Prelude.{◌==◌}
use Rattle.std.specs.List.{All}
use Rattle.std.proofs.lemmas.Bool.{cases_Bool, cond-true, cond-false}
use Rattle.std.proofs.lemmas.Bool.Decides.{nat_tests}
use Rattle.std.proofs.lemmas.List.Elements.{All-cons}
use Rattle.std.proofs.lemmas.List.Kept.{AllPairs-cons}
use Rattle.qg_items.specs.declared.extent.Reference.{Reference}
use Rattle.qg_image.specs.Record.{same_reference}
use Rattle.qg_refs.specs.declared.counted.Counted.{Counted}
use Rattle.qg_refs.specs.Order.{precedes}
use Rattle.qg_refs.specs.Counts.{Ascend, IsRefList, count_of, counted}
use Rattle.qg_refs.proofs.Counting.{count-cons, count-nil, counted-own, counted-other}
use Rattle.qg_refs.proofs.RankOrder.{precedes_chain, precedes_differs, precedes_if_not, precedes_or_same}
use Rattle.qg_refs.proofs.RankOrder.{same_reference_is, same_other_way}
use Rattle.qg_delayed.specs.declared.change.Change.{Change}
use Rattle.qg_delayed.specs.Below.{total_of}
use Rattle.qg_delayed.specs.Changes.{ChangesAscend, change_of, sum_below, sum_now}
use Rattle.qg_delayed.specs.Merged.{now_or, so_often, with_count, with_changes}
use Rattle.qg_delayed.proofs.Listing.{first_before, later, none_after}

-- ---- lists of references

tail_ascends : (x : Counted) (xs : List Counted) → Ascend (x ∷ xs) → Ascend xs
tail_ascends x xs up = λ i j d h k. up (suc i) (suc j) d (omega (arith, h)) (omega (arith, k))

pub tail_list : (x : Counted) (xs : List Counted) → IsRefList (x ∷ xs) → IsRefList xs
tail_list x xs list = record {
  ascend = tail_ascends x xs list.ascend;
  some = λ k d h. list.some (suc k) d (omega (arith, h));
}

-- each comes after a reference
abbrev pub AllBehind : Reference → List Counted → Type 0
AllBehind x xs = All (λ entry. precedes x entry.reference ≡ true) xs

head_before : (x : Counted) (xs : List Counted) → Ascend (x ∷ xs) → AllBehind x.reference xs
head_before x xs up = λ k d h. up 0 (suc k) d (omega arith) (omega (arith, h))

behind_head : (x : Reference) (y : Counted) (ys : List Counted) → Ascend (y ∷ ys) → precedes x y.reference ≡ true
    → AllBehind x (y ∷ ys)
behind_head x y ys up before = All-cons (λ (entry : Counted). precedes x entry.reference ≡ true) y ys before
    (λ k d h. precedes_chain x y.reference (get_or ys k d).reference before (head_before y ys up k d h))

pub absent_behind : (x : Reference) (xs : List Counted) → AllBehind x xs → count_of xs x ≡ 0
absent_behind x [] each = count-nil x
absent_behind x (y ∷ ys) each =
    let here = counted-other x y (precedes_differs x y.reference (each 0 y (omega arith))) in
    let rest = absent_behind x ys (λ k d h. each (suc k) d (omega (arith, h))) in
    omega (arith, count-cons y ys x, here, rest)

list_cons : (x : Counted) (xs : List Counted) → 0 < x.count → AllBehind x.reference xs → IsRefList xs
    → IsRefList (x ∷ xs)
list_cons x xs some behind list = record {
  ascend = AllPairs-cons (λ (entry later : Counted). precedes entry.reference later.reference ≡ true) x xs behind
      list.ascend;
  some = All-cons (λ (entry : Counted). 0 < entry.count) x xs some list.some;
}

-- ---- one reference so often

-- a reference with a count
abbrev pub often : Reference → ℕ → Counted
often x n = record { reference = x; count = n }

counted_none : (x r : Reference) → counted x (often r 0) ≡ 0
counted_none x r = elim (cases_Bool (same_reference x r)) [
  | inl same ↦ cond-true _ _ _ same
  | inr differs ↦ cond-false _ _ _ differs
]

never_zero : (n : ℕ) → (suc n == 0) ≡ false
never_zero n = grind (arith, nat_tests)

so_some : (r : Reference) (n : ℕ) (rest : List Counted) → so_often r (suc n) rest ≡ often r (suc n) ∷ rest
so_some r n rest = cond-false _ _ _ (never_zero n)

count_so : (r : Reference) (n : ℕ) (rest : List Counted) (x : Reference)
    → count_of (so_often r n rest) x ≡ counted x (often r n) + count_of rest x
count_so r zero rest x = omega (arith, counted_none x r)
count_so r (suc n) rest x =
    ap (λ (ws : List Counted). count_of ws x) (so_some r n rest) ∙ count-cons (often r (suc n)) rest x

total_so : (r : Reference) (n : ℕ) (rest : List Counted) → total_of (so_often r n rest) ≡ n + total_of rest
total_so r zero rest = omega arith
total_so r (suc n) rest = ap total_of (so_some r n rest)

list_so : (r : Reference) (n : ℕ) (rest : List Counted) → AllBehind r rest → IsRefList rest
    → IsRefList (so_often r n rest)
list_so r zero rest behind list = list
list_so r (suc n) rest behind list =
    subst IsRefList (sym (so_some r n rest)) (list_cons (often r (suc n)) rest (omega arith) behind list)

all_so : (P : Counted → Type 0) (r : Reference) (n : ℕ) (rest : List Counted) → P (often r n) → All P rest
    → All P (so_often r n rest)
all_so P r zero rest own each = each
all_so P r (suc n) rest own each =
    subst (All P) (sym (so_some r n rest)) (All-cons P (often r (suc n)) rest own each)

-- where it stands to the first
data Lies (r : Reference) (y : Counted) (ys : List Counted) : Type 0 where
  here : same_reference r y.reference ≡ true → ((n : ℕ) → with_count r n (y ∷ ys) ≡ so_often r n ys) → Lies r y ys
  before : precedes r y.reference ≡ true → ((n : ℕ) → with_count r n (y ∷ ys) ≡ so_often r n (y ∷ ys)) → Lies r y ys
  behind : precedes y.reference r ≡ true → same_reference r y.reference ≡ false
      → ((n : ℕ) → with_count r n (y ∷ ys) ≡ y ∷ with_count r n ys) → Lies r y ys

lies : (r : Reference) (y : Counted) (ys : List Counted) → Lies r y ys
lies r y ys = cases (cases_Bool (same_reference r y.reference)) (cases_Bool (precedes r y.reference)) where
  cases : (same_reference r y.reference ≡ true) ⊎ (same_reference r y.reference ≡ false)
      → (precedes r y.reference ≡ true) ⊎ (precedes r y.reference ≡ false) → Lies r y ys
  cases (inl same) order = here same (λ n. cond-true _ _ _ same)
  cases (inr differs) (inl first) = before first (λ n. cond-false _ _ _ differs ∙ cond-true _ _ _ first)
  cases (inr differs) (inr not) = behind (precedes_if_not y.reference r not differs) differs
      (λ n. cond-false _ _ _ differs ∙ cond-false _ _ _ not)

all_count : (P : Counted → Type 0) (r : Reference) (n : ℕ) (xs : List Counted) → P (often r n) → All P xs
    → All P (with_count r n xs)
all_count P r n [] own each = all_so P r n [] own each
all_count P r n (y ∷ ys) own each = elim (lies r y ys) [
  | here same is ↦ subst (All P) (sym (is n)) (all_so P r n ys own rest)
  | before low is ↦ subst (All P) (sym (is n)) (all_so P r n (y ∷ ys) own each)
  | behind high differs is ↦
      subst (All P) (sym (is n))
      (All-cons P y (with_count r n ys) (each 0 y (omega arith)) (all_count P r n ys own rest))
]
  where
    rest : All P ys
    rest = λ k d h. each (suc k) d (omega (arith, h))

pub count_list : (r : Reference) (n : ℕ) (xs : List Counted) → IsRefList xs → IsRefList (with_count r n xs)
count_list r n [] list = list_so r n [] (λ i d h. absurd (omega (arith, h))) list
count_list r n (y ∷ ys) list = elim (lies r y ys) [
  | here same is ↦
      subst IsRefList (sym (is n)) (list_so r n ys
      (subst (λ (w : Reference). AllBehind w ys) (sym (same_reference_is r y.reference same))
      (head_before y ys list.ascend)) (tail_list y ys list))
  | before low is ↦
      subst IsRefList (sym (is n))
      (list_so r n (y ∷ ys) (behind_head r y ys list.ascend low) list)
  | behind high differs is ↦
      subst IsRefList (sym (is n))
      (list_cons y (with_count r n ys) (list.some 0 y (omega arith))
      (all_count (λ (entry : Counted). precedes y.reference entry.reference ≡ true) r n ys high
      (head_before y ys list.ascend)) (count_list r n ys (tail_list y ys list)))
]

pub count_own : (r : Reference) (n : ℕ) (xs : List Counted) → IsRefList xs → count_of (with_count r n xs) r ≡ n
count_own r n [] list = omega (arith, count_so r n [] r, counted-own r (often r n) refl, count-nil r)
count_own r n (y ∷ ys) list = elim (lies r y ys) [
  | here same is ↦
      let rest = absent_behind r ys (subst (λ (w : Reference). AllBehind w ys)
      (sym (same_reference_is r y.reference same)) (head_before y ys list.ascend)) in
      let made = ap (λ (ws : List Counted). count_of ws r) (is n) in
      omega (arith, made, count_so r n ys r, counted-own r (often r n) refl, rest)
  | before low is ↦
      let rest = absent_behind r (y ∷ ys) (behind_head r y ys list.ascend low) in
      let made = ap (λ (ws : List Counted). count_of ws r) (is n) in
      omega (arith, made, count_so r n (y ∷ ys) r, counted-own r (often r n) refl, rest)
  | behind high differs is ↦
      let made = ap (λ (ws : List Counted). count_of ws r) (is n) in
      omega (
        arith,
        made,
        count-cons y (with_count r n ys) r,
        counted-other r y differs,
        count_own r n ys (tail_list y ys list),
      )
]

pub count_other : (r : Reference) (n : ℕ) (xs : List Counted) (x : Reference) → same_reference x r ≡ false
    → count_of (with_count r n xs) x ≡ count_of xs x
count_other r n [] x differs = omega (arith, count_so r n [] x, counted-other x (often r n) differs)
count_other r n (y ∷ ys) x differs = elim (lies r y ys) [
  | here same is ↦
      let made = ap (λ (ws : List Counted). count_of ws x) (is n) in
      let apart = counted-other x y
      (subst (λ (w : Reference). same_reference x w ≡ false) (same_reference_is r y.reference same) differs) in
      omega (arith, made, count_so r n ys x, counted-other x (often r n) differs, apart, count-cons y ys x)
  | before low is ↦
      let made = ap (λ (ws : List Counted). count_of ws x) (is n) in
      omega (arith, made, count_so r n (y ∷ ys) x, counted-other x (often r n) differs)
  | behind high apart is ↦
      let made = ap (λ (ws : List Counted). count_of ws x) (is n) in
      omega (arith, made, count-cons y (with_count r n ys) x, count-cons y ys x, count_other r n ys x differs)
]

pub count_total : (r : Reference) (n : ℕ) (xs : List Counted) → IsRefList xs
    → total_of (with_count r n xs) + count_of xs r ≡ total_of xs + n
count_total r n [] list = omega (arith, total_so r n [], count-nil r)
count_total r n (y ∷ ys) list = elim (lies r y ys) [
  | here same is ↦
      let rest = absent_behind r ys (subst (λ (w : Reference). AllBehind w ys)
      (sym (same_reference_is r y.reference same)) (head_before y ys list.ascend)) in
      let own = counted-own r y (sym (same_reference_is r y.reference same)) in
      omega (arith, ap total_of (is n), total_so r n ys, count-cons y ys r, own, rest)
  | before low is ↦
      let rest = absent_behind r (y ∷ ys) (behind_head r y ys list.ascend low) in
      omega (arith, ap total_of (is n), total_so r n (y ∷ ys), rest)
  | behind high differs is ↦
      omega (
        arith,
        ap total_of (is n),
        count-cons y ys r,
        counted-other r y differs,
        count_total r n ys (tail_list y ys list),
      )
]

-- ---- all changes made

pub changes_list : (cs : List Change) (xs : List Counted) → IsRefList xs → IsRefList (with_changes cs xs)
changes_list [] xs list = list
changes_list (c ∷ cs) xs list = count_list c.reference c.now (with_changes cs xs) (changes_list cs xs list)

pub changes_count : (cs : List Change) (xs : List Counted) (x : Reference) → IsRefList xs
    → count_of (with_changes cs xs) x ≡ now_or (count_of xs x) (change_of x cs)
changes_count [] xs x list = refl
changes_count (c ∷ cs) xs x list = elim (cases_Bool (same_reference x c.reference)) [
  | inl same ↦
      let is : x ≡ c.reference = same_reference_is x c.reference same in
      ap (count_of (with_count c.reference c.now (with_changes cs xs))) is
      ∙ count_own c.reference c.now (with_changes cs xs) (changes_list cs xs list)
      ∙ sym (ap (now_or (count_of xs x)) (cond-true (same_reference x c.reference) (Some c) (change_of x cs) same))
  | inr differs ↦
      count_other c.reference c.now (with_changes cs xs) x differs ∙ changes_count cs xs x list
      ∙ sym (ap (now_or (count_of xs x)) (cond-false (same_reference x c.reference) (Some c) (change_of x cs) differs))
]

-- each change says how often the book below has its reference
abbrev pub SaysBelow : List Counted → List Change → Type 0
SaysBelow xs cs = All (λ change. change.below ≡ count_of xs change.reference) cs

pub changes_total : (cs : List Change) (xs : List Counted) → IsRefList xs → ChangesAscend cs → SaysBelow xs cs
    → total_of (with_changes cs xs) + sum_below cs ≡ total_of xs + sum_now cs
changes_total [] xs list up says = refl
changes_total (c ∷ cs) xs list up says =
    let made = with_changes cs xs in
    let was = changes_count cs xs c.reference list
    ∙ ap (now_or (count_of xs c.reference)) (none_after c.reference cs (first_before c cs up)) in
    let rest = changes_total cs xs list (later c cs up) (λ k d h. says (suc k) d (omega (arith, h))) in
    let own : c.below ≡ count_of xs c.reference = says 0 c (omega arith) in
    omega (arith, count_total c.reference c.now made (changes_list cs xs list), was, rest, own)

-- a list has a reference no more often than all its references together
pub count_within : (xs : List Counted) (x : Reference) → count_of xs x ≤ total_of xs
count_within [] x = omega (arith, count-nil x)
count_within (y ∷ ys) x = elim (cases_Bool (same_reference x y.reference)) [
  | inl same ↦
      let own : counted x y ≡ y.count = cond-true _ _ _ same in
      omega (arith, count-cons y ys x, own, count_within ys x)
  | inr differs ↦ omega (arith, count-cons y ys x, counted-other x y differs, count_within ys x)
]

pub data Unlisted (x : Reference) (c : Change) (cs : List Change) : Type 0 where
  apart : same_reference x c.reference ≡ false → change_of x cs ≡ None → Unlisted x c cs

pub unlisted_in : (x : Reference) (c : Change) (cs : List Change) → change_of x (c ∷ cs) ≡ None → Unlisted x c cs
unlisted_in x c cs none = elim (cases_Bool (same_reference x c.reference)) [
  | inl same ↦
      absurd (some_none c (sym (cond-true (same_reference x c.reference) (Some c) (change_of x cs) same) ∙ none))
  | inr differs ↦ apart differs
      (sym (cond-false (same_reference x c.reference) (Some c) (change_of x cs) differs) ∙ none)
]
  where
    some_none : (c : Change) → Some c ≡ None → ⊥
    some_none c is = cc

-- a reference that has no change, and those that have one, are no more together than all
pub unlisted_count : (cs : List Change) (xs : List Counted) (x : Reference) → IsRefList xs → ChangesAscend cs
    → SaysBelow xs cs → change_of x cs ≡ None → count_of xs x + sum_below cs ≤ total_of xs
unlisted_count [] xs x list up says none = omega (arith, count_within xs x)
unlisted_count (c ∷ cs) xs x list up says none = elim (unlisted_in x c cs none) [
  | apart differs none' ↦
      let own : c.below ≡ count_of xs c.reference = says 0 c (omega arith) in
      let lower = unlisted_count cs rest x (count_list c.reference 0 xs list) (later c cs up) says_rest none' in
      omega (arith, own, lower, count_total c.reference 0 xs list, count_other c.reference 0 xs x differs)
]
  where
    rest : List Counted
    rest = with_count c.reference 0 xs

    says_rest : SaysBelow rest cs
    says_rest k d h =
        let differs = same_other_way c.reference (get_or cs k d).reference
        (precedes_differs c.reference (get_or cs k d).reference (first_before c cs up k d h)) in
        says (suc k) d (omega (arith, h)) ∙ sym (count_other c.reference 0 xs (get_or cs k d).reference differs)

-- ---- lists with the same counts

first_same : (x y : Counted) (xs ys : List Counted) → IsRefList (x ∷ xs) → IsRefList (y ∷ ys)
    → count_of (x ∷ xs) x.reference ≡ count_of (y ∷ ys) x.reference → precedes x.reference y.reference ≡ false
first_same x y xs ys list list' same = elim (cases_Bool (precedes x.reference y.reference)) [
  | inl low ↦
      let none = absent_behind x.reference (y ∷ ys) (behind_head x.reference y ys list'.ascend low) in
      absurd (omega (
        arith,
        same,
        none,
        count-cons x xs x.reference,
        counted-own x.reference x refl,
        list.some 0 x (omega arith),
      ))
  | inr not ↦ not
]

pub nothing_counted : (y : Counted) (ys : List Counted) → IsRefList (y ∷ ys) → count_of (y ∷ ys) y.reference ≡ 0 → ⊥
nothing_counted y ys list none =
    omega (arith, none, count-cons y ys y.reference, counted-own y.reference y refl, list.some 0 y (omega arith))

pub same_lists : (xs ys : List Counted) → IsRefList xs → IsRefList ys
    → ((x : Reference) → count_of xs x ≡ count_of ys x) → xs ≡ ys
same_lists [] [] list list' same = refl
same_lists [] (y ∷ ys) list list' same =
    absurd (nothing_counted y ys list' (sym (same y.reference) ∙ count-nil y.reference))
same_lists (x ∷ xs) [] list list' same =
    absurd (nothing_counted x xs list (same x.reference ∙ count-nil x.reference))
same_lists (x ∷ xs) (y ∷ ys) list list' same =
    λ i. at i ∷ same_lists xs ys (tail_list x xs list) (tail_list y ys list') rest i
  where
    name : x.reference ≡ y.reference
    name = precedes_or_same x.reference y.reference (first_same x y xs ys list list' (same x.reference))
        (first_same y x ys xs list' list (sym (same y.reference)))

    none : count_of xs x.reference ≡ 0
    none = absent_behind x.reference xs (head_before x xs list.ascend)

    none' : count_of ys x.reference ≡ 0
    none' = ap (count_of ys) name ∙ absent_behind y.reference ys (head_before y ys list'.ascend)

    count : x.count ≡ y.count
    count = omega (
      arith,
      same x.reference,
      count-cons x xs x.reference,
      count-cons y ys x.reference,
      none,
      none',
      counted-own x.reference x refl,
      counted-own x.reference y (sym name),
    )

    at : x ≡ y
    at = λ i. record { reference = name i; count = count i }

    rest : (w : Reference) → count_of xs w ≡ count_of ys w
    rest w = omega (arith, same w, count-cons x xs w, count-cons y ys w, ap (counted w) at)
