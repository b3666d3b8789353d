-- A list of references built of changes, and of those that have none.
use Rattle.std.proofs.Common.{◌≡◌, ℕ, zero, suc, ◌+◌, ◌<◌, false, List, [], ◌∷◌, ◌++◌, length, take}
use Rattle.std.proofs.Common.{Option, Some, None, get_or, refl, sym, ap, subst, ◌∙◌, arith, inl, inr}
use Rattle.std.specs.Prelude.{if◌then◌else◌}
use Rattle.std.proofs.lemmas.Bool.{cases_Bool, cond-true, cond-false}
use Rattle.std.proofs.lemmas.List.{take_more}
use Rattle.std.proofs.lemmas.List.Sums.{sum_by_more}
use Rattle.qg_items.specs.declared.extent.Reference.{Reference}
use Rattle.qg_image.specs.Record.{same_reference}
use Rattle.qg_refs.specs.declared.counted.Counted.{Counted}
use Rattle.qg_refs.specs.Counts.{HasSoManyMore, IsRefList, count_of, counted}
use Rattle.qg_refs.proofs.Counting.{count-cons, count-nil, counted-other}
use Rattle.qg_refs.proofs.RankOrder.{precedes_differs, same_other_way, same_reference_is}
use Rattle.qg_delayed.specs.declared.change.Change.{Change}
use Rattle.qg_delayed.specs.Changes.{ChangesAscend, change_of}
use Rattle.qg_delayed.specs.Merged.{left_as, left_in, now_in, now_or, with_changes}
use Rattle.qg_delayed.proofs.Listing.{later}
use Rattle.qg_delayed.proofs.Totals.{apart, changes_count, changes_list, same_lists, tail_list, unlisted_in}

abbrev more_where : ℕ → Reference → Reference → ℕ
more_where more other x = if same_reference other x then more else 0

-- nothing more
pub none_more : (xs : List Counted) (x : Reference) (n : ℕ) → n ≡ 0 → HasSoManyMore xs xs x n
none_more xs x n none other = elim (cases_Bool (same_reference other x)) [
  | inl same ↦
      let more : more_where n other x ≡ n = cond-true _ _ _ same in
      omega (arith, more, none)
  | inr differs ↦
      let more : more_where n other x ≡ 0 = cond-false _ _ _ differs in
      omega (arith, more)
]

-- ---- the changes

-- a change isn't among those before it
pub front_misses : (cs : List Change) (i : ℕ) (d : Change) → ChangesAscend cs → i < length cs
    → change_of (get_or cs i d).reference (take i cs) ≡ None
front_misses [] i d up inside = absurd (omega (arith, inside))
front_misses (y ∷ ys) zero d up inside = refl
front_misses (y ∷ ys) (suc i) d up inside =
    cond-false _ _ _ (same_other_way y.reference (get_or ys i d).reference
    (precedes_differs y.reference (get_or ys i d).reference (up 0 (suc i) d (omega arith) inside)))
    ∙ front_misses ys i d (later y ys up) (omega (arith, inside))

last_now : (cs : List Change) (c : Change) (x : Reference) → change_of c.reference cs ≡ None
    → now_in (change_of x (cs ++ c ∷ [])) ≡ now_in (change_of x cs) + more_where c.now x c.reference
last_now [] c x none = elim (cases_Bool (same_reference x c.reference)) [
  | inl same ↦
      let own : now_in (change_of x (c ∷ [])) ≡ c.now =
      ap now_in (cond-true (same_reference x c.reference) (Some c) None same) in
      let more : more_where c.now x c.reference ≡ c.now = cond-true _ _ _ same in
      omega (arith, own, more)
  | inr differs ↦
      let own : now_in (change_of x (c ∷ [])) ≡ 0 =
      ap now_in (cond-false (same_reference x c.reference) (Some c) None differs) in
      let more : more_where c.now x c.reference ≡ 0 = cond-false _ _ _ differs in
      omega (arith, own, more)
]
last_now (y ∷ ys) c x none = elim (unlisted_in c.reference y ys none) [
  | apart other none' ↦ elim (cases_Bool (same_reference x y.reference)) [
    | inl same ↦
        let after : now_in (change_of x (y ∷ ys ++ c ∷ [])) ≡ y.now =
        ap now_in (cond-true (same_reference x y.reference) (Some y) (change_of x (ys ++ c ∷ [])) same) in
        let before : now_in (change_of x (y ∷ ys)) ≡ y.now =
        ap now_in (cond-true (same_reference x y.reference) (Some y) (change_of x ys) same) in
        let is : y.reference ≡ x = sym (same_reference_is x y.reference same) in
        let more : more_where c.now x c.reference ≡ 0 = cond-false _ _ _
        (same_other_way c.reference x (subst (λ (r : Reference). same_reference c.reference r ≡ false) is other)) in
        omega (arith, after, before, more)
    | inr differs ↦
        let after : now_in (change_of x (y ∷ ys ++ c ∷ [])) ≡ now_in (change_of x (ys ++ c ∷ [])) =
        ap now_in (cond-false (same_reference x y.reference) (Some y) (change_of x (ys ++ c ∷ [])) differs) in
        let before : now_in (change_of x (y ∷ ys)) ≡ now_in (change_of x ys) =
        ap now_in (cond-false (same_reference x y.reference) (Some y) (change_of x ys) differs) in
        omega (arith, after, before, last_now ys c x none')
  ]
]

-- a list has the changes of a front
abbrev pub HasChanges : List Counted → List Change → Type 0
HasChanges list cs = (x : Reference) → count_of list x ≡ now_in (change_of x cs)

pub has_none : HasChanges [] []
has_none x = count-nil x

pub misses_now : (list : List Counted) (cs : List Change) (i : ℕ) (d : Change) → ChangesAscend cs → i < length cs
    → HasChanges list (take i cs) → count_of list (get_or cs i d).reference ≡ 0
misses_now list cs i d up inside has =
    has (get_or cs i d).reference ∙ ap now_in (front_misses cs i d up inside)

pub has_more : (list new : List Counted) (cs : List Change) (i : ℕ) (c : Change) → ChangesAscend cs → i < length cs
    → c ≡ get_or cs i c → HasChanges list (take i cs) → HasSoManyMore list new c.reference c.now
    → HasChanges new (take (i + 1) cs)
has_more list new cs i c up inside at has more x =
    let next : take (i + 1) cs ≡ take i cs ++ c ∷ [] = take_more cs i c inside
    ∙ ap (λ (w : Change). take i cs ++ w ∷ []) (sym at) in
    let none : change_of c.reference (take i cs) ≡ None =
    ap (λ (w : Change). change_of w.reference (take i cs)) at ∙ front_misses cs i c up inside in
    let last = last_now (take i cs) c x none in
    let is : now_in (change_of x (take (i + 1) cs)) ≡ now_in (change_of x (take i cs ++ c ∷ [])) =
    ap (λ (ws : List Change). now_in (change_of x ws)) next in
    omega (arith, more x, has x, last, is)

-- ---- those that have none

pub front_absent : (xs : List Counted) (i : ℕ) (d : Counted) → IsRefList xs → i < length xs
    → count_of (take i xs) (get_or xs i d).reference ≡ 0
front_absent [] i d list inside = absurd (omega (arith, inside))
front_absent (y ∷ ys) zero d list inside = count-nil (get_or (y ∷ ys) zero d).reference
front_absent (y ∷ ys) (suc i) d list inside =
    let x = (get_or ys i d).reference in
    let differs = same_other_way y.reference x
    (precedes_differs y.reference x (list.ascend 0 (suc i) d (omega arith) inside)) in
    omega (
      arith,
      count-cons y (take i ys) x,
      counted-other x y differs,
      front_absent ys i d (tail_list y ys list) (omega (arith, inside)),
    )

count_take : (xs : List Counted) (i : ℕ) (d : Counted) (x : Reference) → i < length xs
    → count_of (take (i + 1) xs) x ≡ count_of (take i xs) x + counted x (get_or xs i d)
unfolding count_of
count_take xs i d x inside = sum_by_more (counted x) xs i d inside

-- a list has the changes, and of others a front
abbrev pub HasOthers : List Counted → List Counted → List Change → Type 0
HasOthers list xs cs = (x : Reference) → count_of list x ≡ now_or (count_of xs x) (change_of x cs)

pub others_none : (list : List Counted) (cs : List Change) → HasChanges list cs → HasOthers list [] cs
others_none list cs has x = has x ∙ ap (λ (n : ℕ). now_or n (change_of x cs)) (sym (count-nil x))

none_left : (o : Option Change) (entry : Counted) → 0 < left_in entry o → o ≡ None
none_left None entry some = refl
none_left (Some change) entry some = absurd (omega (arith, some))

pub absent_now : (list xs : List Counted) (cs : List Change) (i : ℕ) (entry : Counted) → IsRefList xs → i < length xs
    → entry ≡ get_or xs i entry → HasOthers list (take i xs) cs → 0 < left_as cs entry
    → count_of list entry.reference ≡ 0
absent_now list xs cs i entry sound inside at has some =
    has entry.reference
    ∙ ap (now_or (count_of (take i xs) entry.reference)) (none_left (change_of entry.reference cs) entry some)
    ∙ ap (λ (w : Counted). count_of (take i xs) w.reference) at ∙ front_absent xs i entry sound inside

now_more : (o : Option Change) (n : ℕ) (entry : Counted) → now_or (n + entry.count) o ≡ now_or n o + left_in entry o
now_more None n entry = refl
now_more (Some change) n entry = omega arith

pub others_more : (list new xs : List Counted) (cs : List Change) (i : ℕ) (entry : Counted) → i < length xs
    → entry ≡ get_or xs i entry → HasOthers list (take i xs) cs
    → HasSoManyMore list new entry.reference (left_as cs entry) → HasOthers new (take (i + 1) xs) cs
others_more list new xs cs i entry inside at has more x =
    let own : counted x (get_or xs i entry) ≡ counted x entry = ap (counted x) (sym at) in
    elim (cases_Bool (same_reference x entry.reference)) [
      | inl same ↦
          let is : x ≡ entry.reference = same_reference_is x entry.reference same in
          let here : counted x entry ≡ entry.count = cond-true _ _ _ same in
          let left : more_where (left_as cs entry) x entry.reference ≡ left_in entry (change_of x cs) =
          cond-true _ _ _ same ∙ ap (λ (r : Reference). left_in entry (change_of r cs)) (sym is) in
          let next : count_of (take (i + 1) xs) x ≡ count_of (take i xs) x + entry.count =
          omega (arith, count_take xs i entry x inside, own, here) in
          let all : now_or (count_of (take (i + 1) xs) x) (change_of x cs)
          ≡ now_or (count_of (take i xs) x + entry.count) (change_of x cs) =
          ap (λ (n : ℕ). now_or n (change_of x cs)) next in
          omega (arith, more x, has x, left, all, now_more (change_of x cs) (count_of (take i xs) x) entry)
      | inr differs ↦
          let here : counted x entry ≡ 0 = cond-false _ _ _ differs in
          let left : more_where (left_as cs entry) x entry.reference ≡ 0 = cond-false _ _ _ differs in
          let next : count_of (take (i + 1) xs) x ≡ count_of (take i xs) x =
          omega (arith, count_take xs i entry x inside, own, here) in
          let all : now_or (count_of (take (i + 1) xs) x) (change_of x cs)
          ≡ now_or (count_of (take i xs) x) (change_of x cs) =
          ap (λ (n : ℕ). now_or n (change_of x cs)) next in
          omega (arith, more x, has x, left, all)
    ]

-- and then all
pub list_made : (list xs : List Counted) (cs : List Change) → IsRefList list → IsRefList xs → HasOthers list xs cs
    → list ≡ with_changes cs xs
list_made list xs cs sound below has =
    same_lists list (with_changes cs xs) sound (changes_list cs xs below)
    (λ x. has x ∙ sym (changes_count cs xs x below))
