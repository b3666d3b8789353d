-- An entry, the book of which it speaks, and what is there now.
use Rattle.std.proofs.Common.{◌≡◌, ℕ, ◌+◌, ◌-◌, ◌<◌, ◌≤◌, Bool, true, false, List, [], ◌∷◌}
use Rattle.std.proofs.Common.{Option, Some, None, get_or, refl, sym, ap, subst, ◌∙◌, arith, ◌⊎◌, inl, inr}
use Rattle.std.specs.Prelude.{if◌then◌else◌, unwrap_or, ◌==◌, ◌||◌, ◌&&◌, not}
use Rattle.std.proofs.lemmas.Bool.{cases_Bool, cond-true, cond-false, true≢false}
use Rattle.std.proofs.lemmas.Bool.Decides.{nat_tests}
use Rattle.qg_items.specs.declared.extent.Reference.{Reference}
use Rattle.qg_image.specs.Record.{same_reference}
use Rattle.qg_refs.specs.declared.counted.Counted.{Counted}
use Rattle.qg_refs.specs.declared.kept.What.{What}
use Rattle.qg_refs.specs.declared.kept.Kept.{Kept}
use Rattle.qg_refs.specs.Book.{references_in, full_in, what_in}
use Rattle.qg_refs.specs.Counts.{HasOneMore, IsRefList, count_of, greatest_count}
use Rattle.qg_refs.proofs.RankOrder.{same_reference_is}
use Rattle.qg_delayed.specs.declared.change.Change.{Change}
use Rattle.qg_delayed.specs.declared.entry.Entry.{Entry}
use Rattle.qg_delayed.specs.Below.{total_of}
use Rattle.qg_delayed.specs.Changes.{ChangesAscend, change_of, sum_below, sum_each, sum_now, with_change}
use Rattle.qg_delayed.specs.Entry.{IsEntry, known_in, what_of, with_one_less, with_one_more}
use Rattle.qg_delayed.specs.Merged.{IsOf, merged_at, now_or, with_changes}
use Rattle.qg_delayed.proofs.Listing.{change_found, number_in, with_ascends, with_other, with_own, with_sum}
use Rattle.qg_delayed.proofs.Totals.{SaysBelow, changes_count, changes_list, changes_total}

-- ---- numbers and options

pub is_zero : (n : ℕ) → (n == 0) ≡ true → n ≡ 0
is_zero n h = grind (arith, nat_tests)

pub zero_is : (n : ℕ) → n ≡ 0 → (n == 0) ≡ true
zero_is n h = grind (arith, nat_tests)

pub some_is : (n : ℕ) → 0 < n → (n == 0) ≡ false
some_is n h = grind (arith, nat_tests)

pub is_some_more : (n : ℕ) → (n == 0) ≡ false → 0 < n
is_some_more n h = grind (arith, nat_tests)

-- what holds of what is there holds of what was found there
pub found_case : {A : Type 0} → (P : A → Type 0) (o : Option A) (x y : A) → o ≡ Some x → o ≡ Some y → P x → P y
found_case P o x y is is' holds = subst (λ (w : Option _). P (unwrap_or w x)) (sym is ∙ is') holds

-- ---- what is there now

-- the references as they are now
abbrev pub list_now : Option Kept → Entry → List Counted
list_now below entry = with_changes entry.changes (references_in below)

pub says_below : (below : Option Kept) (entry : Entry) → ChangesAscend entry.changes → IsOf below entry
    → SaysBelow (references_in below) entry.changes
says_below below entry up of k d h =
    let change = get_or entry.changes k d in
    of.counts change.reference change (change_found change.reference entry.changes k d up h refl)

pub list_total : (below : Option Kept) (entry : Entry) → IsEntry entry → IsRefList (references_in below)
    → IsOf below entry → total_of (list_now below entry) ≡ entry.total
list_total below entry is list of =
    let all = changes_total entry.changes (references_in below) list is.ascend (says_below below entry is.ascend of) in
    omega (arith, all, of.others, is.total)

total_none : (xs : List Counted) → IsRefList xs → total_of xs ≡ 0 → xs ≡ []
total_none [] list none = refl
total_none (x ∷ xs) list none = absurd (omega (arith, none, list.some 0 x (omega arith)))

pub gone_at : (below : Option Kept) (entry : Entry) → entry.total ≡ 0 → merged_at below entry ≡ None
gone_at below entry none = cond-true _ _ _ (zero_is entry.total none)

-- what is kept there now
abbrev pub kept_now : Option Kept → Entry → Kept
kept_now below entry =
    record { what = what_of entry; full = entry.full; references = with_changes entry.changes (references_in below) }

pub there_at : (below : Option Kept) (entry : Entry) → 0 < entry.total
    → merged_at below entry ≡ Some (kept_now below entry)
there_at below entry some = cond-false _ _ _ (some_is entry.total some)

pub merged_list : (below : Option Kept) (entry : Entry) → IsEntry entry → IsRefList (references_in below)
    → IsOf below entry → references_in (merged_at below entry) ≡ list_now below entry
merged_list below entry is list of = elim (cases_Bool (entry.total == 0)) [
  | inl none ↦
      ap references_in (gone_at below entry (is_zero entry.total none))
      ∙ sym (total_none (list_now below entry) (changes_list entry.changes (references_in below) list)
      (list_total below entry is list of ∙ is_zero entry.total none))
  | inr some ↦ ap references_in (there_at below entry (is_some_more entry.total some))
]

known_by : (b : Bool) (kept : Kept) → what_in (if b then None else Some kept) ≡ (if b then None else Some kept.what)
known_by true kept = refl
known_by false kept = refl

pub merged_known : (below : Option Kept) (entry : Entry) → what_in (merged_at below entry) ≡ known_in entry
merged_known below entry = known_by (entry.total == 0) (kept_now below entry)

pub merged_full : (below : Option Kept) (entry : Entry) → IsEntry entry → full_in (merged_at below entry) ≡ entry.full
merged_full below entry is = elim (cases_Bool (entry.total == 0)) [
  | inl none ↦
      ap full_in (gone_at below entry (is_zero entry.total none)) ∙ sym (is.gone (is_zero entry.total none))
  | inr some ↦ ap full_in (there_at below entry (is_some_more entry.total some))
]

pub merged_total : (below : Option Kept) (entry : Entry) → IsEntry entry → IsRefList (references_in below)
    → IsOf below entry → total_of (references_in (merged_at below entry)) ≡ entry.total
merged_total below entry is list of =
    ap total_of (merged_list below entry is list of) ∙ list_total below entry is list of

pub merged_count : (below : Option Kept) (entry : Entry) → IsEntry entry → IsRefList (references_in below)
    → IsOf below entry → (x : Reference)
    → count_of (references_in (merged_at below entry)) x
    ≡ now_or (count_of (references_in below) x) (change_of x entry.changes)
merged_count below entry is list of x =
    ap (λ (xs : List Counted). count_of xs x) (merged_list below entry is list of)
    ∙ changes_count entry.changes (references_in below) x list

-- ---- a change of one count

-- a change with another count now
abbrev pub so_now : Change → ℕ → Change
so_now change n = record change { now = n }

abbrev counted_more : ℕ → Reference → Reference → ℕ
counted_more n other x = if same_reference other x then n else 0

pub count_was : (cs : List Change) (xs : List Counted) (c : Change) → IsRefList xs
    → change_of c.reference cs ≡ Some c → count_of (with_changes cs xs) c.reference ≡ c.now
count_was cs xs c list listed =
    changes_count cs xs c.reference list ∙ ap (now_or (count_of xs c.reference)) listed

pub count_set : (cs : List Change) (xs : List Counted) (c : Change) (n : ℕ) → IsRefList xs
    → count_of (with_changes (with_change (so_now c n) cs) xs) c.reference ≡ n
count_set cs xs c n list =
    changes_count (with_change (so_now c n) cs) xs c.reference list
    ∙ ap (now_or (count_of xs c.reference)) (with_own (so_now c n) cs)

pub count_stays : (cs : List Change) (xs : List Counted) (c : Change) (n : ℕ) → IsRefList xs → (x : Reference)
    → same_reference x c.reference ≡ false
    → count_of (with_changes (with_change (so_now c n) cs) xs) x ≡ count_of (with_changes cs xs) x
count_stays cs xs c n list x differs =
    changes_count (with_change (so_now c n) cs) xs x list
    ∙ ap (now_or (count_of xs x)) (with_other (so_now c n) cs x differs) ∙ sym (changes_count cs xs x list)

pub more_now : (cs : List Change) (xs : List Counted) (c : Change) → IsRefList xs
    → change_of c.reference cs ≡ Some c
    → HasOneMore (with_changes cs xs) (with_changes (with_change (so_now c (c.now + 1)) cs) xs) c.reference
more_now cs xs c list listed other = elim (cases_Bool (same_reference other c.reference)) [
  | inl same ↦
      let is : other ≡ c.reference = same_reference_is other c.reference same in
      let one : counted_more 1 other c.reference ≡ 1 = cond-true _ _ _ same in
      let new = with_changes (with_change (so_now c (c.now + 1)) cs) xs in
      omega (
        arith,
        one,
        count_was cs xs c list listed,
        count_set cs xs c (c.now + 1) list,
        ap (count_of (with_changes cs xs)) is,
        ap (count_of new) is,
      )
  | inr differs ↦
      let none : counted_more 1 other c.reference ≡ 0 = cond-false _ _ _ differs in
      omega (arith, none, count_stays cs xs c (c.now + 1) list other differs)
]

pub less_now : (cs : List Change) (xs : List Counted) (c : Change) → IsRefList xs
    → change_of c.reference cs ≡ Some c → 0 < c.now
    → HasOneMore (with_changes (with_change (so_now c (c.now - 1)) cs) xs) (with_changes cs xs) c.reference
less_now cs xs c list listed some other = elim (cases_Bool (same_reference other c.reference)) [
  | inl same ↦
      let is : other ≡ c.reference = same_reference_is other c.reference same in
      let one : counted_more 1 other c.reference ≡ 1 = cond-true _ _ _ same in
      let new = with_changes (with_change (so_now c (c.now - 1)) cs) xs in
      omega (
        arith,
        one,
        some,
        count_was cs xs c list listed,
        count_set cs xs c (c.now - 1) list,
        ap (count_of (with_changes cs xs)) is,
        ap (count_of new) is,
      )
  | inr differs ↦
      let none : counted_more 1 other c.reference ≡ 0 = cond-false _ _ _ differs in
      omega (arith, none, count_stays cs xs c (c.now - 1) list other differs)
]

-- ---- one change set, of all of an entry

pub sum_set : (f : Change → ℕ) (cs : List Change) (c : Change) (n : ℕ) → ChangesAscend cs
    → change_of c.reference cs ≡ Some c
    → sum_each f (with_change (so_now c n) cs) + f c ≡ sum_each f cs + f (so_now c n)
sum_set f cs c n up listed = omega (arith, with_sum f (so_now c n) cs up, ap (number_in f) listed)

-- what holds of the change that is set, and of each other
pub set_case : (P : Reference → Change → Type 0) (cs : List Change) (c : Change) → P c.reference c
    → ((x : Reference) (change : Change) → change_of x cs ≡ Some change → P x change)
    → (x : Reference) (change : Change)
    → change_of x (with_change c cs) ≡ Some change → P x change
set_case P cs c own each x change is = elim (cases_Bool (same_reference x c.reference)) [
  | inl same ↦
      let name : c.reference ≡ x = sym (same_reference_is x c.reference same) in
      found_case (P x) (change_of x (with_change c cs)) c change
      (ap (λ (r : Reference). change_of r (with_change c cs)) (sym name) ∙ with_own c cs) is
      (subst (λ (r : Reference). P r c) name own)
  | inr differs ↦ each x change (sym (with_other c cs x differs) ∙ is)
]

-- an entry with the same of the book below and one change set
pub of_set : (below : Option Kept) (e e' : Entry) (c : Change) (n : ℕ) → ChangesAscend e.changes
    → change_of c.reference e.changes ≡ Some c → e'.changes ≡ with_change (so_now c n) e.changes → e'.others ≡ e.others
    → e'.was_full ≡ e.was_full
    → IsOf below e → (e'.begun ≡ false → what_in below ≡ Some (what_of e')) → IsOf below e'
of_set below e e' c n up listed changes others mark of known = record {
  counts = λ x change is.
      set_case (λ r w. w.below ≡ count_of (references_in below) r) e.changes (so_now c n)
      (of.counts c.reference c listed) of.counts x change (ap (change_of x) (sym changes) ∙ is);
  others = omega (arith, ap sum_below changes, sum_set (λ w. w.below) e.changes c n up listed, others, of.others);
  known = known;
  mark = of.mark ∙ sym mark;
}

pub one_within : (f : Change → ℕ) (cs : List Change) (x : Reference) (c : Change) → change_of x cs ≡ Some c
    → f c ≤ sum_each f cs
one_within f [] x c is = absurd (none_some c is)
  where
    none_some : (c : Change) → None ≡ Some c → ⊥
    none_some c is = cc
one_within f (y ∷ ys) x c is = elim (cases_Bool (same_reference x y.reference)) [
  | inl same ↦
      found_case (λ (w : Change). f w ≤ sum_each f (y ∷ ys)) (change_of x (y ∷ ys)) y c
      (cond-true (same_reference x y.reference) (Some y) (change_of x ys) same) is (omega arith)
  | inr differs ↦
      omega (
        arith,
        one_within f ys x c
            (sym (cond-false (same_reference x y.reference) (Some y) (change_of x ys) differs) ∙ is),
      )
]

-- a change that was found is that of its reference
pub found_name : (cs : List Change) (x : Reference) (c : Change) → change_of x cs ≡ Some c → c.reference ≡ x
found_name [] x c is = absurd (none_some c is)
  where
    none_some : (c : Change) → None ≡ Some c → ⊥
    none_some c is = cc
found_name (y ∷ ys) x c is = elim (cases_Bool (same_reference x y.reference)) [
  | inl same ↦
      found_case (λ (w : Change). w.reference ≡ x) (change_of x (y ∷ ys)) y c
      (cond-true (same_reference x y.reference) (Some y) (change_of x ys) same) is
      (sym (same_reference_is x y.reference same))
  | inr differs ↦
      found_name ys x c (sym (cond-false (same_reference x y.reference) (Some y) (change_of x ys) differs) ∙ is)
]

pub listed_own : (cs : List Change) (x : Reference) (c : Change) → change_of x cs ≡ Some c
    → change_of c.reference cs ≡ Some c
listed_own cs x c is = subst (λ (r : Reference). change_of r cs ≡ Some c) (sym (found_name cs x c is)) is

-- what has a reference has some
pub some_total : (e : Entry) (x : Reference) (c : Change) → IsEntry e → change_of x e.changes ≡ Some c → 0 < c.now
    → 0 < e.total
some_total e x c is found some = omega (arith, is.total, some, one_within (λ w. w.now) e.changes x c found)

-- ---- one reference more

told_by : (b : Bool) (what : What) (entry : Entry)
    → record {
      bytes = if b then what.bytes else entry.bytes;
      level = if b then what.level else entry.level;
      generation = if b then what.generation else entry.generation;
    } ≡ unwrap_or (if b then None else Some (what_of entry)) what
told_by true what entry = refl
told_by false what entry = refl

pub what_more : (what : What) (c : Change) (e : Entry) → what_of (with_one_more what c e) ≡ unwrap_or (known_in e) what
what_more what c e = told_by (e.total == 0) what e

pub what_stays : (what : What) (c : Change) (e : Entry) → 0 < e.total → what_of (with_one_more what c e) ≡ what_of e
what_stays what c e some = what_more what c e
    ∙ ap (λ (o : Option What). unwrap_or o what) (cond-false _ _ _ (some_is e.total some))

pub entry_more : (what : What) (c : Change) (e : Entry) → IsEntry e → change_of c.reference e.changes ≡ Some c
    → c.now < greatest_count c.reference → IsEntry (with_one_more what c e)
entry_more what c e is listed room = record {
  ascend = with_ascends (so_now c (c.now + 1)) e.changes is.ascend;
  total = omega (arith, is.total, sum_set (λ w. w.now) e.changes c (c.now + 1) is.ascend listed);
  begun = is.begun;
  some = λ _. omega arith;
  had = λ may. omega (
    arith,
    is.had may,
    sum_set (λ w. w.below) e.changes c (c.now + 1) is.ascend listed,
  );
  gone = λ none. absurd (omega (arith, none));
  marked = is.marked;
  fitting = set_case
      (λ r w. (e.begun ≡ true) ⊎ (w.below < w.now) → w.now ≤ greatest_count w.reference) e.changes
      (so_now c (c.now + 1)) (λ _. omega (arith, room)) is.fitting;
}

pub of_more : (below : Option Kept) (what : What) (c : Change) (e : Entry) → IsEntry e
    → change_of c.reference e.changes ≡ Some c → IsOf below e → IsOf below (with_one_more what c e)
of_more below what c e is listed of = of_set below e (with_one_more what c e) c (c.now + 1) is.ascend listed refl refl
    refl of (λ begun. of.known begun ∙ ap (λ (w : What). Some w) (sym (what_stays what c e (is.some begun))))

-- ---- one reference less

or_false : (a b : Bool) → (a || b) ≡ false → (a ≡ false) × (b ≡ false)
or_false true b h = absurd (true≢false h)
or_false false b h = (refl, h)

or_true : (a b : Bool) → (a || b) ≡ true → (a ≡ true) ⊎ (b ≡ true)
or_true true b h = inl refl
or_true false b h = inr h

and_not : (a b : Bool) → b ≡ true → (a && not b) ≡ false
and_not true true h = refl
and_not false true h = refl
and_not a false h = absurd (true≢false (sym h))

pub and_stays : (a b : Bool) → b ≡ false → (a && not b) ≡ a
and_stays true false h = refl
and_stays false false h = refl
and_stays a true h = absurd (true≢false h)

pub entry_less : (c : Change) (e : Entry) → IsEntry e → change_of c.reference e.changes ≡ Some c → 0 < c.now
    → 0 < e.total → IsEntry (with_one_less c e)
entry_less c e is listed some there = record {
  ascend = with_ascends (so_now c (c.now - 1)) e.changes is.ascend;
  total = total;
  begun = λ begun. elim (or_true e.begun (e.total - 1 == 0) begun) [
    | inl before ↦ is.begun before
    | inr none ↦ omega (arith, total, is_zero (e.total - 1) none)
  ];
  some = λ begun. is_some_more (e.total - 1) (or_false e.begun (e.total - 1 == 0) begun).1;
  had = λ may. omega (
    arith,
    is.had (had_before may),
    sum_set (λ w. w.below) e.changes c (c.now - 1) is.ascend listed,
  );
  gone = λ none. and_not e.full (e.total - 1 == 0) (zero_is (e.total - 1) none);
  marked = λ begun was. and_stays e.full (e.total - 1 == 0) (or_false e.begun (e.total - 1 == 0) begun).1
      ∙ is.marked (or_false e.begun (e.total - 1 == 0) begun).0 was;
  fitting = λ x change found may. elim (cases_Bool (e.total - 1 == 0)) [
    | inl none ↦ omega (arith, total, is_zero (e.total - 1) none, one_within (λ w. w.now) changes x change found)
    | inr left ↦ fits x change found (open_still left may)
  ];
}
  where
    changes : List Change
    changes = with_change (so_now c (c.now - 1)) e.changes

    total : e.total - 1 ≡ e.others + sum_now changes
    total = omega (arith, there, some, is.total, sum_set (λ w. w.now) e.changes c (c.now - 1) is.ascend listed)

    fits : (x : Reference) (change : Change) → change_of x changes ≡ Some change
        → (e.begun ≡ true) ⊎ (change.below < change.now) → change.now ≤ greatest_count change.reference
    fits = set_case
        (λ r w. (e.begun ≡ true) ⊎ (w.below < w.now) → w.now ≤ greatest_count w.reference) e.changes
        (so_now c (c.now - 1)) (λ may. omega (arith, is.fitting c.reference c listed (lower may))) is.fitting
      where
        lower : (e.begun ≡ true) ⊎ (c.below < c.now - 1) → (e.begun ≡ true) ⊎ (c.below < c.now)
        lower (inl begun) = inl begun
        lower (inr more) = inr (omega (arith, more))

    had_before : ((e.begun || (e.total - 1 == 0)) ≡ false) ⊎ (e.was_full ≡ true)
        → (e.begun ≡ false) ⊎ (e.was_full ≡ true)
    had_before (inl begun) = inl (or_false e.begun (e.total - 1 == 0) begun).0
    had_before (inr was) = inr was

    open_still : (e.total - 1 == 0) ≡ false → {P : Type 0} → ((e.begun || (e.total - 1 == 0)) ≡ true) ⊎ P
        → (e.begun ≡ true) ⊎ P
    open_still left (inr may) = inr may
    open_still left (inl begun) = elim (or_true e.begun (e.total - 1 == 0) begun) [
      | inl before ↦ inl before
      | inr none ↦ absurd (true≢false (sym none ∙ left))
    ]

pub of_less : (below : Option Kept) (c : Change) (e : Entry) → IsEntry e
    → change_of c.reference e.changes ≡ Some c → IsOf below e → IsOf below (with_one_less c e)
of_less below c e is listed of = of_set below e (with_one_less c e) c (c.now - 1) is.ascend listed refl refl
    refl of (λ begun. of.known (or_false e.begun (e.total - 1 == 0) begun).0)

-- ---- the mark

pub entry_marked : (e : Entry) → IsEntry e → 0 < e.total → IsEntry (record e { full = true })
entry_marked e is some = record {
  ascend = is.ascend;
  total = is.total;
  begun = is.begun;
  some = is.some;
  had = is.had;
  gone = λ none. absurd (omega (arith, none, some));
  marked = λ begun was. refl;
  fitting = is.fitting;
}

pub of_marked : (below : Option Kept) (e : Entry) → IsOf below e → IsOf below (record e { full = true })
of_marked below e of = record { counts = of.counts; others = of.others; known = of.known; mark = of.mark }
