-- For each entry there is something below of which it speaks, and for all entries a book.
use Rattle.std.proofs.Common.{◌≡◌, ◌≢◌, ℕ, suc, ◌+◌, ◌<◌, ◌≤◌, true, List, [], ◌∷◌, length, Option, Some, None}
use Rattle.std.proofs.Common.{refl, sym, ap, subst, ◌∙◌, arith, inl, inr}
use Rattle.std.specs.Prelude.{if◌then◌else◌, ◌==◌}
use Rattle.std.proofs.lemmas.Bool.{cases_Bool, cond-true, cond-false}
use Rattle.qg_items.specs.declared.extent.Reference.{Reference}
use Rattle.qg_items.specs.declared.extent.Reference.TheVariants.{KeyedBlock, SharedBlock, KeyedData, SharedData}
use Rattle.qg_image.specs.Record.{same_reference}
use Rattle.qg_refs.specs.declared.counted.Counted.{Counted}
use Rattle.qg_refs.specs.declared.kept.Kept.{Kept}
use Rattle.std.specs.BTreeMap.{is_at}
use Rattle.std.specs.Ordering.{nat_cmp}
use Rattle.qg_refs.specs.Book.{Book, references_in}
use Rattle.qg_refs.specs.Counts.{IsRefList, count_of}
use Rattle.qg_refs.proofs.Counting.{count-nil}
use Rattle.qg_refs.proofs.RankOrder.{same_reference_is}
use Rattle.qg_delayed.specs.declared.change.Change.{Change}
use Rattle.qg_delayed.specs.declared.entry.Entry.{Entry}
use Rattle.qg_delayed.specs.Below.{total_of}
use Rattle.qg_delayed.specs.Changes.{ChangesAscend, change_of, sum_below}
use Rattle.qg_delayed.specs.Entry.{AreEntries, IsEntry, entry_at, what_of}
use Rattle.qg_delayed.specs.Merged.{Fits, IsOf, with_count}
use Rattle.qg_delayed.proofs.Listing.{first_before, later, none_after}
use Rattle.qg_delayed.proofs.Totals.{apart, count_list, count_other, count_own, count_total, unlisted_in}
use Rattle.qg_delayed.proofs.Books.{at_itself, at_other, same_or_not}
use Rattle.qg_delayed.proofs.Entries.{found_case, is_some_more, is_zero, one_within}
use Rattle.qg_delayed.proofs.Learning.{HasReferences, apart_from, nothing_found}

-- ---- the references that were looked up

-- each so often as the book below has it
abbrev listed_below : List Change → List Counted
listed_below [] = []
listed_below (c ∷ cs) = with_count c.reference c.below (listed_below cs)

no_list : IsRefList []
no_list = record {
  ascend = λ i j d h k. absurd (omega (arith, h, k));
  some = λ i d h. absurd (omega (arith, h));
}

listed_list : (cs : List Change) → IsRefList (listed_below cs)
listed_list [] = no_list
listed_list (c ∷ cs) = count_list c.reference c.below (listed_below cs) (listed_list cs)

listed_none : (cs : List Change) (x : Reference) → change_of x cs ≡ None → count_of (listed_below cs) x ≡ 0
listed_none [] x none = count-nil x
listed_none (c ∷ cs) x none = elim (unlisted_in x c cs none) [
  | apart differs none' ↦
      count_other c.reference c.below (listed_below cs) x differs ∙ listed_none cs x none'
]

listed_count : (cs : List Change) (x : Reference) (c : Change) → change_of x cs ≡ Some c
    → count_of (listed_below cs) x ≡ c.below
listed_count [] x c found = absurd (nothing_found None c refl found)
listed_count (y ∷ ys) x c found = elim (cases_Bool (same_reference x y.reference)) [
  | inl same ↦
      let at : x ≡ y.reference = same_reference_is x y.reference same in
      found_case (λ (w : Change). count_of (listed_below (y ∷ ys)) x ≡ w.below) (change_of x (y ∷ ys)) y c
      (cond-true (same_reference x y.reference) (Some y) (change_of x ys) same) found
      (ap (count_of (listed_below (y ∷ ys))) at ∙ count_own y.reference y.below (listed_below ys) (listed_list ys))
  | inr differs ↦
      count_other y.reference y.below (listed_below ys) x differs
      ∙ listed_count ys x c
      (sym (cond-false (same_reference x y.reference) (Some y) (change_of x ys) differs) ∙ found)
]

listed_total : (cs : List Change) → ChangesAscend cs → total_of (listed_below cs) ≡ sum_below cs
listed_total [] up = refl
listed_total (c ∷ cs) up = omega (
  arith,
  count_total c.reference c.below (listed_below cs) (listed_list cs),
  listed_none cs c.reference (none_after c.reference cs (first_before c cs up)),
  listed_total cs (later c cs up),
)

-- ---- a reference that none of them is

abbrev parent_in : Reference → ℕ
parent_in (KeyedBlock root) = 0
parent_in (SharedBlock parent) = 0
parent_in (KeyedData root ino offset) = 0
parent_in (SharedData parent) = parent

-- above each parent
abbrev above_all : List Change → ℕ
above_all [] = 0
above_all (c ∷ cs) = suc (parent_in c.reference) + above_all cs

above_misses : (cs : List Change) (n : ℕ) → above_all cs ≤ n → change_of (SharedData n) cs ≡ None
above_misses [] n above = refl
above_misses (c ∷ cs) n above = elim (cases_Bool (same_reference (SharedData n) c.reference)) [
  | inl same ↦
      let parent : n ≡ parent_in c.reference = ap parent_in (same_reference_is (SharedData n) c.reference same) in
      absurd (omega (arith, parent, above))
  | inr differs ↦ cond-false _ _ _ differs ∙ above_misses cs n (omega (arith, above))
]

abbrev fresh : Entry → Reference
fresh e = SharedData (above_all e.changes)

fresh_misses : (e : Entry) → change_of (fresh e) e.changes ≡ None
fresh_misses e = above_misses e.changes (above_all e.changes) (omega arith)

-- ---- what may lie below

-- the references that were looked up, and as many others of one
abbrev refs_below : Entry → List Counted
refs_below e = with_count (fresh e) e.others (listed_below e.changes)

refs_list : (e : Entry) → IsRefList (refs_below e)
refs_list e = count_list (fresh e) e.others (listed_below e.changes) (listed_list e.changes)

refs_total : (e : Entry) → IsEntry e → total_of (refs_below e) ≡ e.others + sum_below e.changes
refs_total e is = omega (
  arith,
  count_total (fresh e) e.others (listed_below e.changes) (listed_list e.changes),
  listed_none e.changes (fresh e) (fresh_misses e),
  listed_total e.changes is.ascend,
)

refs_count : (e : Entry) (x : Reference) (c : Change) → change_of x e.changes ≡ Some c
    → c.below ≡ count_of (refs_below e) x
refs_count e x c found =
    sym (count_other (fresh e) e.others (listed_below e.changes) x
    (apart_from (fresh e) x e.changes c (fresh_misses e) found)
    ∙ listed_count e.changes x c found)

abbrev kept_below : Entry → Kept
kept_below e = record { what = what_of e; full = e.was_full; references = refs_below e }

abbrev lies_below : Entry → Option Kept
lies_below e = if e.others + sum_below e.changes == 0 then None else Some (kept_below e)

-- an entry speaks of it, and a book may have it at an address
record MayLie (below : Option Kept) (e : Entry) : Type 0 where
  of : IsOf below e
  list : IsRefList (references_in below)
  some : HasReferences below

nothing_lies : (e : Entry) → IsEntry e → e.others + sum_below e.changes ≡ 0 → MayLie None e
nothing_lies e is none = record {
  of = record {
    counts = λ x c found. omega (arith, count-nil x, one_within (λ w. w.below) e.changes x c found, none);
    others = none;
    known = λ begun. absurd (omega (arith, none, is.had (inl begun)));
    mark = elim (cases_Bool e.was_full) [
      | inl was ↦ absurd (omega (arith, none, is.had (inr was)))
      | inr not ↦ sym not
    ];
  };
  list = no_list;
  some = λ kept there. absurd (nothing_found None kept refl there);
}

total_some : (xs : List Counted) → 0 < total_of xs → 0 < length xs
total_some [] some = absurd (omega (arith, some))
total_some (x ∷ xs) some = omega arith

something_lies : (e : Entry) → IsEntry e → 0 < e.others + sum_below e.changes → MayLie (Some (kept_below e)) e
something_lies e is some = record {
  of = record {
    counts = λ x c found. refs_count e x c found;
    others = sym (refs_total e is);
    known = λ _. refl;
    mark = refl;
  };
  list = refs_list e;
  some = λ kept there. subst (λ (o : Option Kept). 0 < length (references_in o)) there
      (total_some (refs_below e) (omega (arith, refs_total e is, some)));
}

may_lie : (e : Entry) → IsEntry e → MayLie (lies_below e) e
may_lie e is = elim (cases_Bool (e.others + sum_below e.changes == 0)) [
  | inl none ↦
      subst (λ (o : Option Kept). MayLie o e) (sym (cond-true _ _ _ none))
      (nothing_lies e is (is_zero (e.others + sum_below e.changes) none))
  | inr some ↦
      subst (λ (o : Option Kept). MayLie o e) (sym (cond-false _ _ _ some))
      (something_lies e is (is_some_more (e.others + sum_below e.changes) some))
]

-- each entry speaks of something
pub some_below : (e : Entry) → IsEntry e → (below : Option Kept) × IsOf below e
some_below e is = (lies_below e, (may_lie e is).of)

-- ---- the book below

abbrev lies_in : Option Entry → Option Kept
lies_in None = None
lies_in (Some e) = lies_below e

list_in : (o : Option Entry) → ((e : Entry) → o ≡ Some e → IsEntry e) → IsRefList (references_in (lies_in o))
list_in None each = no_list
list_in (Some e) each = (may_lie e (each e refl)).list

some_in : (o : Option Entry) → ((e : Entry) → o ≡ Some e → IsEntry e) → HasReferences (lies_in o)
some_in None each kept there = absurd (nothing_found None kept refl there)
some_in (Some e) each kept there = (may_lie e (each e refl)).some kept there

-- all entries speak of a book
pub some_book : (entries : List (ℕ × Entry)) → AreEntries entries → (below : Book) × Fits below entries
some_book entries are = (
  λ at. lies_in (entry_at entries at),
  record {
    book = record {
      sound = λ at. list_in (entry_at entries at) (are.each at);
      some = λ at. some_in (entry_at entries at) (are.each at);
    };
    each = λ at e found. subst (λ (o : Option Entry). IsOf (lies_in o) e) (sym found)
        (may_lie e (are.each at e found)).of;
  },
)

-- a book with something else at one address
abbrev pub book_with : Book → ℕ → Option Kept → Book
book_with below at kept q = if is_at (nat_cmp at) q then kept else below q

with_here : (below : Book) (at : ℕ) (kept : Option Kept) (q : ℕ) → q ≡ at → book_with below at kept q ≡ kept
with_here below at kept q same =
    cond-true _ _ _ (subst (λ (w : ℕ). is_at (nat_cmp at) w ≡ true) (sym same) (at_itself at))

with_other : (below : Book) (at : ℕ) (kept : Option Kept) (q : ℕ) → q ≢ at → book_with below at kept q ≡ below q
with_other below at kept q other = cond-false _ _ _ (at_other at q other)

-- what holds of it and of the book elsewhere holds of that book
with_case : (P : ℕ → Option Kept → Type 0) (below : Book) (at : ℕ) (kept : Option Kept) (q : ℕ)
    → (q ≡ at → P q kept) → (q ≢ at → P q (below q)) → P q (book_with below at kept q)
with_case P below at kept q here elsewhere = elim (same_or_not q at) [
  | inl same ↦ subst (P q) (sym (with_here below at kept q same)) (here same)
  | inr other ↦ subst (P q) (sym (with_other below at kept q other)) (elsewhere other)
]

-- where a book fits, one that differs from it at one address alone fits the entries with that one changed
pub some_fits : (below : Book) (old new : List (ℕ × Entry)) (at : ℕ) → Fits below old → AreEntries new
    → ((q : ℕ) → q ≢ at → entry_at new q ≡ entry_at old q)
    → (kept : Option Kept) × Fits (book_with below at kept) new
some_fits below old new at fits are elsewhere =
    let kept = lies_in (entry_at new at) in (
      kept,
      record {
        book = record {
          sound = λ q. with_case (λ p o. IsRefList (references_in o)) below at kept q
              (λ same. list_in (entry_at new at) (are.each at)) (λ other. fits.book.sound q);
          some = λ q. with_case (λ p o. HasReferences o) below at kept q
              (λ same. some_in (entry_at new at) (are.each at)) (λ other. fits.book.some q);
        };
        each = λ q e found. with_case (λ p o. IsOf o e) below at kept q
            (λ same.
            let there : entry_at new at ≡ Some e = ap (entry_at new) (sym same) ∙ found in
            subst (λ (o : Option Entry). IsOf (lies_in o) e) (sym there) (may_lie e (are.each at e there)).of)
            (λ other. fits.each q e (sym (elsewhere q other) ∙ found));
      },
    )
