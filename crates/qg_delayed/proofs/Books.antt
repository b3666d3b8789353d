-- Entries by address, the book of which they speak, and that with all changes made.
use Rattle.std.proofs.Common.{◌≡◌, ◌≢◌, ℕ, ◌+◌, ◌-◌, ◌<◌, true, false, List, [], Option, Some}
use Rattle.std.proofs.Common.{cond, refl, sym, ap, subst, ◌∙◌, arith, ◌⊎◌, inl, inr}
use Rattle.std.specs.Prelude.{unwrap_or, IsSome, ◌==◌, OnErr, Result, Ok, Err}
use Rattle.std.specs.Option.{option_map}
use Rattle.std.specs.BTreeMap.{BTreeMap, WritesThrough, get, get_by, is_at}
use Rattle.std.specs.List.Sorted.{IsStrictlySortedBy}
use Rattle.std.specs.Map.{keys_of, set_value}
use Rattle.std.specs.Ordering.{nat_cmp}
use Rattle.std.proofs.lemmas.Bool.{cases_Bool, cond-true, cond-false}
use Rattle.std.proofs.lemmas.Bool.Decides.{nat_tests}
use Rattle.std.proofs.lemmas.Map.Steps.{set_value_same}
use Rattle.qg_items.specs.declared.extent.Reference.{Reference}
use Rattle.qg_refs.specs.declared.counted.Counted.{Counted}
use Rattle.qg_refs.specs.declared.kept.What.{What}
use Rattle.qg_refs.specs.declared.kept.Kept.{Kept}
use Rattle.qg_refs.specs.Book.{Book, Adds, Drops, Marks, references_at, references_in, full_in, what_in}
use Rattle.qg_refs.specs.Counts.{IsRefList}
use Rattle.qg_delayed.specs.declared.change.Change.{Change}
use Rattle.qg_delayed.specs.declared.entry.Entry.{Entry}
use Rattle.qg_delayed.specs.Below.{total_of}
use Rattle.qg_delayed.specs.Changes.{change_of}
use Rattle.qg_delayed.specs.Entry.{AreEntries, HasAt, IsEntry, entry_at, with_one_less}
use Rattle.qg_delayed.specs.Entry.{with_one_more}
use Rattle.qg_delayed.specs.Merged.{Edits, IsOf, change_in, count_now, merged, merged_at, merged_in, now_in}
use Rattle.qg_delayed.specs.Merged.{total_in, total_now}
use Rattle.qg_delayed.proofs.Entries.{and_stays, found_case, gone_at, less_now, list_now, list_total}
use Rattle.qg_delayed.proofs.Entries.{merged_full, merged_known, merged_list, more_now, of_less, of_marked, of_more}
use Rattle.qg_delayed.proofs.Entries.{is_zero, some_is, there_at, what_more}

-- ---- one address

pub at_itself : (at : ℕ) → is_at (nat_cmp at) at ≡ true
at_itself at = grind (arith, nat_tests)

pub at_other : (at q : ℕ) → q ≢ at → is_at (nat_cmp at) q ≡ false
at_other at q apart = grind (arith, nat_tests)

same_number : (q at : ℕ) → (q == at) ≡ true → q ≡ at
same_number q at h = grind (arith, nat_tests)

other_number : (q at : ℕ) → (q == at) ≡ false → q ≢ at
other_number q at h = grind (arith, nat_tests)

pub same_or_not : (q at : ℕ) → (q ≡ at) ⊎ (q ≢ at)
same_or_not q at = elim (cases_Bool (q == at)) [
  | inl same ↦ inl (same_number q at same)
  | inr differs ↦ inr (other_number q at differs)
]

pub has_here : (old new : List (ℕ × Entry)) (at : ℕ) (entry : Entry) → HasAt old new at entry
    → entry_at new at ≡ Some entry
has_here old new at entry has = has.each at ∙ cond-true _ _ _ (at_itself at)

pub has_other : (old new : List (ℕ × Entry)) (at : ℕ) (entry : Entry) → HasAt old new at entry → (q : ℕ) → q ≢ at
    → entry_at new q ≡ entry_at old q
has_other old new at entry has q apart = has.each q ∙ cond-false _ _ _ (at_other at q apart)

-- what holds of what an address has now, and of each other, holds of each
pub has_case : (P : ℕ → Entry → Type 0) (old new : List (ℕ × Entry)) (at : ℕ) (entry : Entry) → HasAt old new at entry
    → P at entry → ((q : ℕ) (other : Entry) → entry_at old q ≡ Some other → P q other) → (q : ℕ) (other : Entry)
    → entry_at new q ≡ Some other → P q other
has_case P old new at entry has own each q other is = elim (same_or_not q at) [
  | inl same ↦ found_case (P q) (entry_at new q) entry other
      (ap (entry_at new) same ∙ has_here old new at entry has) is
      (subst (λ (w : ℕ). P w entry) (sym same) own)
  | inr apart ↦ each q other (sym (has_other old new at entry has q apart) ∙ is)
]

pub entries_put : (old new : List (ℕ × Entry)) (at : ℕ) (entry : Entry) → AreEntries old
    → IsStrictlySortedBy nat_cmp (keys_of new) → HasAt old new at entry → IsEntry entry → AreEntries new
entries_put old new at entry are ascend has is =
    record { ascend = ascend; each = has_case (λ q e. IsEntry e) old new at entry has is are.each }

-- ---- a map of entries, where one was lent

-- it was found there
pub found_there : (m : BTreeMap ℕ Entry) (key at : ℕ) (entry : Option Entry) → key ≡ at
    → entry ≡ get_by (nat_cmp key) m → entry_at m.entries at ≡ entry
found_there m key at entry is found = ap (λ (k : ℕ). get_by (nat_cmp k) m) (sym is) ∙ sym found

pub lent_put : (m n : BTreeMap ℕ Entry) (key at : ℕ) (entry next : Entry) → key ≡ at
    → Some entry ≡ get_by (nat_cmp key) m → WritesThrough nat_cmp (nat_cmp key) m next n
    → HasAt m.entries n.entries at next
lent_put m n key at entry next is found writes =
    subst (λ (k : ℕ). HasAt m.entries n.entries k next) is (record { each = (writes.3 (some found)).0 })
  where
    some : Some entry ≡ get_by (nat_cmp key) m → IsSome (get_by (nat_cmp key) m)
    some h = subst (λ (o : Option Entry). IsSome o) h refl

pub lent_same : (m n : BTreeMap ℕ Entry) (key : ℕ) (entry next : Entry) → Some entry ≡ get_by (nat_cmp key) m
    → next ≡ entry → WritesThrough nat_cmp (nat_cmp key) m next n → n.entries ≡ m.entries
lent_same m n key entry next found same writes =
    writes.0 ∙ ap (λ (e : Entry). set_value (is_at (nat_cmp key)) m.entries e) same
    ∙ set_value_same (is_at (nat_cmp key)) m.entries entry (sym found)

pub updated_put : (m n : BTreeMap ℕ Entry) (key at : ℕ) (entry : Entry) → key ≡ at
    → ((q : ℕ) → get nat_cmp n q ≡ cond (is_at (nat_cmp key) q) (Some entry) (get nat_cmp m q))
    → HasAt m.entries n.entries at entry
updated_put m n key at entry is each = subst (λ (k : ℕ). HasAt m.entries n.entries k entry) is (record { each = each })

-- ---- what is there now

pub merged_here : (below : Book) (entries : List (ℕ × Entry)) (at : ℕ) (entry : Entry)
    → entry_at entries at ≡ Some entry → merged below entries at ≡ merged_at (below at) entry
merged_here below entries at entry is = ap (merged_in (below at)) is

pub merged_other : (below : Book) (old new : List (ℕ × Entry)) (q : ℕ) → entry_at new q ≡ entry_at old q
    → merged below new q ≡ merged below old q
merged_other below old new q is = ap (merged_in (below q)) is

-- ---- an edit of one entry

pub edits_at : (makes : Book → Book → Type 0) (old new : List (ℕ × Entry)) (at : ℕ) (e next : Entry)
    → entry_at old at ≡ Some e → HasAt old new at next
    → ((below : Option Kept) → IsOf below e → IsOf below next)
    → ((below : Book) → IsRefList (references_at below at) → IsOf (below at) e → IsOf (below at) next
    → merged below old at ≡ merged_at (below at) e → merged below new at ≡ merged_at (below at) next
    → ((q : ℕ) → q ≢ at → merged below new q ≡ merged below old q) → makes (merged below old) (merged below new))
    → Edits makes old new
edits_at makes old new at e next was has of makes_it = record {
  fits = λ below fits. record {
    book = fits.book;
    each = has_case (λ q w. IsOf (below q) w) old new at next has (of (below at) (fits.each at e was)) fits.each;
  };
  made = λ below fits. makes_it below (fits.book.sound at) (fits.each at e was)
      (of (below at) (fits.each at e was)) (merged_here below old at e was)
      (merged_here below new at next (has_here old new at next has))
      (λ q apart. merged_other below old new q (has_other old new at next has q apart));
}

pub adds_at : (old new : List (ℕ × Entry)) (at : ℕ) (what : What) (c : Change) (e : Entry) → IsEntry e
    → IsEntry (with_one_more what c e) → change_of c.reference e.changes ≡ Some c → entry_at old at ≡ Some e
    → HasAt old new at (with_one_more what c e) → Edits (λ a b. Adds a b at what c.reference) old new
adds_at old new at what c e is is' listed was has =
    let next = with_one_more what c e in
    edits_at (λ a b. Adds a b at what c.reference) old new at e next was has (λ b of. of_more b what c e is listed of)
    (λ below list of of' here there apart. record {
      count = rw (
        ap references_in here ∙ merged_list (below at) e is list of,
        ap references_in there ∙ merged_list (below at) next is' list of',
      ) (more_now e.changes (references_in (below at)) c list listed);
      known = ap what_in there ∙ merged_known (below at) next
          ∙ cond-false _ _ _ (some_is (e.total + 1) (omega arith))
          ∙ ap (λ (w : What). Some w) (what_more what c e
          ∙ ap (λ (o : Option What). unwrap_or o what) (sym (ap what_in here ∙ merged_known (below at) e)));
      full = ap full_in there ∙ merged_full (below at) next is' ∙ sym (ap full_in here ∙ merged_full (below at) e is);
      elsewhere = apart;
    })

length_none : (xs : List Counted) → xs ≡ [] → total_of xs ≡ 0
length_none xs none = ap total_of none

pub drops_at : (old new : List (ℕ × Entry)) (at : ℕ) (c : Change) (e : Entry) → IsEntry e
    → IsEntry (with_one_less c e) → change_of c.reference e.changes ≡ Some c → 0 < c.now → 0 < e.total
    → entry_at old at ≡ Some e → HasAt old new at (with_one_less c e)
    → Edits (λ a b. Drops a b at c.reference) old new
drops_at old new at c e is is' listed some total was has =
    let next = with_one_less c e in
    edits_at (λ a b. Drops a b at c.reference) old new at e next was has (λ b of. of_less b c e is listed of)
    (λ below list of of' here there apart.
    let left : references_at (merged below new) at ≢ [] → (e.total - 1 == 0) ≡ false =
    λ more. elim (cases_Bool (e.total - 1 == 0)) [
      | inl none ↦ absurd (more (ap references_in there
          ∙ ap references_in (gone_at (below at) next (is_zero (e.total - 1) none))))
      | inr here' ↦ here'
    ] in
    record {
      count = rw (
        ap references_in here ∙ merged_list (below at) e is list of,
        ap references_in there ∙ merged_list (below at) next is' list of',
      ) (less_now e.changes (references_in (below at)) c list listed some);
      gone = λ none. there ∙ gone_at (below at) next
          (sym (list_total (below at) next is' list of')
          ∙ length_none (list_now (below at) next)
          (sym (ap references_in there ∙ merged_list (below at) next is' list of') ∙ none));
      known = λ more. ap what_in there ∙ merged_known (below at) next ∙ cond-false _ _ _ (left more)
          ∙ sym (ap what_in here ∙ merged_known (below at) e ∙ cond-false _ _ _ (some_is e.total total));
      full = λ more. ap full_in there ∙ merged_full (below at) next is'
          ∙ and_stays e.full (e.total - 1 == 0) (left more)
          ∙ sym (ap full_in here ∙ merged_full (below at) e is);
      elsewhere = apart;
    })

pub marks_at : (old new : List (ℕ × Entry)) (at : ℕ) (e : Entry) → 0 < e.total → entry_at old at ≡ Some e
    → HasAt old new at (record e { full = true }) → Edits (λ a b. Marks a b at) old new
marks_at old new at e some was has =
    let next : Entry = record e { full = true } in
    edits_at (λ a b. Marks a b at) old new at e next was has (λ b of. of_marked b e of)
    (λ below list of of' here there apart. record {
      there = there ∙ there_at (below at) next some
          ∙ sym (ap (λ (o : Option Kept). option_map (λ (kept : Kept). record kept { full = true }) o)
          (here ∙ there_at (below at) e some));
      elsewhere = apart;
    })

-- what is asked of a call, of the entry that it finds
pub now_found : (entries : List (ℕ × Entry)) (at : ℕ) (e : Entry) (x : Reference) (c : Change)
    → entry_at entries at ≡ Some e → change_of x e.changes ≡ Some c → count_now entries at x ≡ c.now
now_found entries at e x c is found = ap now_in (ap (change_in x) is ∙ found)

pub total_found : (entries : List (ℕ × Entry)) (at : ℕ) (e : Entry) → entry_at entries at ≡ Some e
    → total_now entries at ≡ e.total
total_found entries at e is = ap total_in is

pub on_err : {A E : Type 0} → (P : Type 0) (r : Result A E) → P → OnErr r P
on_err P (Ok x) holds = tt
on_err P (Err e) holds = holds
