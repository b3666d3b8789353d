-- What a look-up in the book below adds to the entries.
use Rattle.std.proofs.Common.{◌≡◌, ◌≢◌, ℕ, ◌<◌, ◌≤◌, Bool, true, false, List, [], ◌∷◌, length, Option, Some}
use Rattle.std.proofs.Common.{None}
use Rattle.std.proofs.Common.{refl, sym, ap, subst, ◌∙◌, arith, ◌⊎◌, inl, inr}
use Rattle.std.specs.Prelude.{if◌then◌else◌, unwrap_or, ◌==◌, ◌↔◌, is_some, IsSome, IsTrue, IfErr, IsErrAnd}
use Rattle.std.specs.Prelude.{Result, Ok, Err}
use Rattle.std.specs.BTreeMap.{BTreeMap, get_by}
use Rattle.std.specs.Ordering.{nat_cmp}
use Rattle.qg_num.specs.declared.fault.BlockFault.{BlockFault}
use Rattle.qg_num.specs.declared.fault.BlockFault.TheVariants.{NoMemory, Disk}
use Rattle.std.proofs.lemmas.Bool.{cases_Bool, true≢false}
use Rattle.qg_items.specs.declared.extent.Reference.{Reference}
use Rattle.qg_image.specs.Record.{same_reference}
use Rattle.qg_refs.specs.declared.counted.Counted.{Counted}
use Rattle.qg_refs.specs.declared.kept.What.{What}
use Rattle.qg_refs.specs.declared.kept.Kept.{Kept}
use Rattle.qg_refs.specs.Book.{Book, IsBook, count_at, references_in}
use Rattle.qg_refs.specs.Counts.{IsRefList, count_of, greatest_count}
use Rattle.qg_refs.proofs.RankOrder.{same_reference_is}
use Rattle.qg_delayed.specs.declared.change.Change.{Change}
use Rattle.qg_delayed.specs.declared.entry.Entry.{Entry}
use Rattle.qg_delayed.specs.declared.head.Head.{Head}
use Rattle.qg_delayed.specs.Below.{HasTotal, head_in, total_of}
use Rattle.qg_delayed.specs.Changes.{change_of, with_change}
use Rattle.qg_delayed.specs.Entry.{HasAt, IsEntry, entry_at, entry_of, what_of, with_listed}
use Rattle.qg_delayed.specs.Merged.{Fits, IsOf, Learns, merged, merged_at, merged_in, now_or, with_changes}
use Rattle.qg_delayed.proofs.Listing.{number_in, with_ascends, with_other, with_own, with_sum}
use Rattle.qg_delayed.proofs.Totals.{changes_count, changes_list, same_lists, unlisted_count}
use Rattle.qg_delayed.proofs.Entries.{found_case, says_below, set_case, there_at}
use Rattle.qg_delayed.proofs.Books.{has_case, has_here, has_other, merged_here, merged_other, same_or_not}

-- nothing is not something
pub nothing_found : {A : Type 0} (o : Option A) (x : A) → o ≡ None → o ≡ Some x → ⊥
nothing_found o x none some = none_some x (sym none ∙ some)
  where
    none_some : {A : Type 0} (x : A) → None ≡ Some x → ⊥
    none_some x is = cc

-- what is the same elsewhere, and was none, was as it speaks
fitted_in : (below : Book) (old new : List (ℕ × Entry)) (at : ℕ) → ((q : ℕ) → q ≢ at → entry_at new q ≡ entry_at old q)
    → ((entry : Entry) → entry_at old at ≡ Some entry → IsOf (below at) entry) → Fits below new → Fits below old
fitted_in below old new at apart here fits = record {
  book = fits.book;
  each = λ q entry is. elim (same_or_not q at) [
    | inl same ↦
        subst (λ (w : ℕ). IsOf (below w) entry) (sym same) (here entry (ap (entry_at old) (sym same) ∙ is))
    | inr differs ↦ fits.each q entry (apart q differs ∙ is)
  ];
}

same_in : (below : Book) (old new : List (ℕ × Entry)) (at : ℕ) → ((q : ℕ) → q ≢ at → entry_at new q ≡ entry_at old q)
    → merged below new at ≡ merged below old at → (q : ℕ) → merged below new q ≡ merged below old q
same_in below old new at apart here q = elim (same_or_not q at) [
  | inl same ↦ ap (merged below new) same ∙ here ∙ sym (ap (merged below old) same)
  | inr differs ↦ merged_other below old new q (apart q differs)
]

-- ---- the head of an address

-- what is kept has a reference
abbrev pub HasReferences : Option Kept → Type 0
HasReferences below = (kept : Kept) → below ≡ Some kept → 0 < length kept.references

some_counted : (xs : List Counted) → IsRefList xs → 0 < length xs → 0 < total_of xs
some_counted [] list some = absurd (omega (arith, some))
some_counted (x ∷ xs) list some = omega (arith, list.some 0 x (omega arith))

head_total : (below : Option Kept) → IsRefList (references_in below) → HasReferences below → HasTotal (head_in below)
head_total None list some = tt
head_total (Some kept) list some = some_counted kept.references list (some kept refl)

pub head_sound : (below : Book) (at : ℕ) → IsBook below → HasTotal (head_in (below at))
head_sound below at book = head_total (below at) (book.sound at) (book.some at)

pub entry_first : (head : Option Head) → HasTotal head → IsEntry (entry_of head)
entry_first None some = record {
  ascend = λ i j d h k. absurd (omega (arith, h, k));
  total = refl;
  begun = λ _. refl;
  some = λ begun. absurd (true≢false begun);
  had = λ may. elim may [
    | inl begun ↦ absurd (true≢false begun)
    | inr was ↦ absurd (true≢false (sym was))
  ];
  gone = λ _. refl;
  marked = λ begun was. absurd (true≢false begun);
  fitting = λ x change is. absurd (nothing_found None change refl is);
}
entry_first (Some head) some = record {
  ascend = λ i j d h k. absurd (omega (arith, h, k));
  total = omega arith;
  begun = λ begun. absurd (true≢false (sym begun));
  some = λ _. some;
  had = λ _. omega (arith, some);
  gone = λ none. absurd (omega (arith, none, some));
  marked = λ begun was. was;
  fitting = λ x change is. absurd (nothing_found None change refl is);
}

kept_same : (kept : Kept) (what : What) (full : Bool) → kept.what ≡ what → kept.full ≡ full
    → record { what = what; full = full; references = kept.references } ≡ kept
kept_same kept what full known mark =
    λ i. record { what = sym known i; full = sym mark i; references = kept.references }

pub some_inside : (a b : What) → Some a ≡ Some b → a ≡ b
some_inside a b is = ap (λ (o : Option What). unwrap_or o a) is

first_is : (below : Option Kept) (head : Option Head) → IsRefList (references_in below) → HasReferences below
    → HasTotal head → IsOf below (entry_of head) → merged_at below (entry_of head) ≡ below
first_is None None list some total of = refl
first_is (Some kept) None list some total of =
    absurd (omega (arith, of.others, some_counted kept.references list (some kept refl)))
first_is None (Some head) list some total of =
    absurd (nothing_found None (what_of (entry_of (Some head))) refl (of.known refl))
first_is (Some kept) (Some head) list some total of =
    there_at (Some kept) (entry_of (Some head)) total
    ∙ ap (λ (k : Kept). Some k)
    (kept_same kept (what_of (entry_of (Some head))) head.full
    (some_inside kept.what (what_of (entry_of (Some head))) (of.known refl)) of.mark)

pub learns_first : (old new : List (ℕ × Entry)) (at : ℕ) (head : Option Head) → entry_at old at ≡ None → HasTotal head
    → HasAt old new at (entry_of head) → Learns old new at
learns_first old new at head none total has =
    let apart : (q : ℕ) → q ≢ at → entry_at new q ≡ entry_at old q = has_other old new at (entry_of head) has in
    let here : entry_at new at ≡ Some (entry_of head) = has_here old new at (entry_of head) has in
    record {
      fitted = λ below. fitted_in below old new at apart (λ entry is. absurd (nothing_found _ entry none is));
      same = λ below fits. same_in below old new at apart
          (merged_here below new at (entry_of head) here
          ∙ first_is (below at) head (fits.book.sound at) (fits.book.some at) total
          (fits.each at (entry_of head) here)
          ∙ sym (ap (merged_in (below at)) none));
      elsewhere = apart;
    }

first_of : (below : Option Kept) → IsOf below (entry_of (head_in below))
first_of None = record {
  counts = λ x change is. absurd (nothing_found None change refl is);
  others = refl;
  known = λ begun. absurd (true≢false begun);
  mark = refl;
}
first_of (Some kept) = record {
  counts = λ x change is. absurd (nothing_found None change refl is);
  others = omega arith;
  known = λ _. refl;
  mark = refl;
}

pub told_first : (below : Book) (old new : List (ℕ × Entry)) (at : ℕ) (head : Option Head) → head ≡ head_in (below at)
    → HasAt old new at (entry_of head) → Fits below old → Fits below new
told_first below old new at head is has fits = record {
  book = fits.book;
  each = has_case (λ q e. IsOf (below q) e) old new at (entry_of head) has
      (subst (λ (h : Option Head). IsOf (below at) (entry_of h)) (sym is) (first_of (below at))) fits.each;
}

-- ---- one reference

pub entry_listed : (x : Reference) (n : ℕ) (e : Entry) → IsEntry e → change_of x e.changes ≡ None → n ≤ e.others
    → IsEntry (with_listed x n e)
entry_listed x n e is none within =
    let c : Change = record { reference = x; below = n; now = n } in
    record {
      ascend = with_ascends c e.changes is.ascend;
      total = omega (
        arith,
        is.total,
        within,
        with_sum (λ w. w.now) c e.changes is.ascend,
        ap (number_in (λ w. w.now)) none,
      );
      begun = λ begun. omega (arith, is.begun begun);
      some = is.some;
      had = λ may. omega (
        arith,
        is.had may,
        within,
        with_sum (λ w. w.below) c e.changes is.ascend,
        ap (number_in (λ w. w.below)) none,
      );
      gone = is.gone;
      marked = is.marked;
      fitting = set_case
          (λ r w. (e.begun ≡ true) ⊎ (w.below < w.now) → w.now ≤ greatest_count w.reference) e.changes c
          (λ may. elim may [
            | inl begun ↦ omega (arith, is.begun begun, within)
            | inr less ↦ absurd (omega (arith, less))
          ]) is.fitting;
    }

pub apart_from : (x y : Reference) (cs : List Change) (c : Change) → change_of x cs ≡ None → change_of y cs ≡ Some c
    → same_reference y x ≡ false
apart_from x y cs c none some = elim (cases_Bool (same_reference y x)) [
  | inl same ↦ absurd (nothing_found (change_of y cs) c
      (ap (λ (r : Reference). change_of r cs) (same_reference_is y x same) ∙ none) some)
  | inr differs ↦ differs
]

-- who speaks of a book with it spoke of it without
of_listed : (below : Option Kept) (x : Reference) (n : ℕ) (e : Entry) → IsEntry e → change_of x e.changes ≡ None
    → n ≤ e.others → IsOf below (with_listed x n e) → IsOf below e
of_listed below x n e is none within of =
    let c : Change = record { reference = x; below = n; now = n } in
    record {
      counts = λ y change found.
          of.counts y change (with_other c e.changes y (apart_from x y e.changes change none found) ∙ found);
      others = omega (
        arith,
        of.others,
        within,
        with_sum (λ w. w.below) c e.changes is.ascend,
        ap (number_in (λ w. w.below)) none,
      );
      known = of.known;
      mark = of.mark;
    }

same_count : (xs : List Counted) (cs : List Change) (c : Change) → change_of c.reference cs ≡ None
    → c.now ≡ count_of xs c.reference → (y : Reference)
    → now_or (count_of xs y) (change_of y (with_change c cs)) ≡ now_or (count_of xs y) (change_of y cs)
same_count xs cs c none is y = elim (cases_Bool (same_reference y c.reference)) [
  | inl same ↦
      let at : y ≡ c.reference = same_reference_is y c.reference same in
      let now : change_of y (with_change c cs) ≡ Some c =
      ap (λ (r : Reference). change_of r (with_change c cs)) at ∙ with_own c cs in
      let was : change_of y cs ≡ None = ap (λ (r : Reference). change_of r cs) at ∙ none in
      ap (now_or (count_of xs y)) now ∙ is ∙ sym (ap (count_of xs) at) ∙ sym (ap (now_or (count_of xs y)) was)
  | inr differs ↦ ap (now_or (count_of xs y)) (with_other c cs y differs)
]

same_now : (below : Option Kept) (x : Reference) (n : ℕ) (e : Entry) → IsRefList (references_in below)
    → change_of x e.changes ≡ None → n ≡ count_of (references_in below) x
    → with_changes (with_listed x n e).changes (references_in below) ≡ with_changes e.changes (references_in below)
same_now below x n e list none is =
    let c : Change = record { reference = x; below = n; now = n } in
    let xs = references_in below in
    same_lists (with_changes (with_change c e.changes) xs) (with_changes e.changes xs)
    (changes_list (with_change c e.changes) xs list) (changes_list e.changes xs list)
    (λ y. changes_count (with_change c e.changes) xs y list ∙ same_count xs e.changes c none is y
    ∙ sym (changes_count e.changes xs y list))

listed_same : (below : Option Kept) (x : Reference) (n : ℕ) (e : Entry) → IsRefList (references_in below)
    → change_of x e.changes ≡ None → n ≡ count_of (references_in below) x
    → merged_at below (with_listed x n e) ≡ merged_at below e
listed_same below x n e list none is =
    ap (λ (xs : List Counted). if e.total == 0 then None else Some (record {
      what = what_of e;
      full = e.full;
      references = xs;
    })) (same_now below x n e list none is)

listed_count : (below : Option Kept) (x : Reference) (n : ℕ) (e : Entry) → IsOf below (with_listed x n e)
    → n ≡ count_of (references_in below) x
listed_count below x n e of =
    let c : Change = record { reference = x; below = n; now = n } in
    of.counts x c (with_own c e.changes)

pub learns_listed : (old new : List (ℕ × Entry)) (at : ℕ) (x : Reference) (n : ℕ) (e : Entry) → IsEntry e
    → entry_at old at ≡ Some e → change_of x e.changes ≡ None → n ≤ e.others → HasAt old new at (with_listed x n e)
    → Learns old new at
learns_listed old new at x n e is was none within has =
    let next = with_listed x n e in
    let apart : (q : ℕ) → q ≢ at → entry_at new q ≡ entry_at old q = has_other old new at next has in
    let here : entry_at new at ≡ Some next = has_here old new at next has in
    record {
      fitted = λ below fits. fitted_in below old new at apart
          (λ entry found. found_case (λ (w : Entry). IsOf (below at) w) (entry_at old at) e entry was found
          (of_listed (below at) x n e is none within (fits.each at next here))) fits;
      same = λ below fits. same_in below old new at apart
          (merged_here below new at next here
          ∙ listed_same (below at) x n e (fits.book.sound at) none
          (listed_count (below at) x n e (fits.each at next here))
          ∙ sym (merged_here below old at e was));
      elsewhere = apart;
    }

-- where the book tells, what it tells agrees
pub told_listed : (below : Book) (old new : List (ℕ × Entry)) (at : ℕ) (x : Reference) (n : ℕ) (e : Entry) → IsEntry e
    → entry_at old at ≡ Some e → change_of x e.changes ≡ None → n ≤ e.others → n ≡ count_at below at x
    → HasAt old new at (with_listed x n e) → Fits below old → Fits below new
told_listed below old new at x n e is was none within count has fits =
    let c : Change = record { reference = x; below = n; now = n } in
    let of = fits.each at e was in
    record {
      book = fits.book;
      each = has_case (λ q w. IsOf (below q) w) old new at (with_listed x n e) has (record {
        counts = set_case (λ r w. w.below ≡ count_of (references_in (below at)) r) e.changes c count of.counts;
        others = omega (
          arith,
          of.others,
          within,
          with_sum (λ w. w.below) c e.changes is.ascend,
          ap (number_in (λ w. w.below)) none,
        );
        known = of.known;
        mark = of.mark;
      }) fits.each;
    }

-- and is within what is left
pub told_within : (below : Book) (entries : List (ℕ × Entry)) (at : ℕ) (x : Reference) (n : ℕ) (e : Entry) → IsEntry e
    → entry_at entries at ≡ Some e → change_of x e.changes ≡ None → n ≡ count_at below at x → Fits below entries
    → n ≤ e.others
told_within below entries at x n e is was none count fits =
    let of = fits.each at e was in
    let within = unlisted_count e.changes (references_in (below at)) x (fits.book.sound at) is.ascend
    (says_below (below at) e is.ascend of) none in
    omega (arith, count, within, of.others)

-- nothing more is known where nothing changed
pub learns_none : (old new : List (ℕ × Entry)) (at : ℕ) → new ≡ old → Learns old new at
learns_none old new at is = subst (λ (es : List (ℕ × Entry)). Learns old es at) (sym is)
    (record { fitted = λ below fits. fits; same = λ below fits q. refl; elsewhere = λ q apart. refl })

-- ---- what a call answers

-- what is not there isn't known
pub nothing_known : {A : Type 0} (o : Option A) → o ≡ None → IsSome o → ⊥
nothing_known o none some = true≢false (sym some ∙ ap is_some none)

pub not_known : (m : BTreeMap ℕ Entry) (key at : ℕ) (b : Bool) → key ≡ at → b ≡ is_some (get_by (nat_cmp key) m)
    → b ≡ false → IsSome (entry_at m.entries at) → ⊥
not_known m key at b is found none some =
    true≢false (sym some ∙ ap (λ (k : ℕ). is_some (get_by (nat_cmp k) m)) (sym is) ∙ sym found ∙ none)

pub told_true : (b : Bool) (P : Type 0) → (IsTrue b ↔ P) → b ≡ true → P
told_true b P means h = means.0 h

pub none_is : {A : Type 0} (o : Option A) → is_some o ≡ false → o ≡ None
none_is None h = refl
none_is (Some x) h = absurd (true≢false h)

-- what is answered where nothing breaks a rule
abbrev pub BreaksNothing : {A : Type 0} → Result A BlockFault → Type 0
BreaksNothing result = IfErr result (λ fault. (fault ≡ NoMemory) ⊎ (fault ≡ Disk))

-- a fault that is handed on is the call's
pub handed : {A : Type 0} (result : Result A BlockFault) (fault : BlockFault) → IsErrAnd result (λ given. given ≡ fault)
    → result ≡ Err fault
handed (Ok x) fault is = absurd is
handed (Err given) fault is = ap (λ (f : BlockFault). Err f) is

pub memory_handed : {A : Type 0} (result : Result A BlockFault) (fault : BlockFault) → result ≡ Err fault
    → fault ≡ NoMemory → BreaksNothing result
memory_handed {A} result fault is none =
    subst (λ (r : Result A BlockFault). BreaksNothing r) (sym is) (inl none)

pub fault_handed : {A : Type 0} (result : Result A BlockFault) (fault : BlockFault) → result ≡ Err fault
    → (fault ≡ NoMemory) ⊎ (fault ≡ Disk) → BreaksNothing result
fault_handed {A} result fault is none = subst (λ (r : Result A BlockFault). BreaksNothing r) (sym is) none
