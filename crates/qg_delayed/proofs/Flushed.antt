-- What a commit makes of the book below: the edits of one entry, and those of all.
use Rattle.std.proofs.Common.{◌≡◌, ◌≢◌, ℕ, ◌+◌, ◌-◌, ◌<◌, Bool, true, false, List, [], ◌∷◌, ◌++◌}
use Rattle.std.proofs.Common.{length}
use Rattle.std.proofs.Common.{get_or, Option, Some, None, refl, sym, ap, subst, ◌∙◌, arith, inl, inr}
use Rattle.std.specs.Prelude.{⊤, if◌then◌else◌, ◌==◌, ◌&&◌, ◌||◌, not}
use Rattle.std.specs.List.{AllByRecursion}
use Rattle.std.specs.BTreeMap.{is_at}
use Rattle.std.specs.List.Sorted.{IsStrictlySortedBy}
use Rattle.std.specs.Map.{keys_of}
use Rattle.std.specs.Ordering.{is_eq, nat_cmp}
use Rattle.std.proofs.Common.{Ordering, Less}
use Rattle.std.proofs.lemmas.Bool.{cases_Bool, cond-true, cond-false, true≢false}
use Rattle.qg_items.specs.declared.extent.Reference.{Reference}
use Rattle.qg_refs.specs.declared.counted.Counted.{Counted}
use Rattle.qg_refs.specs.declared.kept.What.{What}
use Rattle.qg_refs.specs.declared.kept.Kept.{Kept}
use Rattle.qg_refs.specs.Book.{Book, IsBook, count_at, full_in, references_at, references_in, what_in}
use Rattle.qg_refs.specs.Counts.{IsRefList, count_of}
use Rattle.qg_refs.proofs.Counting.{count-nil}
use Rattle.qg_delayed.specs.declared.change.Change.{Change}
use Rattle.qg_delayed.specs.declared.edit.Edit.{Edit}
use Rattle.qg_delayed.specs.declared.edit.Edit.TheVariants.{SetFull}
use Rattle.qg_delayed.specs.declared.entry.Entry.{Entry}
use Rattle.qg_delayed.specs.Below.{total_of}
use Rattle.qg_delayed.specs.Changes.{change_of}
use Rattle.qg_delayed.specs.Entry.{AreEntries, IsEntry, entry_at, what_of}
use Rattle.qg_delayed.specs.Flushing.{IsFlushed, come_in, comes, edits_at, edits_of, go_in, goes, mark_comes}
use Rattle.qg_delayed.specs.Making.{MakesAll, MayAll}
use Rattle.qg_delayed.specs.Merged.{Fits, IsOf, merged, merged_at, merged_in, now_or}
use Rattle.qg_delayed.proofs.Listing.{change_found, number_in}
use Rattle.qg_delayed.proofs.Totals.{changes_count, changes_list, same_lists, unlisted_count}
use Rattle.qg_delayed.proofs.Entries.{gone_at, is_some_more, is_zero, list_now, list_total, merged_count, merged_full}
use Rattle.qg_delayed.proofs.Entries.{merged_known, merged_list, says_below}
use Rattle.qg_delayed.proofs.Learning.{nothing_found, some_inside}
use Rattle.qg_delayed.proofs.Books.{at_itself, at_other, same_or_not}
use Rattle.qg_delayed.proofs.InTurn.{HasOne, IsAt, Leads, add_all, drop_all, first_counted, leads_none, leads_then}
use Rattle.qg_delayed.proofs.InTurn.{mark_one, nothing_at, sum_found, sum_where}

-- ---- what is there now

-- an address is as the changes make it
pub record IsMade (below : Option Kept) (e : Entry) (now : Option Kept) : Type 0 where
  pub counts : (x : Reference) → count_of (references_in now) x ≡ count_of (references_in (merged_at below e)) x
  pub known : what_in now ≡ what_in (merged_at below e)
  pub full : full_in now ≡ full_in (merged_at below e)

-- how often each reference is there now
abbrev pub now_counts : Option Kept → Entry → Reference → ℕ
now_counts below e x = now_or (count_of (references_in below) x) (change_of x e.changes)

some_first : (xs : List Counted) → IsRefList xs → 0 < total_of xs → (x : Reference) × (0 < count_of xs x)
some_first [] list some = absurd (omega (arith, some))
some_first (y ∷ ys) list some = (y.reference, first_counted y ys list)

one_now : (below : Option Kept) (e : Entry) → IsEntry e → IsRefList (references_in below) → IsOf below e → 0 < e.total
    → HasOne (now_counts below e)
one_now below e is list of some =
    let xs = list_now below e in
    let one = some_first xs (changes_list e.changes (references_in below) list)
    (omega (arith, some, list_total below e is list of)) in
    (one.0, omega (arith, one.1, changes_count e.changes (references_in below) one.0 list))

empty_by : (xs : List Counted) → IsRefList xs → ((x : Reference) → count_of xs x ≡ 0) → xs ≡ []
empty_by [] list none = refl
empty_by (y ∷ ys) list none = absurd (omega (arith, none y.reference, first_counted y ys list))

made_at : (below : Book) (at : ℕ) (e : Entry) (b : Book) → IsEntry e → IsRefList (references_at below at)
    → IsOf (below at) e → IsAt below at (now_counts (below at) e) (what_of e) e.full b → IsMade (below at) e (b at)
made_at below at e b is list of made = elim (cases_Bool (e.total == 0)) [
  | inl none ↦
      let gone = gone_at (below at) e (is_zero e.total none) in
      let zero_now : (x : Reference) → now_counts (below at) e x ≡ 0 =
      λ x. sym (merged_count (below at) e is list of x)
      ∙ ap (λ (o : Option Kept). count_of (references_in o) x) gone ∙ count-nil x in
      let nothing : b at ≡ None = nothing_at b at made.book
      (empty_by (references_at b at) (made.book.sound at) (λ x. made.counts x ∙ zero_now x)) in
      record {
        counts = λ x. ap (λ (o : Option Kept). count_of (references_in o) x) (nothing ∙ sym gone);
        known = ap what_in (nothing ∙ sym gone);
        full = ap full_in (nothing ∙ sym gone);
      }
  | inr some ↦
      let one = one_now (below at) e is list of (is_some_more e.total some) in
      record {
        counts = λ x. made.counts x ∙ sym (merged_count (below at) e is list of x);
        known = made.known one.0 one.1 ∙ sym (merged_known (below at) e ∙ cond-false _ _ _ some);
        full = made.full one.0 one.1 ∙ sym (merged_full (below at) e is);
      }
]

-- ---- the edits of one entry

starts : (below : Book) (at : ℕ) (w : What) (m : Bool) → IsBook below
    → ((x : Reference) → 0 < count_at below at x → what_in (below at) ≡ Some w) → full_in (below at) ≡ m → (b : Book)
    → b ≡ below → IsAt below at (count_at below at) w m b
starts below at w m book known mark b is = subst (IsAt below at (count_at below at) w m) (sym is) (record {
  book = book;
  counts = λ x. refl;
  known = known;
  full = λ x some. mark;
  elsewhere = λ q apart. refl;
})

leads_from : (P P' Q : Book → Type 0) (es : List Edit) → ((b : Book) → P' b → P b) → Leads P es Q → Leads P' es Q
leads_from P P' Q es via leads b at = leads b (via b at)

unlisted_none : (below : Option Kept) (e : Entry) → IsEntry e → IsRefList (references_in below) → IsOf below e
    → e.begun ≡ true → (x : Reference) → change_of x e.changes ≡ None → count_of (references_in below) x ≡ 0
unlisted_none below e is list of begun x none =
    let within = unlisted_count e.changes (references_in below) x list is.ascend (says_below below e is.ascend of) none
    in
    omega (arith, within, of.others, is.begun begun)

-- where all came since: what the book below has goes, each reference as often as it is there
gone_count : (below : Option Kept) (e : Entry) → IsEntry e → IsRefList (references_in below) → IsOf below e
    → e.begun ≡ true → (x : Reference) (o : Option Change) → change_of x e.changes ≡ o
    → number_in (goes e.begun) o ≡ count_of (references_in below) x
gone_count below e is list of begun x None none = sym (unlisted_none below e is list of begun x none)
gone_count below e is list of begun x (Some c) found = cond-true _ _ _ begun ∙ of.counts x c found

-- and what is there now comes
come_count : (below : Option Kept) (e : Entry) → IsEntry e → IsRefList (references_in below) → IsOf below e
    → e.begun ≡ true → (x : Reference) (o : Option Change) → change_of x e.changes ≡ o
    → number_in (comes e.begun) o ≡ now_or (count_of (references_in below) x) o
come_count below e is list of begun x None none = sym (unlisted_none below e is list of begun x none)
come_count below e is list of begun x (Some c) found = cond-true _ _ _ begun

abbrev what_or : What → Option Kept → What
what_or w None = w
what_or w (Some kept) = kept.what

what_there : (w : What) (o : Option Kept) (x : Reference) → 0 < count_of (references_in o) x
    → what_in o ≡ Some (what_or w o)
what_there w None x some = absurd (omega (arith, some, count-nil x))
what_there w (Some kept) x some = refl

begun_leads : (below : Book) (at : ℕ) (e : Entry) → IsBook below → IsEntry e → IsOf (below at) e → e.begun ≡ true
    → Leads (λ b. b ≡ below) (go_in at e ++ come_in at e) (IsAt below at (now_counts (below at) e) (what_of e) false)
begun_leads below at e book is of begun =
    let list = book.sound at in
    let w = what_or (what_of e) (below at) in
    let m = full_in (below at) in
    let none : Reference → ℕ = λ x. 0 in
    let f = count_at below at in
    leads_then (λ b. b ≡ below) (IsAt below at none (what_of e) false)
    (IsAt below at (now_counts (below at) e) (what_of e) false) (go_in at e) (come_in at e)
    (leads_from (IsAt below at f w m) (λ b. b ≡ below) (IsAt below at none (what_of e) false) (go_in at e)
    (starts below at w m book (λ x. what_there (what_of e) (below at) x) refl)
    (leads_to (IsAt below at f w m) (IsAt below at none w m) (IsAt below at none (what_of e) false) (go_in at e)
    (λ b at_none. record {
      book = at_none.book;
      counts = at_none.counts;
      known = λ x some. absurd (omega (arith, some));
      full = λ x some. absurd (omega (arith, some));
      elsewhere = at_none.elsewhere;
    })
    (drop_all below at w m (goes e.begun) e.changes f none
    (λ x. omega (
      arith,
      sum_found (goes e.begun) e.changes x is.ascend,
      gone_count (below at) e is list of begun x (change_of x e.changes) refl,
    )))))
    (add_all below at (what_of e) false (comes e.begun) e.changes none (now_counts (below at) e)
    (λ x. omega (
      arith,
      sum_found (comes e.begun) e.changes x is.ascend,
      come_count (below at) e is list of begun x (change_of x e.changes) refl,
    ))
    (λ k d h some.
    let c = get_or e.changes k d in
    let found = change_found c.reference e.changes k d is.ascend h refl in
    omega (arith, ap (now_or (f c.reference)) found, is.fitting c.reference c found (inl begun)))
    (inl refl))
  where
    leads_to : (P Q Q' : Book → Type 0) (es : List Edit) → ((b : Book) → Q b → Q' b) → Leads P es Q → Leads P es Q'
    leads_to P Q Q' es via leads b at = ((leads b at).0, λ a all. via a ((leads b at).1 a all))

-- where not: what comes and then what goes makes what is there now
both_count : (below : Option Kept) (e : Entry) → IsOf below e → e.begun ≡ false → (x : Reference) (o : Option Change)
    → change_of x e.changes ≡ o
    → number_in (goes e.begun) o + now_or (count_of (references_in below) x) o
    ≡ number_in (comes e.begun) o + count_of (references_in below) x
both_count below e of not x None none = refl
both_count below e of not x (Some c) found =
    let go : goes e.begun c ≡ c.below - c.now = cond-false _ _ _ not in
    let come : comes e.begun c ≡ c.now - c.below = cond-false _ _ _ not in
    omega (arith, go, come, of.counts x c found)

one_below : (below : Book) (at : ℕ) (w : What) → IsBook below → what_in (below at) ≡ Some w → HasOne (count_at below at)
one_below below at w book known = go (below at) refl
  where
    first : (xs : List Counted) → IsRefList xs → 0 < length xs → (x : Reference) × (0 < count_of xs x)
    first [] list some = absurd (omega (arith, some))
    first (y ∷ ys) list some = (y.reference, first_counted y ys list)

    none_some : (w : What) → None ≡ Some w → ⊥
    none_some w is = cc

    go : (o : Option Kept) → below at ≡ o → HasOne (count_at below at)
    go None is = absurd (none_some w (sym (ap what_in is) ∙ known))
    go (Some kept) is =
        let xs = references_at below at in
        let same : xs ≡ kept.references = ap references_in is in
        first xs (book.sound at) (omega (arith, book.some at kept is, ap (λ (ws : List Counted). length ws) same))

kept_leads : (below : Book) (at : ℕ) (e : Entry) → IsBook below → IsEntry e → IsOf (below at) e → e.begun ≡ false
    → Leads (λ b. b ≡ below) (come_in at e ++ go_in at e)
    (IsAt below at (now_counts (below at) e) (what_of e) e.was_full)
kept_leads below at e book is of not =
    let w = what_of e in
    let m = e.was_full in
    let f = count_at below at in
    let mid : Reference → ℕ = λ x. sum_where (comes e.begun) e.changes x + f x in
    leads_then (λ b. b ≡ below) (IsAt below at mid w m) (IsAt below at (now_counts (below at) e) w m)
    (come_in at e) (go_in at e)
    (leads_from (IsAt below at f w m) (λ b. b ≡ below) (IsAt below at mid w m) (come_in at e)
    (starts below at w m book (λ x some. of.known not) of.mark)
    (add_all below at w m (comes e.begun) e.changes f mid (λ x. refl)
    (λ k d h some.
    let c = get_or e.changes k d in
    let found = change_found c.reference e.changes k d is.ascend h refl in
    let come : comes e.begun c ≡ c.now - c.below = cond-false _ _ _ not in
    let own = of.counts c.reference c found in
    let sum : sum_where (comes e.begun) e.changes c.reference ≡ comes e.begun c =
    sum_found (comes e.begun) e.changes c.reference is.ascend ∙ ap (number_in (comes e.begun)) found in
    omega (arith, some, come, own, sum, is.fitting c.reference c found (inr (omega (arith, some, come)))))
    (inr (one_below below at w book (of.known not)))))
    (drop_all below at w m (goes e.begun) e.changes mid (now_counts (below at) e)
    (λ x. omega (
      arith,
      sum_found (goes e.begun) e.changes x is.ascend,
      sum_found (comes e.begun) e.changes x is.ascend,
      both_count (below at) e of not x (change_of x e.changes) refl,
    )))

-- the mark
mark_leads : (below : Book) (at : ℕ) (w : What) (f : Reference → ℕ) (full begun was m : Bool)
    → m ≡ (if begun then false else was) → (begun ≡ false → was ≡ true → full ≡ true) → (full ≡ true → HasOne f)
    → Leads (IsAt below at f w m) (if full && (begun || not was) then SetFull at ∷ [] else []) (IsAt below at f w full)
mark_leads below at w f true true was m is stays one = mark_one below at w m f (one refl)
mark_leads below at w f true false false m is stays one = mark_one below at w m f (one refl)
mark_leads below at w f true false true m is stays one =
    leads_none (IsAt below at f w m) (IsAt below at f w true) (λ b made. subst (λ v. IsAt below at f w v b) is made)
mark_leads below at w f false true was m is stays one =
    leads_none (IsAt below at f w m) (IsAt below at f w false) (λ b made. subst (λ v. IsAt below at f w v b) is made)
mark_leads below at w f false false false m is stays one =
    leads_none (IsAt below at f w m) (IsAt below at f w false) (λ b made. subst (λ v. IsAt below at f w v b) is made)
mark_leads below at w f false false true m is stays one = absurd (true≢false (sym (stays refl refl)))

entry_leads : (below : Book) (at : ℕ) (e : Entry) → IsBook below → IsEntry e → IsOf (below at) e
    → Leads (λ b. b ≡ below) (edits_at at e) (IsAt below at (now_counts (below at) e) (what_of e) e.full)
entry_leads below at e book is of =
    let now = now_counts (below at) e in
    let one : e.full ≡ true → HasOne now =
    λ full. one_now (below at) e is (book.sound at) of (there full) in
    elim (cases_Bool e.begun) [
      | inl begun ↦
          subst (λ (es : List Edit). Leads (λ b. b ≡ below) (es ++ mark_comes at e)
          (IsAt below at now (what_of e) e.full))
          (sym (cond-true e.begun (go_in at e ++ come_in at e) (come_in at e ++ go_in at e) begun))
          (leads_then (λ b. b ≡ below) (IsAt below at now (what_of e) false) (IsAt below at now (what_of e) e.full)
          (go_in at e ++ come_in at e) (mark_comes at e) (begun_leads below at e book is of begun)
          (mark_leads below at (what_of e) now e.full e.begun e.was_full false (sym (cond-true _ _ _ begun)) is.marked
          one))
      | inr not ↦
          subst (λ (es : List Edit). Leads (λ b. b ≡ below) (es ++ mark_comes at e)
          (IsAt below at now (what_of e) e.full))
          (sym (cond-false e.begun (go_in at e ++ come_in at e) (come_in at e ++ go_in at e) not))
          (leads_then (λ b. b ≡ below) (IsAt below at now (what_of e) e.was_full)
          (IsAt below at now (what_of e) e.full) (come_in at e ++ go_in at e) (mark_comes at e)
          (kept_leads below at e book is of not)
          (mark_leads below at (what_of e) now e.full e.begun e.was_full e.was_full (sym (cond-false _ _ _ not))
          is.marked one))
    ]
  where
    there : e.full ≡ true → 0 < e.total
    there full = elim (cases_Bool (e.total == 0)) [
      | inl none ↦ absurd (true≢false (sym full ∙ is.gone (is_zero e.total none)))
      | inr some ↦ is_some_more e.total some
    ]

-- ---- the edits of all

-- each address is as its entry makes it, and as it was where it has none
abbrev pub MadeIn : Option Kept → Option Entry → Option Kept → Type 0
MadeIn below None now = now ≡ below
MadeIn below (Some e) now = IsMade below e now

-- an address stands once
absent_behind : (at : ℕ) (es : List (ℕ × Entry)) → AllByRecursion (λ y. nat_cmp at y ≡ Less) (keys_of es)
    → entry_at es at ≡ None
absent_behind at [] behind = refl
absent_behind at (e ∷ es) behind =
    cond-false _ _ _ (ap (λ (o : Ordering). is_eq o) behind.0) ∙ absent_behind at es behind.1

abbrev Distinct : List (ℕ × Entry) → Type 0
Distinct [] = ⊤
Distinct (e ∷ es) = (entry_at es e.0 ≡ None) × Distinct es

distinct_by : (es : List (ℕ × Entry)) → IsStrictlySortedBy nat_cmp (keys_of es) → Distinct es
unfolding IsStrictlySortedBy
distinct_by [] up = tt
distinct_by (e ∷ es) up = (absent_behind e.0 es up.0, distinct_by es up.1)

-- each entry is one, and speaks of a book
record Speaks (below : Book) (es : List (ℕ × Entry)) : Type 0 where
  is : (at : ℕ) (e : Entry) → entry_at es at ≡ Some e → IsEntry e
  of : (at : ℕ) (e : Entry) → entry_at es at ≡ Some e → IsOf (below at) e

head_at : (e : ℕ × Entry) (es : List (ℕ × Entry)) (q : ℕ) → q ≡ e.0 → entry_at (e ∷ es) q ≡ Some e.1
head_at e es q same =
    cond-true _ _ _ (subst (λ (w : ℕ). is_at (nat_cmp q) w ≡ true) same (at_itself q))

rest_at : (e : ℕ × Entry) (es : List (ℕ × Entry)) (q : ℕ) → q ≢ e.0 → entry_at (e ∷ es) q ≡ entry_at es q
rest_at e es q apart = cond-false _ _ _ (at_other q e.0 (λ same. apart (sym same)))

none_some : (o : Option Entry) (e : Entry) → o ≡ None → o ≡ Some e → ⊥
none_some o e none some = go e (sym none ∙ some)
  where
    go : (e : Entry) → None ≡ Some e → ⊥
    go e is = cc

speaks_rest : (below b : Book) (e : ℕ × Entry) (es : List (ℕ × Entry)) → entry_at es e.0 ≡ None
    → ((q : ℕ) → q ≢ e.0 → b q ≡ below q) → Speaks below (e ∷ es) → Speaks b es
speaks_rest below b e es none elsewhere speaks = record {
  is = λ at other found. speaks.is at other (rest_at e es at (apart at other found) ∙ found);
  of = λ at other found. subst (λ (o : Option Kept). IsOf o other) (sym (elsewhere at (apart at other found)))
      (speaks.of at other (rest_at e es at (apart at other found) ∙ found));
}
  where
    apart : (at : ℕ) (other : Entry) → entry_at es at ≡ Some other → at ≢ e.0
    apart at other found same = none_some (entry_at es at) other (ap (entry_at es) same ∙ none) found

made_all : (below b a : Book) (e : ℕ × Entry) (es : List (ℕ × Entry)) → entry_at es e.0 ≡ None
    → IsMade (below e.0) e.1 (b e.0) → ((q : ℕ) → q ≢ e.0 → b q ≡ below q)
    → ((q : ℕ) → MadeIn (b q) (entry_at es q) (a q)) → (q : ℕ) → MadeIn (below q) (entry_at (e ∷ es) q) (a q)
made_all below b a e es none made elsewhere rest q = elim (same_or_not q e.0) [
  | inl same ↦
      let stays : a e.0 ≡ b e.0 = subst (λ (o : Option Entry). MadeIn (b e.0) o (a e.0)) none (rest e.0) in
      subst (λ (o : Option Entry). MadeIn (below q) o (a q)) (sym (head_at e es q same))
      (subst (λ (w : ℕ). IsMade (below w) e.1 (a w)) (sym same)
      (subst (IsMade (below e.0) e.1) (sym stays) made))
  | inr apart ↦
      subst (λ (o : Option Entry). MadeIn (below q) o (a q)) (sym (rest_at e es q apart))
      (subst (λ (o : Option Kept). MadeIn o (entry_at es q) (a q)) (elsewhere q apart) (rest q))
]

all_lead : (es : List (ℕ × Entry)) (below : Book) → Distinct es → IsBook below → Speaks below es
    → Leads (λ b. b ≡ below) (edits_of es) (λ a. (q : ℕ) → MadeIn (below q) (entry_at es q) (a q))
all_lead [] below distinct book speaks = leads_none (λ b. b ≡ below) (λ a. (q : ℕ) → a q ≡ below q)
    (λ b is q. ap (λ (w : Book). w q) is)
all_lead (e ∷ es) below distinct book speaks =
    let found : entry_at (e ∷ es) e.0 ≡ Some e.1 = head_at e es e.0 refl in
    let is = speaks.is e.0 e.1 found in
    let of = speaks.of e.0 e.1 found in
    leads_then (λ b. b ≡ below) (IsAt below e.0 (now_counts (below e.0) e.1) (what_of e.1) e.1.full)
    (λ a. (q : ℕ) → MadeIn (below q) (entry_at (e ∷ es) q) (a q)) (edits_at e.0 e.1) (edits_of es)
    (entry_leads below e.0 e.1 book is of)
    (λ b made.
    let speaks_b = speaks_rest below b e es distinct.0 made.elsewhere speaks in
    let rest = all_lead es b distinct.1 made.book speaks_b b refl in (
      rest.0,
      λ a all. made_all below b a e es distinct.0 (made_at below e.0 e.1 b is (book.sound e.0) of made)
          made.elsewhere (rest.1 a all),
    ))

-- ---- the book below

made_counts : (below : Option Kept) (o : Option Entry) (now : Option Kept) → MadeIn below o now → (x : Reference)
    → count_of (references_in now) x ≡ count_of (references_in (merged_in below o)) x
made_counts below None now made x = ap (λ (k : Option Kept). count_of (references_in k) x) made
made_counts below (Some e) now made x = made.counts x

made_known : (below : Option Kept) (o : Option Entry) (now : Option Kept) → MadeIn below o now
    → what_in now ≡ what_in (merged_in below o)
made_known below None now made = ap what_in made
made_known below (Some e) now made = made.known

made_full : (below : Option Kept) (o : Option Entry) (now : Option Kept) → MadeIn below o now
    → full_in now ≡ full_in (merged_in below o)
made_full below None now made = ap full_in made
made_full below (Some e) now made = made.full

speaks_all : (below : Book) (es : List (ℕ × Entry)) → AreEntries es → Fits below es → Speaks below es
speaks_all below es are fits = record { is = are.each; of = fits.each }

-- it can take all edits, and then has all changes made
pub flush_may : (below : Book) (es : List (ℕ × Entry)) → AreEntries es → Fits below es → MayAll (edits_of es) below
flush_may below es are fits =
    (all_lead es below (distinct_by es are.ascend) fits.book (speaks_all below es are fits) below refl).0

kept_is : (a b : Option Kept) → IsRefList (references_in a) → IsRefList (references_in b)
    → ((x : Reference) → count_of (references_in a) x ≡ count_of (references_in b) x) → what_in a ≡ what_in b
    → full_in a ≡ full_in b → a ≡ b
kept_is None None list list' counts known full = refl
kept_is None (Some b) list list' counts known full = absurd (nothing_found None b.what refl known)
kept_is (Some a) None list list' counts known full = absurd (nothing_found None a.what refl (sym known))
kept_is (Some a) (Some b) list list' counts known full =
    let refs : a.references ≡ b.references = same_lists a.references b.references list list' counts in
    let what : a.what ≡ b.what = some_inside a.what b.what known in
    λ i. Some (record { what = what i; full = full i; references = refs i })

list_merged : (below : Option Kept) (o : Option Entry) → IsRefList (references_in below)
    → ((e : Entry) → o ≡ Some e → IsEntry e × IsOf below e) → IsRefList (references_in (merged_in below o))
list_merged below None list each = list
list_merged below (Some e) list each =
    subst IsRefList (sym (merged_list below e (each e refl).0 list (each e refl).1))
    (changes_list e.changes (references_in below) list)

pub flush_made : (below after : Book) (es : List (ℕ × Entry)) → AreEntries es → Fits below es → IsBook after
    → MakesAll (edits_of es) below after → IsFlushed below after es
flush_made below after es are fits book all = λ at.
    let o = entry_at es at in
    let made = (all_lead es below (distinct_by es are.ascend) fits.book (speaks_all below es are fits) below refl).1
    after all at in
    kept_is (after at) (merged below es at) (book.sound at)
    (list_merged (below at) o (fits.book.sound at) (λ e found. (are.each at e found, fits.each at e found)))
    (made_counts (below at) o (after at) made) (made_known (below at) o (after at) made)
    (made_full (below at) o (after at) made)
