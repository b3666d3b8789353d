-- An edit of items is an edit of the book that they tell.
use Rattle.std.proofs.Common.{◌≡◌, ◌≢◌, ℕ, zero, suc, ◌+◌, ◌-◌, ◌≤◌, ◌<◌, Bool, true, false, List, []}
use Rattle.std.proofs.Common.{Option, Some, None, refl, sym, ap, subst, ◌∙◌, arith, inl, inr, cond}
use Rattle.std.specs.Prelude.{◌==◌, is_some, nat_lt, unwrap_or, if◌then◌else◌, IsSome}
use Rattle.std.specs.List.{filter}
use Rattle.std.specs.Option.{option_map}
use Rattle.std.proofs.lemmas.Bool.{cases_Bool, cond-false, cond-true, eqb-false, eqb-true}
use Rattle.std.proofs.lemmas.Option.{none-some}
use Rattle.qg_node.specs.declared.item.Item.{Item}
use Rattle.qg_items.specs.declared.extent.Reference.{Reference}
use Rattle.qg_tree_items.specs.Types.{Extents, ExtentPart}
use Rattle.qg_tree_items.specs.Walk.{is_item_of}
use Rattle.qg_tree_items.specs.Owed.{is_record, reference_told}
use Rattle.qg_tree_items.specs.Record.{same_reference}
use Rattle.qg_refs.specs.declared.kept.Kept.{Kept}
use Rattle.qg_refs.specs.declared.kept.What.{What}
use Rattle.qg_refs.specs.Book.{full_in, references_in, what_in}
use Rattle.qg_refs.specs.Counts.{count_of, greatest_count}
use Rattle.qg_extents.specs.declared.head.Head.{Head}
use Rattle.qg_extents.specs.Written.{item_of_head, item_of_reference}
use Rattle.qg_extents.specs.BookRecords.{told_count, told_in, told_sum}
use Rattle.qg_extents.proofs.Telling.{Told}
use Rattle.qg_edit.specs.Edits.{edited}
use Rattle.qg_extent_items.specs.Told.{AreRecords, book_told, head_at, parts_here}
use Rattle.qg_extent_items.specs.Standing.{IsStanding}
use Rattle.qg_extent_items.specs.BookEdits.{edit_to_mark, edited_by, edits_to_add, edits_to_drop, head_less, head_more}
use Rattle.qg_extent_items.specs.Laws.{AreAllowed, AreStillRecords, HeadFits, IsKnown, MakeAddition, MakeDrop}
use Rattle.qg_extent_items.specs.Laws.{MakesMark, MayComeIn}
use Rattle.qg_extent_items.specs.Laws.{MayGo}
use Rattle.qg_extent_items.specs.declared.standing.Standing.{Standing}
use Rattle.qg_extent_items.proofs.Allowed.{all-lessened, all-put, record-allowed, record-made, reference-allowed}
use Rattle.qg_extent_items.proofs.CountsTold.{IsChanged, IsClean, changed, count-fitting, so_many, some_told, told-none}
use Rattle.qg_extent_items.proofs.Entries.{IsEntryWith, IsSummed, Sums, head_parts}
use Rattle.qg_extent_items.proofs.RecordSteps.{book-elsewhere, book-there, is-settled, less-record}
use Rattle.qg_extent_items.proofs.RecordSteps.{more-record, puts-again, records_here, still-records}
use Rattle.qg_extent_items.proofs.Sorted.{told-empty}
use Rattle.qg_extent_items.proofs.Splices.{filter-splice, filter_map-splice}
use Rattle.qg_extent_items.proofs.Standings.{counted_parts, lessens-count, puts-count, stands-so}
use Rattle.qg_extent_items.proofs.Steps.{Made, Step, emptied, renamed}
use Rattle.qg_extent_items.proofs.TheBook.{entry-at, kept-count, kept_of}

abbrev told_here : List Item → ℕ → Told
told_here items at = told_in (parts_here items at)

-- ---- once the reference's item is edited

counted_told : (at : ℕ) (x : Reference) (n : ℕ) → told_in (counted_parts at x n) ≡ some_told x n
counted_told at x zero = refl
counted_told at x (suc n) = refl

counted_records : (at : ℕ) (x : Reference) (n : ℕ) → filter is_record (counted_parts at x n) ≡ []
counted_records at x zero = refl
counted_records at x (suc n) = refl

-- the reference is told so often, and the record is as it was
record IsBetween (nodesize at : ℕ) (x : Reference) (n m : ℕ) (items mid : List Item) (head : Option Head) : Type 0
  where
    changed : IsChanged x n m (told_here items at) (told_here mid at)
    records : records_here mid at ≡ head_parts at head

between : (nodesize at : ℕ) (x : Reference) (n m : ℕ) (items mid : List Item) (head : Option Head)
    → IsEntryWith nodesize at (parts_here items at) head
    → Step at items mid (counted_parts at x n) (counted_parts at x m)
    → n ≡ told_count (told_here items at) x → m ≤ greatest_count x
    → IsBetween nodesize at x n m items mid head
between nodesize at x n m items mid head entry step count most = record {
  changed = changed x n m (told_here items at) (told_here mid at)
      (renamed (told_here items at) (told_here mid at) (told_in (counted_parts at x n)) (told_in (counted_parts at x m))
      (some_told x n) (some_told x m)
      (filter_map-splice reference_told (parts_here items at) (parts_here mid at) (counted_parts at x n)
      (counted_parts at x m) step.here) (counted_told at x n) (counted_told at x m))
      entry.clean count most;
  records = emptied (records_here items at) (records_here mid at) (filter is_record (counted_parts at x n))
      (filter is_record (counted_parts at x m))
      (filter-splice is_record (parts_here items at) (parts_here mid at) (counted_parts at x n) (counted_parts at x m)
      step.here) (counted_records at x n) (counted_records at x m) ∙ entry.records;
}

-- ---- once both are

-- the records of a book, with this at the address
record AreBoth (nodesize at : ℕ) (items last : List Item) (mid : Told) (head : Option Head) : Type 0 where
  still : AreStillRecords at items last
  entry : IsEntryWith nodesize at (parts_here last at) head
  told : told_here last at ≡ mid
  others : (other : ℕ) → other ≢ at → book_told nodesize last other ≡ book_told nodesize items other

both : (nodesize at : ℕ) (items mid last : List Item) (old new : List ExtentPart) (head other : Option Head)
    → AreRecords items → Step at items mid old new → records_here mid at ≡ head_parts at head
    → Step at mid last (head_parts at head) (head_parts at other) → IsClean (told_here mid at)
    → Sums nodesize other (told_here mid at) → AreBoth nodesize at items last (told_here mid at) other
both nodesize at items mid last old new head other are first records second clean sums =
    let settled = is-settled nodesize at mid last head other records second clean sums in
    let others : (q : ℕ) → q ≢ at → parts_here last q ≡ parts_here items q =
    λ q apart. second.others q apart ∙ first.others q apart in
    record {
      still = still-records nodesize at items last other are second.ascend second.said settled.entry others
          (λ q apart. second.elsewhere q apart ∙ first.elsewhere q apart);
      entry = settled.entry;
      told = settled.told;
      others = λ q apart. book-elsewhere nodesize q items last (others q apart);
    }

-- what the book has then
book_now : (nodesize at : ℕ) (items last : List Item) (mid : Told) (head : Option Head)
    → AreBoth nodesize at items last mid head → book_told nodesize last at ≡ kept_of mid head
book_now nodesize at items last mid head both =
    book-there nodesize at last head both.entry ∙ ap (λ (told : Told). kept_of told head) both.told

-- one reference more or less, by its counts
one_more : (x : Reference) (n : ℕ) (old new : Told) → IsChanged x n (n + 1) old new → (y : Reference)
    → told_count new y ≡ told_count old y + (if same_reference y x then 1 else 0)
one_more x n old new change y = elim (cases_Bool (same_reference y x)) [
  | inl same ↦
      let one : so_many 1 x y ≡ 1 = cond-true _ _ _ same in
      let was : so_many n x y ≡ n = cond-true _ _ _ same in
      let now : so_many (n + 1) x y ≡ n + 1 = cond-true _ _ _ same in
      omega (arith, change.count y, one, was, now)
  | inr differs ↦
      let none : so_many 1 x y ≡ 0 = cond-false _ _ _ differs in
      let was : so_many n x y ≡ 0 = cond-false _ _ _ differs in
      let now : so_many (n + 1) x y ≡ 0 = cond-false _ _ _ differs in
      omega (arith, change.count y, none, was, now)
]

one_less : (x : Reference) (n : ℕ) (old new : Told) → 0 < n → IsChanged x n (n - 1) old new → (y : Reference)
    → told_count old y ≡ told_count new y + (if same_reference y x then 1 else 0)
one_less x n old new some change y = elim (cases_Bool (same_reference y x)) [
  | inl same ↦
      let one : so_many 1 x y ≡ 1 = cond-true _ _ _ same in
      let was : so_many n x y ≡ n = cond-true _ _ _ same in
      let now : so_many (n - 1) x y ≡ n - 1 = cond-true _ _ _ same in
      omega (arith, change.count y, one, was, now, some)
  | inr differs ↦
      let none : so_many 1 x y ≡ 0 = cond-false _ _ _ differs in
      let was : so_many n x y ≡ 0 = cond-false _ _ _ differs in
      let now : so_many (n - 1) x y ≡ 0 = cond-false _ _ _ differs in
      omega (arith, change.count y, none, was, now)
]

-- ---- a reference more

more_sums : (nodesize : ℕ) (what : What) (head : Option Head) (x : Reference) (n : ℕ) (old new : Told)
    → (head ≡ None → IsKnown nodesize what) → Sums nodesize head old → IsChanged x n (n + 1) old new
    → Sums nodesize (Some (head_more what head)) new
more_sums nodesize what None x n old new known sums change =
    let none : told_sum old ≡ 0 = ap (λ (told : Told). told_sum told) sums in
    record {
      some = omega (arith, change.sum, none);
      refs = omega (arith, change.sum, none);
      tell = record { known = known refl; extent = λ _. refl };
    }
more_sums nodesize what (Some head) x n old new known sums change = record {
  some = omega (arith, change.sum);
  refs = omega (arith, change.sum, sums.refs);
  tell = record { known = sums.tell.known; extent = sums.tell.extent };
}

-- the record is no newer than the tree allows
more_made : (what : What) (head : Option Head) (generation at : ℕ) (items : List Item)
    → records_here items at ≡ head_parts at head → what.generation ≤ generation → AreAllowed generation items
    → (head_more what head).what.generation ≤ generation
more_made what None generation at items is made allowed = made
more_made what (Some head) generation at items is made allowed = record-made generation at items head is allowed

more_known : (what : What) (head : Option Head) (told : Told)
    → Some (head_more what head).what ≡ Some (unwrap_or (what_in (kept_of told head)) what)
more_known what None told = refl
more_known what (Some head) told = refl

more_full : (what : What) (head : Option Head) (told : Told)
    → (head_more what head).full ≡ full_in (kept_of told head)
more_full what None told = refl
more_full what (Some head) told = refl

pub adds-by-items : (nodesize : ℕ) (items : List Item) (at : ℕ) (what : What) (x : Reference) (standing : Standing)
    → AreRecords items → IsStanding at x items standing
    → MayComeIn nodesize what x (head_at nodesize items at) standing
    → MakeAddition nodesize items at what x (edits_to_add at what x (head_at nodesize items at) standing)
adds-by-items nodesize items at what x standing are stands may =
    let head = head_at nodesize items at in
    let edits = edits_to_add at what x head standing in
    let entry = entry-at nodesize items are at in
    let n = standing.count in
    let first : Made at items edits.of_reference (counted_parts at x n) (counted_parts at x (n + 1)) =
    puts-count at x items standing (nat_lt 0 n) (n + 1) are.ascending are.said
    (stands-so at x items standing are.said entry.clean stands) refl may.fit.of_reference (omega arith)
    (omega (arith, may.room)) in
    let mid = edited edits.of_reference items in
    let is = between nodesize at x n (n + 1) items mid head entry first.step stands.count (omega (arith, may.room)) in
    let second : Made at mid edits.of_record (head_parts at head) (head_parts at (Some (head_more what head))) =
    more-record at mid what head first.step.ascend first.step.said is.records may.fit.of_record in
    let last = edited_by edits items in
    let sums =
    more_sums nodesize what head x n (told_here items at) (told_here mid at) may.known entry.sums is.changed in
    let all = both nodesize at items mid last (counted_parts at x n) (counted_parts at x (n + 1)) head
    (Some (head_more what head)) are first.step is.records second.step is.changed.clean sums in
    let now = book_now nodesize at items last (told_here mid at) (Some (head_more what head)) all in
    record {
      can = record {
        of_reference = first.can;
        of_record = second.can;
        short_reference = first.short;
        short_record = second.short;
      };
      still = all.still;
      adds = record {
        count = λ y. ap (λ (o : Option Kept). count_of (references_in o) y) now
            ∙ kept-count nodesize (told_here mid at) (Some (head_more what head)) sums y
            ∙ one_more x n (told_here items at) (told_here mid at) is.changed y
            ∙ ap (λ (k : ℕ). k + (if same_reference y x then 1 else 0))
            (sym (kept-count nodesize (told_here items at) head entry.sums y));
        known = ap (λ (o : Option Kept). what_in o) now ∙ more_known what head (told_here items at);
        full = ap (λ (o : Option Kept). full_in o) now ∙ more_full what head (told_here items at);
        elsewhere = all.others;
      };
      allowed = λ generation made allowed.
          all-put (is_item_of Extents generation) (is_some head) (item_of_head at (head_more what head)) mid
          (all-put (is_item_of Extents generation) (nat_lt 0 n) (item_of_reference at standing.number x (n + 1)) items
          allowed (reference-allowed generation at standing.number x (n + 1) may.fit.of_reference (omega arith)
          (omega (arith, may.room))))
          (record-allowed generation at (head_more what head) may.fit.of_record
          (more_made what head generation at items entry.records made allowed));
    }

-- ---- a reference less

less_sums : (nodesize : ℕ) (head : Head) (x : Reference) (n : ℕ) (old new : Told) → 0 < n
    → IsSummed nodesize head old → IsChanged x n (n - 1) old new → Sums nodesize (head_less head) new
less_sums nodesize head x n old new some sums change = by (head.refs == 1) refl
  where
    by : (b : Bool) → (head.refs == 1) ≡ b
        → Sums nodesize (cond b None (Some (record head { refs = head.refs - 1 }))) new
    by true is = told-none new change.clean.counts
        (omega (arith, change.sum, sums.refs, eqb-true head.refs 1 is, some))
    by false is =
        let apart = eqb-false head.refs 1 is in
        record {
          some = omega (arith, change.sum, sums.refs, sums.some, some, apart);
          refs = omega (arith, change.sum, sums.refs, sums.some, some);
          tell = record { known = sums.tell.known; extent = sums.tell.extent };
        }

-- what is kept with a reference less
record IsLessKept (nodesize : ℕ) (head : Head) (old new : Told) (kept : Option Kept) : Type 0 where
  gone : references_in kept ≡ [] → kept ≡ None
  known : references_in kept ≢ [] → what_in kept ≡ Some head.what
  full : references_in kept ≢ [] → full_in kept ≡ head.full

less_kept : (nodesize : ℕ) (head : Head) (old new : Told) → Sums nodesize (head_less head) new
    → IsLessKept nodesize head old new (kept_of new (head_less head))
less_kept nodesize head old new sums = by (head.refs == 1) sums
  where
    by : (b : Bool) → Sums nodesize (cond b None (Some (record head { refs = head.refs - 1 }))) new
        → IsLessKept nodesize head old new (kept_of new (cond b None (Some (record head { refs = head.refs - 1 }))))
    by true sums = record {
      gone = λ none. refl;
      known = λ some. absurd (some refl);
      full = λ some. absurd (some refl);
    }
    by false sums = record {
      gone = λ none. absurd (omega (
        arith,
        sums.some,
        ap (λ (told : Told). told_sum told) (told-empty new none),
      ));
      known = λ some. refl;
      full = λ some. refl;
    }

drops_with : (nodesize : ℕ) (items : List Item) (at : ℕ) (x : Reference) (head : Head) (standing : Standing)
    → AreRecords items → IsEntryWith nodesize at (parts_here items at) (Some head) → IsStanding at x items standing
    → MayGo x head standing
    → MakeDrop nodesize items at x (edits_to_drop at x head standing)
drops_with nodesize items at x head standing are entry stands may =
    let edits = edits_to_drop at x head standing in
    let n = standing.count in
    let most : n ≤ greatest_count x =
    omega (arith, stands.count, count-fitting (told_here items at) entry.clean x) in
    let first : Made at items edits.of_reference (counted_parts at x n) (counted_parts at x (n - 1)) =
    lessens-count at x items standing are.ascending are.said
    (stands-so at x items standing are.said entry.clean stands) may.fit.of_reference may.there most in
    let mid = edited edits.of_reference items in
    let is = between nodesize at x n (n - 1) items mid (Some head) entry first.step stands.count
    (omega (arith, most)) in
    let second : Made at mid edits.of_record (head_parts at (Some head)) (head_parts at (head_less head)) =
    less-record at mid head first.step.ascend first.step.said is.records may.fit.of_record in
    let last = edited_by edits items in
    let sums = less_sums nodesize head x n (told_here items at) (told_here mid at) may.there entry.sums is.changed in
    let all = both nodesize at items mid last (counted_parts at x n) (counted_parts at x (n - 1)) (Some head)
    (head_less head) are first.step is.records second.step is.changed.clean sums in
    let was = book-there nodesize at items (Some head) entry in
    let now = book_now nodesize at items last (told_here mid at) (head_less head) all in
    let kept = less_kept nodesize head (told_here items at) (told_here mid at) sums in
    record {
      can = record {
        of_reference = first.can;
        of_record = second.can;
        short_reference = first.short;
        short_record = second.short;
      };
      still = all.still;
      drops = record {
        count = λ y. ap (λ (o : Option Kept). count_of (references_in o) y) was
            ∙ kept-count nodesize (told_here items at) (Some head) entry.sums y
            ∙ one_less x n (told_here items at) (told_here mid at) may.there is.changed y
            ∙ ap (λ (k : ℕ). k + (if same_reference y x then 1 else 0))
            (sym (ap (λ (o : Option Kept). count_of (references_in o) y) now
            ∙ kept-count nodesize (told_here mid at) (head_less head) sums y));
        gone = λ none. now ∙ kept.gone (sym (ap (λ (o : Option Kept). references_in o) now) ∙ none);
        known = λ some. ap (λ (o : Option Kept). what_in o) now
            ∙ kept.known (λ none. some (ap (λ (o : Option Kept). references_in o) now ∙ none))
            ∙ sym (ap (λ (o : Option Kept). what_in o) was);
        full = λ some. ap (λ (o : Option Kept). full_in o) now
            ∙ kept.full (λ none. some (ap (λ (o : Option Kept). references_in o) now ∙ none))
            ∙ sym (ap (λ (o : Option Kept). full_in o) was);
        elsewhere = all.others;
      };
      allowed = λ generation allowed.
          let made = record-made generation at items head entry.records allowed in
          all-lessened (is_item_of Extents generation) head.refs
          (λ refs. item_of_head at (record head { refs = refs })) mid
          (all-lessened (is_item_of Extents generation) n (item_of_reference at standing.number x) items allowed
          (λ is. let apart = eqb-false n 1 is in
          reference-allowed generation at standing.number x (n - 1) may.fit.of_reference
          (omega (arith, may.there, apart))
          (omega (arith, most))))
          (λ is. record-allowed generation at (record head { refs = head.refs - 1 })
          (record { refs = omega (arith, may.fit.of_record.refs); generation = may.fit.of_record.generation }) made);
    }

pub drops-by-items : (nodesize : ℕ) (items : List Item) (at : ℕ) (x : Reference) (head : Head) (standing : Standing)
    → AreRecords items → head_at nodesize items at ≡ Some head → IsStanding at x items standing → MayGo x head standing
    → MakeDrop nodesize items at x (edits_to_drop at x head standing)
drops-by-items nodesize items at x head standing are is stands may =
    drops_with nodesize items at x head standing are
    (subst (λ (o : Option Head). IsEntryWith nodesize at (parts_here items at) o) is (entry-at nodesize items are at))
    stands may

-- ---- the mark

marks_with : (nodesize : ℕ) (items : List Item) (at : ℕ) (head : Head) → AreRecords items
    → IsEntryWith nodesize at (parts_here items at) (Some head) → IsSome head.what.level → HeadFits head
    → MakesMark nodesize items at (edit_to_mark at head)
marks_with nodesize items at head are entry level fits =
    let full : Head = record head { full = true } in
    let edit = edit_to_mark at head in
    let made : Made at items edit (head_parts at (Some head)) (head_parts at (Some full)) =
    puts-again at items head full refl are.ascending are.said entry.records
    (record { refs = fits.refs; generation = fits.generation }) in
    let next = edited edit items in
    let sums : Sums nodesize (Some full) (told_here items at) = record {
      some = entry.sums.some;
      refs = entry.sums.refs;
      tell = record { known = entry.sums.tell.known; extent = λ none. absurd (never head.what.level none level) };
    } in
    let settled = is-settled nodesize at items next (Some head) (Some full) entry.records made.step entry.clean sums in
    let was = book-there nodesize at items (Some head) entry in
    let now = book-there nodesize at next (Some full) settled.entry
    ∙ ap (λ (told : Told). kept_of told (Some full)) settled.told in
    record {
      can = made.can;
      short = made.short;
      still = still-records nodesize at items next (Some full) are made.step.ascend made.step.said settled.entry
          made.step.others made.step.elsewhere;
      marks = record {
        there = now ∙ sym (ap (option_map (λ (kept : Kept). record kept { full = true })) was);
        elsewhere = λ other apart. book-elsewhere nodesize other items next (made.step.others other apart);
      };
      allowed = λ generation allowed.
          all-put (is_item_of Extents generation) true (item_of_head at full) items allowed
          (record-allowed generation at full (record { refs = fits.refs; generation = fits.generation })
          (record-made generation at items head entry.records allowed));
    }
  where
    never : (o : Option ℕ) → o ≡ None → IsSome o → ⊥
    never None none some = cc
    never (Some n) none some = none-some n (sym none)

pub marks-by-items : (nodesize : ℕ) (items : List Item) (at : ℕ) (head : Head) → AreRecords items
    → head_at nodesize items at ≡ Some head → IsSome head.what.level → HeadFits head
    → MakesMark nodesize items at (edit_to_mark at head)
marks-by-items nodesize items at head are is level fits =
    marks_with nodesize items at head are
    (subst (λ (o : Option Head). IsEntryWith nodesize at (parts_here items at) o) is (entry-at nodesize items are at))
    level fits
