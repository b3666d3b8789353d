-- What two books take after an edit of one, and what a book takes.
use Rattle.std.proofs.Common.{◌≡◌, ℕ, ◌+◌, ◌<◌, Bool, true, false, List, [], ◌∷◌, ◌++◌, Option, Some, None}
use Rattle.std.proofs.Common.{refl, sym, ap, subst, ◌∙◌, arith, suc}
use Rattle.std.specs.Prelude.{◌&&◌, ◌||◌, ◌==◌, if◌then◌else◌, is_some, nat_lt, unwrap_or}
use Rattle.std.specs.List.{sum_by}
use Rattle.std.specs.List.Sorted.{IsStrictlySortedBy}
use Rattle.std.specs.Map.{keys_of}
use Rattle.std.specs.Ordering.{nat_cmp}
use Rattle.std.proofs.lemmas.Bool.{and_right, cond-false, cond-true, eq-eqb, or_left, true≢false}
use Rattle.std.proofs.lemmas.List.Elements.{recursion_from_All}
use Rattle.std.proofs.lemmas.List.Folds.{list_any-append}
use Rattle.std.proofs.lemmas.List.Sums.{sum_by-cons}
use Rattle.std.proofs.lemmas.Map.Keys.{sorted_tail}
use Rattle.qg_items.specs.declared.extent.Reference.{Reference}
use Rattle.qg_image.specs.Record.{Record, ReferenceTo, record_bytes, records_bytes, same_record}
use Rattle.qg_extents.specs.Types.{Counted}
use Rattle.qg_extents.specs.Types.{What}
use Rattle.qg_extents.specs.Types.{Kept}
use Rattle.qg_extents.specs.Book.{Adds, Book, Drops, Marks, what_in}
use Rattle.qg_extents.specs.Counts.{Ascend, IsRefList, count_of}
use Rattle.qg_extents.proofs.Counting.{count-cons, count-found, count-nil, counted-own}
use Rattle.qg_extents.specs.Table.{IsTable, book_of}
use Rattle.qg_weighed.specs.Laws.{is_among}
use Rattle.qg_weighed.specs.Weight.{extent_bytes, extent_record_bytes, has_record, has_reference, is_level_alike}
use Rattle.qg_weighed.specs.Weight.{lacking, record_known, record_of_level, records_in, reference_bytes, table_bytes}
use Rattle.qg_weighed.specs.Weight.{weight_of}
use Rattle.qg_weighed.proofs.Distinct.{adds, bytes-alike, bytes-apart, bytes-one, record_itself}
use Rattle.qg_weighed.proofs.Recorded.{Grows, HaveCounts, HaveLists, Table, adds-grows, drops-grows, entry-says}
use Rattle.qg_weighed.proofs.Recorded.{entry_records, grown, have-lists, known-place, marked, none-behind}
use Rattle.qg_weighed.proofs.Recorded.{place_of, recorded, recorded-place, recorded_in, records-cons, records-say}
use Rattle.qg_weighed.proofs.Recorded.{reference_records, referenced, references-say, table-says}

or_first : (a b : Bool) → a ≡ false → (a || b) ≡ b
or_first true b none = absurd (true≢false none)
or_first false b none = refl

or_none : (a b : Bool) → b ≡ false → (a || b) ≡ a
or_none true b none = refl
or_none false b none = none

-- ---- what is there already

-- a reference is not a record of what is known
unlike : (at bytes : ℕ) (level : Option ℕ) (reference : Reference)
    → same_record (ReferenceTo at reference) (record_of_level at bytes level) ≡ false
unlike at bytes None reference = refl
unlike at bytes (Some level) reference = refl

not-referenced : (at bytes : ℕ) (level : Option ℕ) (references : List Counted)
    → referenced at references (record_of_level at bytes level) ≡ false
not-referenced at bytes None references = refl
not-referenced at bytes (Some level) references = refl

pub reference-there : (at : ℕ) (kept : Option Kept) (reference : Reference)
    → recorded_in at kept (ReferenceTo at reference) ≡ has_reference kept reference
reference-there at None reference = sym (ap (λ (n : ℕ). nat_lt 0 n) (count-nil reference))
reference-there at (Some kept) reference =
    or_first _ _ (unlike at kept.what.bytes kept.what.level reference)
    ∙ ap (λ (b : Bool). b && nat_lt 0 (count_of kept.references reference)) (eq-eqb at at refl)

alike-records : (at bytes bytes' : ℕ) (level level' : Option ℕ)
    → same_record (record_of_level at bytes level) (record_of_level at bytes' level')
    ≡ is_level_alike bytes level bytes' level'
alike-records at bytes bytes' None None = ap (λ (b : Bool). b && (bytes == bytes')) (eq-eqb at at refl)
alike-records at bytes bytes' (Some level) (Some level') = ap (λ (b : Bool). b && (level == level')) (eq-eqb at at refl)
alike-records at bytes bytes' None (Some level') = refl
alike-records at bytes bytes' (Some level) None = refl

known-there : (at : ℕ) (kept : Option Kept) (what : What)
    → recorded_in at kept (record_known at what) ≡ has_record kept what
known-there at None what = refl
known-there at (Some kept) what =
    or_none (same_record (record_known at what) (record_known at kept.what)) _
    (not-referenced at what.bytes what.level kept.references)
    ∙ alike-records at what.bytes kept.what.bytes what.level kept.what.level

known-own : (at : ℕ) (kept : Option Kept) (what : What) → (is_some kept ≡ true → what_in kept ≡ Some what)
    → recorded_in at kept (record_known at what) ≡ is_some kept
known-own at None what before = refl
known-own at (Some kept) what before =
    let is : kept.what ≡ what = same_what (before refl) in
    or_left (same_record (record_known at what) (record_known at kept.what)) _
    (subst (λ (w : What). same_record (record_known at what) (record_known at w) ≡ true) (sym is)
    (record_itself (record_known at what)))
  where
    same_what : what_in (Some kept) ≡ Some what → kept.what ≡ what
    same_what is = cc

level-bytes : (at bytes : ℕ) (level : Option ℕ) → record_bytes (record_of_level at bytes level) ≡ extent_record_bytes
level-bytes at bytes None = refl
level-bytes at bytes (Some level) = refl

pub known-bytes : (at : ℕ) (what : What) → record_bytes (record_known at what) ≡ extent_record_bytes
known-bytes at what = level-bytes at what.bytes what.level

-- ---- one reference more

to_front : (h a b s : Bool) → (h || (a || (b || s))) ≡ (a || (b || (h || s)))
to_front true true b s = refl
to_front true false true s = refl
to_front true false false s = refl
to_front false a b s = refl

module _ (held small big : Table) (at : ℕ) (what : What) (reference : Reference) (held_is : IsTable held)
    (small_is : IsTable small) (big_is : IsTable big)
    (grows : Grows (book_of small) (book_of big) at what reference) where
  among-both : (one : Record) → is_among (records_in held ++ records_in small) one
      ≡ (recorded (book_of held) one || recorded (book_of small) one)
  among-both one =
      list_any-append (same_record one) (records_in held) (records_in small)
      ∙ ap (λ (b : Bool). b || is_among (records_in small) one) (records-say held one held_is)
      ∙ ap (λ (b : Bool). recorded (book_of held) one || b) (records-say small one small_is)

  alike : (one : Record) → is_among (records_in held ++ records_in big) one
      ≡ is_among (ReferenceTo at reference ∷ record_known at what ∷ (records_in held ++ records_in small)) one
  alike one =
      let first = same_record one (ReferenceTo at reference) in
      let second = same_record one (record_known at what) in
      let h = recorded (book_of held) one in
      list_any-append (same_record one) (records_in held) (records_in big)
      ∙ ap (λ (b : Bool). b || is_among (records_in big) one) (records-say held one held_is)
      ∙ ap (λ (b : Bool). h || b)
      (records-say big one big_is ∙ grown (book_of small) (book_of big) at what reference one grows)
      ∙ to_front h first second (recorded (book_of small) one)
      ∙ sym (ap (λ (b : Bool). first || (second || b)) (among-both one))

  reference-known : is_among (records_in held ++ records_in small) (ReferenceTo at reference)
      ≡ (has_reference (book_of held at) reference || has_reference (book_of small at) reference)
  reference-known =
      among-both (ReferenceTo at reference)
      ∙ ap (λ (b : Bool). b || recorded (book_of small) (ReferenceTo at reference))
      (reference-there at (book_of held at) reference)
      ∙ ap (λ (b : Bool). has_reference (book_of held at) reference || b)
      (reference-there at (book_of small at) reference)

  at-place : (book : Book) → recorded book (record_known at what) ≡ recorded_in at (book at) (record_known at what)
  at-place book = ap (λ (q : ℕ). recorded_in q (book q) (record_known at what)) (known-place at what)

  record-known : is_among (records_in held ++ records_in small) (record_known at what)
      ≡ (has_record (book_of held at) what || is_some (book_of small at))
  record-known =
      among-both (record_known at what)
      ∙ ap (λ (b : Bool). b || recorded (book_of small) (record_known at what))
      (at-place (book_of held) ∙ known-there at (book_of held at) what)
      ∙ ap (λ (b : Bool). has_record (book_of held at) what || b)
      (at-place (book_of small) ∙ known-own at (book_of small at) what grows.before)

  pub weight-grown : weight_of held big
      ≡ weight_of held small + lacking (book_of held at) (book_of small at) what reference
  unfolding weight_of
  weight-grown =
      let there = records_in held ++ records_in small in
      let own = record_known at what in
      let one = ReferenceTo at reference in
      let whole : records_bytes (records_in held ++ records_in big) ≡ records_bytes (one ∷ own ∷ there) =
      bytes-alike (records_in held ++ records_in big) (one ∷ own ∷ there) alike in
      let first : records_bytes (one ∷ own ∷ there) ≡ adds (own ∷ there) one + records_bytes (own ∷ there) =
      bytes-one one (own ∷ there) in
      let second : records_bytes (own ∷ there) ≡ adds there own + records_bytes there = bytes-one own there in
      let reference_lacks : adds (own ∷ there) one
      ≡ (if has_reference (book_of held at) reference || has_reference (book_of small at) reference then 0
      else record_bytes one) =
      ap (λ (b : Bool). if b then 0 else record_bytes one)
      (or_first (same_record one own) (is_among there one) (unlike at what.bytes what.level reference)
      ∙ reference-known) in
      let record_lacks : adds there own
      ≡ (if has_record (book_of held at) what || is_some (book_of small at) then 0 else extent_record_bytes) =
      ap (λ (b : Bool). if b then 0 else record_bytes own) record-known
      ∙ ap (λ (n : ℕ). if has_record (book_of held at) what || is_some (book_of small at) then 0 else n)
      (known-bytes at what) in
      omega (arith, whole, first, second, reference_lacks, record_lacks)

-- ---- edits

-- what one reference more takes does not hang on what is told of what is known already
lacking-known : (held here : Option Kept) (what : What) (reference : Reference)
    → lacking held here (unwrap_or (what_in here) what) reference ≡ lacking held here what reference
lacking-known held None what reference = refl
lacking-known held (Some kept) what reference =
    let none : (other : What) → (if has_record held other || true then 0 else extent_record_bytes) ≡ 0 =
    λ other. cond-true _ _ _ (second_true (has_record held other)) in
    let first = none kept.what in
    let second = none what in
    omega (arith, first, second)
  where
    second_true : (b : Bool) → (b || true) ≡ true
    second_true true = refl
    second_true false = refl

pub weight-added : (held old new : Table) (at : ℕ) (what : What) (reference : Reference) → IsTable held → IsTable old
    → IsTable new → Adds (book_of old) (book_of new) at what reference
    → weight_of held new ≡ weight_of held old + lacking (book_of held at) (book_of old at) what reference
weight-added held old new at what reference held_is old_is new_is added =
    let known = unwrap_or (what_in (book_of old at)) what in
    weight-grown held old new at known reference held_is old_is new_is
    (adds-grows (book_of old) (book_of new) at what reference added)
    ∙ ap (λ (n : ℕ). weight_of held old + n) (lacking-known (book_of held at) (book_of old at) what reference)

pub weight-dropped : (held old new : Table) (at : ℕ) (what : What) (reference : Reference) → IsTable held → IsTable old
    → IsTable new → Drops (book_of old) (book_of new) at reference → what_in (book_of old at) ≡ Some what
    → weight_of held old ≡ weight_of held new + lacking (book_of held at) (book_of new at) what reference
weight-dropped held old new at what reference held_is old_is new_is dropped known =
    weight-grown held new old at what reference held_is new_is old_is
    (drops-grows (book_of old) (book_of new) at what reference dropped known)

pub weight-marked : (held old new : Table) (at : ℕ) → IsTable old → IsTable new → Marks (book_of old) (book_of new) at
    → weight_of held new ≡ weight_of held old
unfolding weight_of
weight-marked held old new at old_is new_is marks =
    bytes-alike (records_in held ++ records_in new) (records_in held ++ records_in old) (λ one.
    list_any-append (same_record one) (records_in held) (records_in new)
    ∙ ap (λ (b : Bool). is_among (records_in held) one || b)
    (records-say new one new_is ∙ marked (book_of old) (book_of new) at one marks ∙ sym (records-say old one old_is))
    ∙ sym (list_any-append (same_record one) (records_in held) (records_in old)))

-- ---- one book

later_ascend : (entry : Counted) (references : List Counted) → Ascend (entry ∷ references) → Ascend references
later_ascend entry references up = λ i j d h k. up (suc i) (suc j) d (omega arith) (omega arith)

none-later : (entry : Counted) (references : List Counted) → Ascend (entry ∷ references)
    → count_of references entry.reference ≡ 0
none-later entry references up =
    let all : count_of (entry ∷ references) entry.reference ≡ entry.count =
    count-found entry.reference (entry ∷ references) 0 entry up (omega arith) refl in
    let own = counted-own entry.reference entry refl in
    omega (arith, all, own, count-cons entry references entry.reference)

references-weigh : (at : ℕ) (references : List Counted) → Ascend references → HaveCounts references
    → records_bytes (reference_records at references) ≡ sum_by (λ entry. reference_bytes entry.reference) references
references-weigh at [] up some = refl
references-weigh at (entry ∷ references) up some =
    let one = ReferenceTo at entry.reference in
    let none : is_among (reference_records at references) one ≡ false =
    references-say at references one some.1
    ∙ ap (λ (n : ℕ). (at == at) && nat_lt 0 n) (none-later entry references up)
    ∙ and_right (at == at) (nat_lt 0 0) refl in
    let own : adds (reference_records at references) one ≡ record_bytes one = cond-false _ _ _ none in
    let later = references-weigh at references (later_ascend entry references up) some.1 in
    omega (
      arith,
      bytes-one one (reference_records at references),
      own,
      later,
      sum_by-cons (λ (e : Counted). reference_bytes e.reference) entry references,
    )

entry-weighs : (at : ℕ) (kept : Kept) → IsRefList kept.references
    → records_bytes (entry_records at kept) ≡ extent_bytes kept
entry-weighs at kept list =
    let own = record_known at kept.what in
    let some = recursion_from_All (λ entry. 0 < entry.count) kept.references list.some in
    let none : is_among (reference_records at kept.references) own ≡ false =
    references-say at kept.references own some ∙ not-referenced at kept.what.bytes kept.what.level kept.references in
    let all : adds (reference_records at kept.references) own ≡ record_bytes own = cond-false _ _ _ none in
    omega (
      arith,
      bytes-one own (reference_records at kept.references),
      all,
      known-bytes at kept.what,
      references-weigh at kept.references list.ascend some,
    )

table-weighs : (table : Table) → IsStrictlySortedBy nat_cmp (keys_of table) → HaveLists table
    → records_bytes (records_in table) ≡ table_bytes table
table-weighs [] sorted lists = refl
table-weighs (first ∷ table) sorted lists =
    let own = entry_records first.0 first.1 in
    let ascend = sorted_tail nat_cmp first.0 (keys_of table) sorted in
    let apart : (one : Record) → is_among own one ≡ true → is_among (records_in table) one ≡ false = λ one among.
    let there = sym (entry-says first.0 first.1 one lists.0) ∙ among in
    let place : place_of one ≡ first.0 = recorded-place first.0 (Some first.1) one there in
    table-says table one ascend lists.1
    ∙ ap (λ (q : ℕ). recorded_in q (book_of table q) one) place
    ∙ ap (λ (o : Option Kept). recorded_in first.0 o one) (none-behind first table sorted) in
    let whole : records_bytes (records_in (first ∷ table)) ≡ records_bytes own + records_bytes (records_in table) =
    ap records_bytes (records-cons first table) ∙ bytes-apart own (records_in table) apart in
    let here = entry-weighs first.0 first.1 lists.0 in
    omega (
      arith,
      whole,
      here,
      table-weighs table ascend lists.1,
      sum_by-cons (λ (entry : ℕ × Kept). extent_bytes entry.1) first table,
    )

or_same : (b : Bool) → (b || b) ≡ b
or_same true = refl
or_same false = refl

-- a book with itself takes what its entries take
pub weight-own : (table : Table) → IsTable table → weight_of table table ≡ table_bytes table
unfolding weight_of
weight-own table is =
    bytes-alike (records_in table ++ records_in table) (records_in table) (λ one.
    list_any-append (same_record one) (records_in table) (records_in table)
    ∙ or_same (is_among (records_in table) one))
    ∙ table-weighs table is.ascend (have-lists table is)
