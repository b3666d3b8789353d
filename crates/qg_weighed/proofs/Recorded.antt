-- Which records the items of a table name, by its book.
use Rattle.std.proofs.Common.{◌≡◌, ◌≢◌, ℕ, ◌+◌, ◌<◌, Bool, true, false, List, [], ◌∷◌, ◌++◌, map}
use Rattle.std.proofs.Common.{Option, Some, None, refl, sym, ap, subst, ◌∙◌, arith, cond, inl, inr, zero-add}
use Rattle.std.specs.Prelude.{◌&&◌, ◌||◌, ◌==◌, if◌then◌else◌, is_some, nat_lt, unwrap_or}
use Rattle.std.specs.Option.{option_map}
use Rattle.std.specs.BTreeMap.{is_at}
use Rattle.std.specs.Cmp.{eq_by_cmp_equiv, nat_cmp_total}
use Rattle.std.specs.List.{AllByRecursion}
use Rattle.std.specs.List.Sorted.{IsStrictlySortedBy}
use Rattle.std.specs.Map.{keys_of}
use Rattle.std.specs.Ordering.{nat_cmp}
use Rattle.std.proofs.lemmas.Bool.{and_parts, and_right, cases_eq, eqb-true, false_from_ne_true}
use Rattle.std.proofs.lemmas.Bool.{lt-ltb, or_cases, true≢false}
use Rattle.std.proofs.lemmas.List.{map-append}
use Rattle.std.proofs.lemmas.List.Elements.{recursion_from_All}
use Rattle.std.proofs.lemmas.List.Folds.{list_any-append}
use Rattle.std.proofs.lemmas.Map.{lookup-none}
use Rattle.std.proofs.lemmas.Map.Entries.{none_past_head}
use Rattle.std.proofs.lemmas.Map.Keys.{IsDistinct-from_sorted, sorted_tail}
use Rattle.qg_items.specs.declared.extent.Reference.{Reference}
use Rattle.qg_items.specs.declared.extent.ExtentItem.{ExtentItem}
use Rattle.qg_image.specs.Record.{Record, RootOf, ExtentOf, NodeOf, ReferenceTo, Status, InfoOf, LimitOf, RelationOf}
use Rattle.qg_image.specs.Record.{extent_record, same_record, same_reference}
use Rattle.qg_extents.specs.Types.{Counted}
use Rattle.qg_extents.specs.Types.{What}
use Rattle.qg_extents.specs.Types.{Kept}
use Rattle.qg_extents.specs.Book.{Adds, Book, Drops, Marks, references_in, what_in}
use Rattle.qg_extents.specs.Counts.{HasOneMore, IsRefList, count_of}
use Rattle.qg_extents.proofs.Counting.{count-cons, count-nil}
use Rattle.qg_extents.specs.Table.{IsTable, book_of}
use Rattle.qg_extents.specs.Written.{part_of, parts_of_book, parts_of_extent, record_part}
use Rattle.qg_extents.proofs.Sayable.{entry-may}
use Rattle.qg_extents.proofs.Tables.{at_itself, at_other}
use Rattle.qg_weighed.specs.Laws.{is_among}
use Rattle.qg_weighed.specs.Weight.{record_known, record_of_level, records_in}
use Rattle.qg_weighed.proofs.Distinct.{same_record_is}

abbrev pub Table : Type 0
Table = List (ℕ × Kept)

-- ---- one entry

-- the address that a record of the extent tree is of
abbrev pub place_of : Record → ℕ
place_of (ExtentOf address bytes) = address
place_of (NodeOf address level) = address
place_of (ReferenceTo address reference) = address
place_of (RootOf tree) = 0
place_of Status = 0
place_of (InfoOf group) = 0
place_of (LimitOf group) = 0
place_of (RelationOf group other) = 0

-- a record is a reference that is there
abbrev pub referenced : ℕ → List Counted → Record → Bool
referenced at references (ReferenceTo address reference) = (address == at) && nat_lt 0 (count_of references reference)
referenced at references (ExtentOf address bytes) = false
referenced at references (NodeOf address level) = false
referenced at references (RootOf tree) = false
referenced at references Status = false
referenced at references (InfoOf group) = false
referenced at references (LimitOf group) = false
referenced at references (RelationOf group other) = false

-- a record is of what is kept at an address
abbrev pub recorded_in : ℕ → Option Kept → Record → Bool
recorded_in at None one = false
recorded_in at (Some kept) one = same_record one (record_known at kept.what) || referenced at kept.references one

-- a record is of what a book has
abbrev pub recorded : Book → Record → Bool
recorded book one = recorded_in (place_of one) (book (place_of one)) one

-- the records of references, and those of an entry
abbrev pub reference_records : ℕ → List Counted → List Record
reference_records at references = map (λ entry. ReferenceTo at entry.reference) references

abbrev pub entry_records : ℕ → Kept → List Record
entry_records at kept = record_known at kept.what ∷ reference_records at kept.references

record-of : (at bytes : ℕ) (level : Option ℕ) (extent : ExtentItem)
    → extent_record (record_part at bytes level extent) ≡ record_of_level at bytes level
record-of at bytes None extent = refl
record-of at bytes (Some level) extent = refl

references-of : (at : ℕ) (references : List Counted)
    → map extent_record (map (part_of at) references) ≡ reference_records at references
references-of at [] = refl
references-of at (entry ∷ references) =
    ap (λ (records : List Record). ReferenceTo at entry.reference ∷ records) (references-of at references)

pub entry-records : (at : ℕ) (kept : Kept)
    → map extent_record (parts_of_extent (at, kept)) ≡ entry_records at kept
entry-records at kept =
    ap (λ (one : Record). one ∷ map extent_record (map (part_of at) kept.references))
    (record-of at kept.what.bytes kept.what.level _)
    ∙ ap (λ (records : List Record). record_known at kept.what ∷ records) (references-of at kept.references)

-- ---- references

either_counts : (b : Bool) (count rest : ℕ) → 0 < count
    → (b || nat_lt 0 rest) ≡ nat_lt 0 ((if b then count else 0) + rest)
either_counts true count rest some = sym (lt-ltb 0 (count + rest) (omega (arith, some)))
either_counts false count rest some = ap (λ (n : ℕ). nat_lt 0 n) (sym (zero-add rest))

and_shared : (a b c : Bool) → ((a && b) || (a && c)) ≡ (a && (b || c))
and_shared true b c = refl
and_shared false b c = refl

abbrev pub HaveCounts : List Counted → Type 0
HaveCounts references = AllByRecursion (λ entry. 0 < entry.count) references

pub references-say : (at : ℕ) (references : List Counted) (one : Record) → HaveCounts references
    → is_among (reference_records at references) one ≡ referenced at references one
references-say at [] (ReferenceTo address reference) some =
    sym (ap (λ (n : ℕ). (address == at) && nat_lt 0 n) (count-nil reference)
    ∙ and_right (address == at) (nat_lt 0 0) refl)
references-say at [] (ExtentOf address bytes) some = refl
references-say at [] (NodeOf address level) some = refl
references-say at [] (RootOf tree) some = refl
references-say at [] Status some = refl
references-say at [] (InfoOf group) some = refl
references-say at [] (LimitOf group) some = refl
references-say at [] (RelationOf group other) some = refl
references-say at (entry ∷ references) (ReferenceTo address reference) some =
    let same = same_reference reference entry.reference in
    let later = references-say at references (ReferenceTo address reference) some.1 in
    ap (λ (b : Bool). ((address == at) && same) || b) later
    ∙ and_shared (address == at) same (nat_lt 0 (count_of references reference))
    ∙ ap (λ (b : Bool). (address == at) && b)
    (either_counts same entry.count (count_of references reference) some.0
    ∙ ap (λ (n : ℕ). nat_lt 0 n) (sym (count-cons entry references reference)))
references-say at (entry ∷ references) (ExtentOf address bytes) some =
    references-say at references (ExtentOf address bytes) some.1
references-say at (entry ∷ references) (NodeOf address level) some =
    references-say at references (NodeOf address level) some.1
references-say at (entry ∷ references) (RootOf tree) some = references-say at references (RootOf tree) some.1
references-say at (entry ∷ references) Status some = references-say at references Status some.1
references-say at (entry ∷ references) (InfoOf group) some = references-say at references (InfoOf group) some.1
references-say at (entry ∷ references) (LimitOf group) some = references-say at references (LimitOf group) some.1
references-say at (entry ∷ references) (RelationOf group other) some =
    references-say at references (RelationOf group other) some.1

pub list-says : (at : ℕ) (references : List Counted) (one : Record) → IsRefList references
    → is_among (reference_records at references) one ≡ referenced at references one
list-says at references one list = references-say at references one
    (recursion_from_All (λ entry. 0 < entry.count) references list.some)

pub entry-says : (at : ℕ) (kept : Kept) (one : Record) → IsRefList kept.references
    → is_among (entry_records at kept) one ≡ recorded_in at (Some kept) one
entry-says at kept one list =
    ap (λ (b : Bool). same_record one (record_known at kept.what) || b) (list-says at kept.references one list)

-- ---- the address of a record

level-place : (at bytes : ℕ) (level : Option ℕ) → place_of (record_of_level at bytes level) ≡ at
level-place at bytes None = refl
level-place at bytes (Some level) = refl

pub known-place : (at : ℕ) (what : What) → place_of (record_known at what) ≡ at
known-place at what = level-place at what.bytes what.level

referenced-place : (at : ℕ) (references : List Counted) (one : Record) → referenced at references one ≡ true
    → place_of one ≡ at
referenced-place at references (ReferenceTo address reference) is =
    eqb-true address at (and_parts (address == at) (nat_lt 0 (count_of references reference)) is).0
referenced-place at references (ExtentOf address bytes) is = absurd (true≢false (sym is))
referenced-place at references (NodeOf address level) is = absurd (true≢false (sym is))
referenced-place at references (RootOf tree) is = absurd (true≢false (sym is))
referenced-place at references Status is = absurd (true≢false (sym is))
referenced-place at references (InfoOf group) is = absurd (true≢false (sym is))
referenced-place at references (LimitOf group) is = absurd (true≢false (sym is))
referenced-place at references (RelationOf group other) is = absurd (true≢false (sym is))

pub recorded-place : (at : ℕ) (kept : Option Kept) (one : Record) → recorded_in at kept one ≡ true → place_of one ≡ at
recorded-place at None one is = absurd (true≢false (sym is))
recorded-place at (Some kept) one is = elim (or_cases (same_record one (record_known at kept.what))
    (referenced at kept.references one) is) [
      | inl same ↦ ap place_of (same_record_is one (record_known at kept.what) same) ∙ known-place at kept.what
      | inr there ↦ referenced-place at kept.references one there
    ]

-- ---- a table

or_first : (a b : Bool) → a ≡ false → (a || b) ≡ b
or_first true b none = absurd (true≢false none)
or_first false b none = refl

or_none : (a b : Bool) → b ≡ false → (a || b) ≡ a
or_none true b none = refl
or_none false b none = none

-- nothing else is kept where the first entry is
pub none-behind : (first : ℕ × Kept) (table : Table) → IsStrictlySortedBy nat_cmp (keys_of (first ∷ table))
    → book_of table first.0 ≡ None
none-behind first table sorted = lookup-none (is_at (nat_cmp first.0)) table
    (none_past_head (eq_by_cmp_equiv nat_cmp_total) first.0 first table
    (IsDistinct-from_sorted nat_cmp (keys_of (first ∷ table)) sorted) (at_itself first.0))

abbrev pub HaveLists : Table → Type 0
HaveLists table = AllByRecursion (λ entry. IsRefList entry.1.references) table

pub records-cons : (first : ℕ × Kept) (table : Table)
    → records_in (first ∷ table) ≡ entry_records first.0 first.1 ++ records_in table
records-cons first table =
    map-append extent_record (parts_of_extent first) (parts_of_book table)
    ∙ ap (λ (records : List Record). records ++ records_in table) (entry-records first.0 first.1)

pub table-says : (table : Table) (one : Record) → IsStrictlySortedBy nat_cmp (keys_of table) → HaveLists table
    → is_among (records_in table) one ≡ recorded (book_of table) one
table-says [] one sorted lists = refl
table-says (first ∷ table) one sorted lists =
    let at = place_of one in
    let here = recorded_in first.0 (Some first.1) one in
    let later = table-says table one (sorted_tail nat_cmp first.0 (keys_of table) sorted) lists.1 in
    let split : is_among (records_in (first ∷ table)) one ≡ (here || recorded (book_of table) one) =
    ap (λ (records : List Record). is_among records one) (records-cons first table)
    ∙ list_any-append (same_record one) (entry_records first.0 first.1) (records_in table)
    ∙ ap (λ (b : Bool). b || is_among (records_in table) one) (entry-says first.0 first.1 one lists.0)
    ∙ ap (λ (b : Bool). here || b) later in
    split ∙ elim (cases_eq first.0 at) [
      | inl is ↦
          let none : recorded (book_of table) one ≡ false =
          subst (λ (q : ℕ). recorded_in q (book_of table q) one ≡ false) is
          (ap (λ (o : Option Kept). recorded_in first.0 o one) (none-behind first table sorted)) in
          let found : book_of (first ∷ table) at ≡ Some first.1 =
          ap (λ (b : Bool). cond b (Some first.1) (book_of table at))
          (subst (λ (q : ℕ). is_at (nat_cmp q) first.0 ≡ true) is (at_itself first.0)) in
          or_none here (recorded (book_of table) one) none
          ∙ subst (λ (q : ℕ). here ≡ recorded_in q (Some first.1) one) is refl
          ∙ sym (ap (λ (o : Option Kept). recorded_in at o one) found)
      | inr apart ↦
          let none : here ≡ false =
          false_from_ne_true here (λ there. apart (sym (recorded-place first.0 (Some first.1) one there))) in
          let found : book_of (first ∷ table) at ≡ book_of table at =
          ap (λ (b : Bool). cond b (Some first.1) (book_of table at)) (at_other at first.0 apart) in
          or_first here (recorded (book_of table) one) none
          ∙ sym (ap (λ (o : Option Kept). recorded_in at o one) found)
    ]

pub have-lists : (table : Table) → IsTable table → HaveLists table
have-lists table is = recursion_from_All (λ entry. IsRefList entry.1.references) table
    (λ i d inside. (entry-may table i d is inside).sound)

-- which records a table's items name
pub records-say : (table : Table) (one : Record) → IsTable table
    → is_among (records_in table) one ≡ recorded (book_of table) one
records-say table one is = table-says table one is.ascend (have-lists table is)

-- ---- edits

-- one book has one reference more than another at an address, and this is known there
pub record Grows (small big : Book) (at : ℕ) (what : What) (reference : Reference) : Type 0 where
  pub count : HasOneMore (references_in (small at)) (references_in (big at)) reference
  pub known : what_in (big at) ≡ Some what
  pub before : is_some (small at) ≡ true → what_in (small at) ≡ Some what
  pub elsewhere : (other : ℕ) → other ≢ at → big other ≡ small other

more-counts : (b : Bool) (count rest : ℕ) → count ≡ rest + (if b then 1 else 0) → nat_lt 0 count ≡ (b || nat_lt 0 rest)
more-counts true count rest is = lt-ltb 0 count (omega (arith, is))
more-counts false count rest is = ap (λ (n : ℕ). nat_lt 0 n) (omega (arith, is))

referenced-more : (at : ℕ) (small big : List Counted) (reference : Reference) (one : Record)
    → HasOneMore small big reference
    → referenced at big one ≡ (same_record one (ReferenceTo at reference) || referenced at small one)
referenced-more at small big reference (ReferenceTo address other) more =
    ap (λ (b : Bool). (address == at) && b)
    (more-counts (same_reference other reference) (count_of big other) (count_of small other) (more other))
    ∙ sym (and_shared (address == at) (same_reference other reference) (nat_lt 0 (count_of small other)))
referenced-more at small big reference (ExtentOf address bytes) more = refl
referenced-more at small big reference (NodeOf address level) more = refl
referenced-more at small big reference (RootOf tree) more = refl
referenced-more at small big reference Status more = refl
referenced-more at small big reference (InfoOf group) more = refl
referenced-more at small big reference (LimitOf group) more = refl
referenced-more at small big reference (RelationOf group other) more = refl

referenced-none : (at : ℕ) (one : Record) → referenced at [] one ≡ false
referenced-none at (ReferenceTo address reference) =
    ap (λ (n : ℕ). (address == at) && nat_lt 0 n) (count-nil reference) ∙ and_right (address == at) (nat_lt 0 0) refl
referenced-none at (ExtentOf address bytes) = refl
referenced-none at (NodeOf address level) = refl
referenced-none at (RootOf tree) = refl
referenced-none at Status = refl
referenced-none at (InfoOf group) = refl
referenced-none at (LimitOf group) = refl
referenced-none at (RelationOf group other) = refl

swap_first : (a b c : Bool) → (a || (b || c)) ≡ (b || (a || c))
swap_first true true c = refl
swap_first true false c = refl
swap_first false b c = refl

swap_twice : (a b c : Bool) → (a || (b || c)) ≡ (b || (a || (a || c)))
swap_twice true true c = refl
swap_twice true false c = refl
swap_twice false b c = refl

some_known : (kept : Kept) (what : What) → what_in (Some kept) ≡ Some what → kept.what ≡ what
some_known kept what is = cc

-- what is kept there is recorded as before, and besides the reference and what is known
grown-in : (at : ℕ) (what : What) (reference : Reference) (small big : Option Kept) (one : Record)
    → HasOneMore (references_in small) (references_in big) reference → what_in big ≡ Some what
    → (is_some small ≡ true → what_in small ≡ Some what)
    → recorded_in at big one
    ≡ (same_record one (ReferenceTo at reference)
    || (same_record one (record_known at what) || recorded_in at small one))
grown-in at what reference small None one more known before = absurd (none_known known)
  where
    none_known : what_in None ≡ Some what → ⊥
    none_known is = cc
grown-in at what reference None (Some big) one more known before =
    let mine = same_record one (ReferenceTo at reference) in
    let own = same_record one (record_known at what) in
    ap (λ (w : What). same_record one (record_known at w) || referenced at big.references one)
    (some_known big what known)
    ∙ ap (λ (b : Bool). own || b) (referenced-more at [] big.references reference one more)
    ∙ ap (λ (b : Bool). own || (mine || b)) (referenced-none at one)
    ∙ swap_first own mine false
grown-in at what reference (Some small) (Some big) one more known before =
    let mine = same_record one (ReferenceTo at reference) in
    let own = same_record one (record_known at what) in
    let rest = referenced at small.references one in
    ap (λ (w : What). same_record one (record_known at w) || referenced at big.references one)
    (some_known big what known)
    ∙ ap (λ (b : Bool). own || b) (referenced-more at small.references big.references reference one more)
    ∙ swap_twice own mine rest
    ∙ ap (λ (w : What). mine || (own || (same_record one (record_known at w) || rest)))
    (sym (some_known small what (before refl)))

off : (one other : Record) (at : ℕ) → place_of other ≡ at → place_of one ≢ at → same_record one other ≡ false
off one other at there apart =
    false_from_ne_true (same_record one other) (λ same. apart (ap place_of (same_record_is one other same) ∙ there))

-- a book that grew has its records, and besides the reference and what is known
pub grown : (small big : Book) (at : ℕ) (what : What) (reference : Reference) (one : Record)
    → Grows small big at what reference
    → recorded big one
    ≡ (same_record one (ReferenceTo at reference) || (same_record one (record_known at what) || recorded small one))
grown small big at what reference one grows = elim (cases_eq at (place_of one)) [
  | inl is ↦
      subst (λ (q : ℕ). recorded_in q (big q) one
      ≡ (same_record one (ReferenceTo at reference)
      || (same_record one (record_known at what) || recorded_in q (small q) one))) is
      (grown-in at what reference (small at) (big at) one grows.count grows.known grows.before)
  | inr apart ↦
      let q = place_of one in
      let far : q ≢ at = λ is. apart (sym is) in
      let not_mine = off one (ReferenceTo at reference) at refl far in
      let not_own = off one (record_known at what) at (known-place at what) far in
      ap (λ (o : Option Kept). recorded_in q o one) (grows.elsewhere q far)
      ∙ sym (or_first _ _ not_mine ∙ or_first _ _ not_own)
]

-- a mark changes no record
marked-in : (at : ℕ) (kept : Option Kept) (one : Record)
    → recorded_in at (option_map (λ (k : Kept). record k { full = true }) kept) one ≡ recorded_in at kept one
marked-in at None one = refl
marked-in at (Some kept) one = refl

pub marked : (old new : Book) (at : ℕ) (one : Record) → Marks old new at → recorded new one ≡ recorded old one
marked old new at one marks = elim (cases_eq at (place_of one)) [
  | inl is ↦
      subst (λ (q : ℕ). recorded_in q (new q) one ≡ recorded_in q (old q) one) is
      (ap (λ (o : Option Kept). recorded_in at o one) marks.there ∙ marked-in at (old at) one)
  | inr apart ↦
      ap (λ (o : Option Kept). recorded_in (place_of one) o one) (marks.elsewhere (place_of one) (λ is. apart (sym is)))
]

-- ---- which edits are such

added-before : (kept : Option Kept) (what : What) → is_some kept ≡ true
    → what_in kept ≡ Some (unwrap_or (what_in kept) what)
added-before None what some = absurd (true≢false (sym some))
added-before (Some kept) what some = refl

pub adds-grows : (old new : Book) (at : ℕ) (what : What) (reference : Reference) → Adds old new at what reference
    → Grows old new at (unwrap_or (what_in (old at)) what) reference
adds-grows old new at what reference added = record {
  count = added.count;
  known = added.known;
  before = λ some. added-before (old at) what some;
  elsewhere = added.elsewhere;
}

pub drops-grows : (old new : Book) (at : ℕ) (what : What) (reference : Reference) → Drops old new at reference
    → what_in (old at) ≡ Some what → Grows new old at what reference
drops-grows old new at what reference dropped known = record {
  count = dropped.count;
  known = known;
  before = λ some. dropped.known
      (λ none. true≢false (sym some ∙ ap (λ (o : Option Kept). is_some o) (dropped.gone none)))
      ∙ known;
  elsewhere = λ other apart. sym (dropped.elsewhere other apart);
}
