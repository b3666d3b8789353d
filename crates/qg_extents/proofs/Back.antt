-- What the items of a table say is read as the same table.
use Rattle.std.proofs.Common.{◌≡◌, ◌≢◌, ℕ, suc, ◌≤◌, ◌<◌, Bool, true, false, List, [], ◌∷◌, ◌++◌, map, length, get_or}
use Rattle.std.proofs.Common.{refl, sym, ap, subst, ◌∙◌, arith, inl, inr, append-nil}
use Rattle.std.specs.Prelude.{Option, Some, None, ◌==◌, ◌&&◌, All, cond, if◌then◌else◌, nat_lt, nat_le, IfSome}
use Rattle.std.specs.BTreeMap.{is_at}
use Rattle.std.specs.Cmp.{ranked}
use Rattle.std.specs.List.{AllByRecursion, filter, list_all, list_any}
use Rattle.std.specs.List.Sorted.{IsStrictlySortedBy}
use Rattle.std.specs.Map.{keys_of}
use Rattle.std.specs.Option.{option_and_then}
use Rattle.std.specs.Ordering.{nat_cmp}
use Rattle.std.specs.declared.cmp.Ordering.TheVariants.{Less}
use Rattle.std.proofs.lemmas.Bool.{cases_Bool, eq-eqb, lt-ltb}
use Rattle.std.proofs.lemmas.Bool.Decides.{nat_tests}
use Rattle.std.proofs.lemmas.List.Sums.{sum_by-cons}
use Rattle.std.proofs.lemmas.List.Elements.{All-from_recursion, recursion_from_All}
use Rattle.std.proofs.lemmas.List.Kept.{AllPairs-cons}
use Rattle.std.proofs.lemmas.Map.Entries.{All-lookup}
use Rattle.qg_items.specs.declared.extent.ExtentItem.{ExtentItem}
use Rattle.qg_items.specs.declared.extent.Reference.{Reference}
use Rattle.qg_tree_items.specs.Types.{ExtentPart}
use Rattle.qg_tree_items.specs.ItemMeaning.{some_passes}
use Rattle.qg_tree_items.specs.Owed.{is_record, is_told_once, part_address}
use Rattle.qg_tree_items.specs.Record.{same_reference}
use Rattle.qg_refs.specs.declared.counted.Counted.{Counted}
use Rattle.qg_refs.specs.declared.kept.Kept.{Kept}
use Rattle.qg_refs.specs.Book.{references_in, full_in, what_in}
use Rattle.qg_refs.specs.Counts.{Ascend, count_of, counted, greatest_count}
use Rattle.qg_refs.specs.Order.{precedes}
use Rattle.qg_refs.proofs.Counting.{count-nil}
use Rattle.qg_refs.proofs.RankOrder.{precedes_differs}
use Rattle.qg_extents.specs.Table.{book_of, IsTable, MayKeep}
use Rattle.qg_extents.specs.Written.{extent_of, part_of, parts_of_book, parts_of_extent, record_flags, record_of}
use Rattle.qg_extents.specs.Written.{record_part, refs_of}
use Rattle.qg_extents.specs.BookRecords.{AreInOrder, IsTold, is_count, is_entry, is_sound_record, parts_at}
use Rattle.qg_extents.specs.BookRecords.{records_failure}
use Rattle.qg_extents.specs.BookRecords.{refs_told, tells_full, the_record, told_count, told_in, told_sum, what_told}
use Rattle.qg_extents.specs.Laws.{IsReadable}
use Rattle.qg_extents.proofs.Records.{AreApart, AreAt, HaveEntries, both_entries, new_entries, parts_at-apart}
use Rattle.qg_extents.proofs.Records.{parts_at-append, parts_at-here, records_failure-none}
use Rattle.qg_extents.proofs.Sayable.{counts_at, entry-found, entry-may}

-- ---- the parts at an address

record_at : (at bytes : ℕ) (level : Option ℕ) (extent : ExtentItem)
    → part_address (record_part at bytes level extent) ≡ at
record_at at bytes None extent = refl
record_at at bytes (Some level) extent = refl

references_at' : (at : ℕ) (references : List Counted) → AreAt at (map (part_of at) references)
references_at' at [] = tt
references_at' at (entry ∷ references) = (refl, references_at' at references)

extent_at : (entry : ℕ × Kept) → AreAt entry.0 (parts_of_extent entry)
extent_at entry = (
  record_at entry.0 entry.1.what.bytes entry.1.what.level
      (extent_of entry.1),
  references_at' entry.0 entry.1.references,
)

apart_of : (at q : ℕ) (parts : List ExtentPart) → q ≢ at → AreAt at parts → AreApart q parts
apart_of at q [] apart are = tt
apart_of at q (part ∷ parts) apart are = (λ is. apart (sym is ∙ are.0), apart_of at q parts apart are.1)

-- an address is below each of a table
abbrev IsBelow : ℕ → List (ℕ × Kept) → Type 0
IsBelow at [] = Unit {0}
IsBelow at (entry ∷ table) = (at < entry.0) × IsBelow at table

below_from : (at : ℕ) (table : List (ℕ × Kept)) → AllByRecursion (λ y. nat_cmp at y ≡ Less) (keys_of table)
    → IsBelow at table
below_from at [] all = tt
below_from at (entry ∷ table) all = (ranked at entry.0 Less (sym all.0), below_from at table all.1)

none_below : (at : ℕ) (table : List (ℕ × Kept)) → IsBelow at table → parts_at (parts_of_book table) at ≡ []
none_below at [] below = refl
none_below at (entry ∷ table) below =
    parts_at-append at (parts_of_extent entry) (parts_of_book table)
    ∙ rw (
      parts_at-apart at (parts_of_extent entry) (apart_of entry.0 at (parts_of_extent entry)
          (λ is. omega (arith, is, below.0)) (extent_at entry)),
      none_below at table below.1,
    ) refl

abbrev parts_of_kept : ℕ → Option Kept → List ExtentPart
parts_of_kept at None = []
parts_of_kept at (Some kept) = parts_of_extent (at, kept)

at_test : (q at : ℕ) → is_at (nat_cmp q) at ≡ (q == at)
at_test q at = grind (arith, nat_tests)

eqb_is : (a b : ℕ) → (a == b) ≡ true → a ≡ b
eqb_is a b h = grind (arith, nat_tests)

eqb_apart : (a b : ℕ) → (a == b) ≡ false → a ≢ b
eqb_apart a b h = grind (arith, nat_tests)

parts_at-first : (entry : ℕ × Kept) (table : List (ℕ × Kept)) → IsBelow entry.0 table
    → parts_at (parts_of_book (entry ∷ table)) entry.0 ≡ parts_of_extent entry
parts_at-first entry table below =
    parts_at-append entry.0 (parts_of_extent entry) (parts_of_book table)
    ∙ ap (λ (front : List ExtentPart). front ++ parts_at (parts_of_book table) entry.0)
    (parts_at-here entry.0 (parts_of_extent entry) (extent_at entry))
    ∙ ap (λ (back : List ExtentPart). parts_of_extent entry ++ back) (none_below entry.0 table below)
    ∙ append-nil (parts_of_extent entry)

parts_at-later : (entry : ℕ × Kept) (table : List (ℕ × Kept)) (q : ℕ) → q ≢ entry.0
    → parts_at (parts_of_book (entry ∷ table)) q ≡ parts_at (parts_of_book table) q
parts_at-later entry table q apart =
    parts_at-append q (parts_of_extent entry) (parts_of_book table)
    ∙ ap (λ (front : List ExtentPart). front ++ parts_at (parts_of_book table) q)
    (parts_at-apart q (parts_of_extent entry) (apart_of entry.0 q (parts_of_extent entry) apart (extent_at entry)))

-- the parts at an address are those of what is kept there
pub parts_at-book : (table : List (ℕ × Kept)) (q : ℕ) → IsStrictlySortedBy nat_cmp (keys_of table)
    → parts_at (parts_of_book table) q ≡ parts_of_kept q (book_of table q)
unfolding IsStrictlySortedBy
parts_at-book [] q ascend = refl
parts_at-book (entry ∷ table) q ascend = elim (cases_Bool (q == entry.0)) [
  | inl same ↦
      let is : q ≡ entry.0 = eqb_is q entry.0 same in
      ap (λ (p : ℕ). parts_at (parts_of_book (entry ∷ table)) p) is
      ∙ parts_at-first entry table (below_from entry.0 table ascend.0)
      ∙ ap (λ (p : ℕ). parts_of_extent (p, entry.1)) (sym is)
      ∙ ap (λ (b : Bool). parts_of_kept q (cond b (Some entry.1) (book_of table q))) (sym (at_test q entry.0 ∙ same))
  | inr differs ↦
      parts_at-later entry table q (eqb_apart q entry.0 differs) ∙ parts_at-book table q ascend.1
      ∙ ap (λ (b : Bool). parts_of_kept q (cond b (Some entry.1) (book_of table q))) (sym (at_test q entry.0 ∙ differs))
]

-- ---- what they tell

abbrev pair_of : Counted → Reference × ℕ
pair_of entry = (entry.reference, entry.count)

told_references : (at : ℕ) (references : List Counted) → told_in (map (part_of at) references) ≡ map pair_of references
told_references at [] = refl
told_references at (entry ∷ references) = ap (λ (told : List (Reference × ℕ)). pair_of entry ∷ told)
    (told_references at references)

told_record : (at bytes : ℕ) (level : Option ℕ) (extent : ExtentItem) (parts : List ExtentPart)
    → told_in (record_part at bytes level extent ∷ parts) ≡ told_in parts
told_record at bytes None extent parts = refl
told_record at bytes (Some level) extent parts = refl

told_extent : (entry : ℕ × Kept) → told_in (parts_of_extent entry) ≡ map pair_of entry.1.references
told_extent entry =
    told_record entry.0 entry.1.what.bytes entry.1.what.level (extent_of entry.1)
    (map (part_of entry.0) entry.1.references) ∙ told_references entry.0 entry.1.references

no_records : (at : ℕ) (references : List Counted) → filter is_record (map (part_of at) references) ≡ []
no_records at [] = refl
no_records at (entry ∷ references) = no_records at references

record_first : (at bytes : ℕ) (level : Option ℕ) (extent : ExtentItem) (parts : List ExtentPart)
    → filter is_record parts ≡ [] → the_record (record_part at bytes level extent ∷ parts) ≡ Some
    (record_part at bytes level extent)
record_first at bytes None extent parts none = rw none refl
record_first at bytes (Some level) extent parts none = rw none refl

record_extent : (entry : ℕ × Kept) → the_record (parts_of_extent entry) ≡ Some (record_of entry)
record_extent entry = record_first entry.0 entry.1.what.bytes entry.1.what.level (extent_of entry.1)
    (map (part_of entry.0) entry.1.references) (no_records entry.0 entry.1.references)

sum_pairs : (references : List Counted) → told_sum (map pair_of references) ≡ refs_of references
sum_pairs [] = refl
sum_pairs (entry ∷ references) =
    omega (
      arith,
      sum_by-cons (λ (e : Reference × ℕ). e.1) (pair_of entry) (map pair_of references),
      sum_by-cons
          (λ (e : Counted). e.count) entry references,
      sum_pairs references,
    )

count_pairs : (references : List Counted) (x : Reference)
    → count_of references x ≡ told_count (map pair_of references) x
unfolding count_of
count_pairs [] x = refl
count_pairs (entry ∷ references) x =
    omega (
      arith,
      sum_by-cons (counted x) entry references,
      sum_by-cons
          (λ (e : Reference × ℕ). if same_reference x e.0 then e.1 else 0) (pair_of entry)
          (map pair_of references),
      count_pairs references x,
    )

-- ---- they are what a book may have

later_ascend : (entry : Counted) (entries : List Counted) → Ascend (entry ∷ entries) → Ascend entries
later_ascend entry entries up = λ i j d below inside. up (suc i) (suc j) d (omega arith) (omega arith)

none_same : (x : Reference) (references : List Counted)
    → ((k : ℕ) (d : Counted) → k < length references → precedes x (get_or references k d).reference ≡ true)
    → list_any (λ (other : Reference × ℕ). same_reference x other.0) (map pair_of references) ≡ false
none_same x [] before = refl
none_same x (entry ∷ references) before =
    rw (
      precedes_differs x entry.reference (before 0 entry (omega arith)),
      none_same x references
          (λ k d inside. before (suc k) d (omega (arith, inside))),
    ) refl

told_once : (references : List Counted) → Ascend references → is_told_once (map pair_of references) ≡ true
told_once [] up = refl
told_once (entry ∷ references) up =
    rw (
      none_same entry.reference references (λ k d inside. up 0 (suc k) d (omega arith) (omega (arith, inside))),
      told_once references (later_ascend entry references up),
    ) refl

all_counts : (references : List Counted) → AllByRecursion
    (λ e. (0 < e.count) × (e.count ≤ greatest_count e.reference)) references
    → list_all is_count (map pair_of references) ≡ true
all_counts [] are = refl
all_counts (entry ∷ references) are = rw (
  is entry.count
      (greatest_count entry.reference) are.0.0 are.0.1,
  all_counts references are.1,
) refl
  where
    is : (n most : ℕ) → 0 < n → n ≤ most → (nat_lt 0 n && nat_le n most) ≡ true
    is n most some fitting = grind (arith, nat_tests)

some_pairs : (references : List Counted) → 0 < length references → nat_lt 0 (length (map pair_of references)) ≡ true
some_pairs [] some = absurd (omega (arith, some))
some_pairs (entry ∷ references) some = grind (arith, nat_tests)

record_sound : (nodesize : ℕ) (kept : Kept) (at bytes : ℕ) (level : Option ℕ) (refs generation : ℕ)
    → kept.what.level ≡ level → IsReadable nodesize kept
    → (is_sound_record (record_part at bytes level (record
    { refs = refs; generation = generation; flags = record_flags level kept.full }))
    && (refs_told (record_part at bytes level (record {
      refs = refs;
      generation = generation;
      flags = record_flags level
          kept.full;
    })) == refs)) ≡ true
record_sound nodesize kept at bytes None refs generation is readable = rw (eq-eqb refs refs refl) refl
record_sound nodesize kept at bytes (Some level) refs generation is readable = by kept.full
  where
    low : nat_lt level 256 ≡ true
    low = lt-ltb level 256 (readable.low level is)

    by : (full : Bool) → (is_sound_record (record_part at bytes (Some level)
        (record { refs = refs; generation = generation; flags = record_flags (Some level) full })) && (refs == refs)) ≡
        true
    by true = rw (low, eq-eqb refs refs refl) refl
    by false = rw (low, eq-eqb refs refs refl) refl

pub entry-sound : (nodesize : ℕ) (entry : ℕ × Kept) → MayKeep (Some entry.1) → IsReadable nodesize entry.1
    → is_entry (parts_of_extent entry) ≡ true
unfolding is_entry
entry-sound nodesize entry may readable =
    let kept = entry.1 in
    let counts = recursion_from_All (λ (e : Counted). (0 < e.count) × (e.count ≤ greatest_count e.reference))
    kept.references (λ i d inside. (may.sound.some i d inside, counts_at kept may i d inside)) in
    rw (
      told_extent entry,
      record_extent entry,
      some_pairs kept.references
          (may.some kept refl),
      told_once kept.references may.sound.ascend,
      all_counts kept.references counts,
      sum_pairs
          kept.references,
    )
    (record_sound nodesize kept entry.0 kept.what.bytes kept.what.level
    (refs_of kept.references) kept.what.generation refl readable)

-- ---- all of them

-- a table keeps each of these entries, and their records say all
abbrev IsKept : ℕ → List (ℕ × Kept) → ℕ × Kept → Type 0
IsKept nodesize table entry = (book_of table entry.0 ≡ Some entry.1)
    × (MayKeep (Some entry.1) × IsReadable nodesize entry.1)

have_entries : (nodesize : ℕ) (table some : List (ℕ × Kept)) → IsStrictlySortedBy nat_cmp (keys_of table)
    → AllByRecursion (IsKept nodesize table) some
    → HaveEntries (parts_of_book table) (parts_of_book some)
have_entries nodesize table [] ascend are = tt
have_entries nodesize table (entry ∷ some) ascend are =
    let there : parts_at (parts_of_book table) entry.0 ≡ parts_of_extent entry = parts_at-book table entry.0 ascend
    ∙ ap (parts_of_kept entry.0) are.0.0 in
    both_entries (parts_of_book table) (parts_of_extent entry) (parts_of_book some)
    (new_entries entry.0 (parts_of_book table) (parts_of_extent entry) (extent_at entry)
    (ap is_entry there ∙ entry-sound nodesize entry are.0.1.0 are.0.1.1))
    (have_entries nodesize table some ascend are.1)

all_kept : (nodesize : ℕ) (table : List (ℕ × Kept)) → IsTable table → All (λ entry. IsReadable nodesize entry.1) table
    → AllByRecursion (IsKept nodesize table) table
all_kept nodesize table is readable =
    recursion_from_All (IsKept nodesize table) table (λ i d inside.
    (entry-found table i d is.ascend inside, (entry-may table i d is inside, readable i d inside)))

pub book-sound : (nodesize : ℕ) (table : List (ℕ × Kept)) → IsTable table
    → All (λ entry. IsReadable nodesize entry.1) table → records_failure (parts_of_book table) ≡ None
book-sound nodesize table is readable =
    records_failure-none (parts_of_book table) (have_entries nodesize table table is.ascend
    (all_kept nodesize table is readable))

-- ---- what is told back

what_back : (nodesize at : ℕ) (kept : Kept) (level : Option ℕ) (extent : ExtentItem) → kept.what.level ≡ level
    → extent.generation ≡ kept.what.generation → IsReadable nodesize kept
    → Some kept.what ≡ what_told nodesize (record_part at kept.what.bytes level extent)
what_back nodesize at kept None extent is made readable = λ i. Some
    (record { bytes = kept.what.bytes; level = is i; generation = sym made i })
what_back nodesize at kept (Some level) extent is made readable = λ i. Some
    (record { bytes = readable.node level is i; level = is i; generation = sym made i })

full_back : (nodesize at bytes : ℕ) (kept : Kept) (level : Option ℕ) (extent : ExtentItem) → kept.what.level ≡ level
    → extent.flags ≡ record_flags level kept.full → IsReadable nodesize kept
    → kept.full ≡ tells_full (record_part at bytes level extent)
full_back nodesize at bytes kept None extent is flags readable = readable.extent is
full_back nodesize at bytes kept (Some level) extent is flags readable = rw flags (by kept.full)
  where
    by : (full : Bool) → full ≡ (record_flags (Some level) full == 258)
    by true = refl
    by false = refl

told_back : (nodesize at : ℕ) (kept : Option Kept) → ((there : Kept) → kept ≡ Some there → IsReadable nodesize there)
    → (what_in kept ≡ option_and_then (what_told nodesize) (the_record (parts_of_kept at kept)))
    × ((full_in kept ≡ some_passes tells_full (the_record (parts_of_kept at kept)))
    × ((x : Reference) → count_of (references_in kept) x ≡ told_count (told_in (parts_of_kept at kept)) x))
told_back nodesize at None readable = (refl, (refl, λ x. count-nil x))
told_back nodesize at (Some kept) readable =
    let entry : ℕ × Kept = (at, kept) in (
      rw (record_extent entry) (what_back nodesize at kept kept.what.level (extent_of kept) refl refl
          (readable kept refl)),
      (
        rw (record_extent entry) (full_back nodesize at kept.what.bytes kept kept.what.level (extent_of kept) refl refl
            (readable kept refl)),
        λ x. count_pairs kept.references x ∙ ap (λ (told : List (Reference × ℕ)). told_count told x)
            (sym (told_extent entry)),
      ),
    )

readable_at : (nodesize : ℕ) (table : List (ℕ × Kept)) → All (λ entry. IsReadable nodesize entry.1) table
    → (q : ℕ) (there : Kept) → book_of table q ≡ Some there → IsReadable nodesize there
readable_at nodesize table readable q there is =
    let found = All-lookup (IsReadable nodesize) (is_at (nat_cmp q)) table readable in
    subst (λ (o : Option Kept). IfSome o (IsReadable nodesize)) is found

pub book-told : (nodesize : ℕ) (table : List (ℕ × Kept)) → IsTable table
    → All (λ entry. IsReadable nodesize entry.1) table → IsTold nodesize (parts_of_book table) (book_of table)
book-told nodesize table is readable =
    let back = λ (q : ℕ). told_back nodesize q (book_of table q) (readable_at nodesize table readable q) in
    record {
      what = λ q. (back q).0 ∙ ap (λ (parts : List ExtentPart). option_and_then (what_told nodesize) (the_record parts))
          (sym (parts_at-book table q is.ascend));
      full = λ q. (back q).1.0 ∙ ap (λ (parts : List ExtentPart). some_passes tells_full (the_record parts))
          (sym (parts_at-book table q is.ascend));
      count = λ q x. (back q).1.1 x ∙ ap (λ (parts : List ExtentPart). told_count (told_in parts) x)
          (sym (parts_at-book table q is.ascend));
    }

-- ---- they stand by address

-- an address is no greater than those of parts
abbrev AreAbove : ℕ → List ExtentPart → Type 0
AreAbove at [] = Unit {0}
AreAbove at (part ∷ parts) = (at ≤ part_address part) × AreAbove at parts

above_at : (low at : ℕ) (here rest : List ExtentPart) → low ≤ at → AreAt at here → AreAbove low rest
    → AreAbove low (here ++ rest)
above_at low at [] rest under are above = above
above_at low at (part ∷ here) rest under are above = (
  omega
      (arith, under, are.0),
  above_at low at here rest under are.1 above,
)

above_book : (low : ℕ) (table : List (ℕ × Kept)) → IsBelow low table → AreAbove low (parts_of_book table)
above_book low [] below = tt
above_book low (entry ∷ table) below = above_at low entry.0 (parts_of_extent entry) (parts_of_book table)
    (omega (arith, below.0)) (extent_at entry) (above_book low table below.1)

above_all : (part : ExtentPart) (at : ℕ) (parts : List ExtentPart) → part_address part ≡ at → AreAbove at parts
    → AllByRecursion (λ later. part_address part ≤ part_address later) parts
above_all part at [] is above = tt
above_all part at (later ∷ parts) is above = (omega (arith, is, above.0), above_all part at parts is above.1)

order_at : (at : ℕ) (here rest : List ExtentPart) → AreAt at here → AreAbove at rest → AreInOrder rest
    → AreInOrder (here ++ rest)
order_at at [] rest are above order = order
order_at at (part ∷ here) rest are above order =
    AllPairs-cons (λ (a b : ExtentPart). part_address a ≤ part_address b) part (here ++ rest)
    (All-from_recursion _ (here ++ rest) (above_all part at (here ++ rest) are.0
    (above_at at at here rest (omega arith) are.1 above)))
    (order_at at here rest are.1 above order)

pub book-ordered : (table : List (ℕ × Kept)) → IsStrictlySortedBy nat_cmp (keys_of table)
    → AreInOrder (parts_of_book table)
unfolding IsStrictlySortedBy
book-ordered [] ascend = λ i j d below inside. absurd (omega (arith, inside))
book-ordered (entry ∷ table) ascend =
    order_at entry.0 (parts_of_extent entry) (parts_of_book table) (extent_at entry)
    (above_book entry.0 table (below_from entry.0 table ascend.0)) (book-ordered table ascend.1)
