-- The items of a book weigh what their records do, each once, and no more than the records of a layout that it knows.
use Rattle.std.proofs.Common.{◌≡◌, ◌≢◌, ℕ, suc, ◌+◌, ◌<◌, Bool, true, false, List, [], ◌∷◌, ◌++◌, map, length, get_or}
use Rattle.std.proofs.Common.{refl, sym, ap, subst, ◌∙◌, arith, inl, inr}
use Rattle.std.specs.Prelude.{◌&&◌, ◌||◌, ◌==◌, Option, Some, None}
use Rattle.std.specs.List.{AllByRecursion, list_any, sum_by}
use Rattle.std.specs.Cmp.{ranked}
use Rattle.std.specs.List.Sorted.{IsStrictlySortedBy}
use Rattle.std.specs.Map.{keys_of}
use Rattle.std.specs.Ordering.{nat_cmp}
use Rattle.std.specs.declared.cmp.Ordering.TheVariants.{Less}
use Rattle.std.proofs.lemmas.Bool.{cases_Bool, cond-false, true≢false}
use Rattle.std.proofs.lemmas.Bool.Decides.{nat_tests}
use Rattle.std.proofs.lemmas.List.{map-append}
use Rattle.std.proofs.lemmas.List.Sums.{sum_by-append, sum_by-cons}
use Rattle.qg_node.specs.Nodes.{item_bytes, items_bytes}
use Rattle.qg_items.specs.declared.extent.ExtentItem.{ExtentItem}
use Rattle.qg_items.specs.declared.extent.Reference.{Reference}
use Rattle.qg_items.specs.declared.extent.Reference.TheVariants.{KeyedBlock, SharedBlock, KeyedData, SharedData}
use Rattle.qg_items.proofs.ExtentBodies.{length-data_ref_text, length-extent_text, length-shared_data_ref_text}
use Rattle.qg_image.specs.declared.part.ExtentPart.{ExtentPart}
use Rattle.qg_image.specs.declared.part.ExtentPart.TheVariants.{DataRecord, NodeRecord, Referenced}
use Rattle.qg_image.specs.Owed.{part_address}
use Rattle.qg_image.specs.Record.{Record, distinct_records, extent_record, record_bytes, records_bytes, same_record}
use Rattle.qg_image.specs.Record.{same_reference}
use Rattle.qg_image.specs.Record.Record.{ReferenceTo}
use Rattle.qg_refs.specs.declared.counted.Counted.{Counted}
use Rattle.qg_refs.specs.declared.kept.Kept.{Kept}
use Rattle.qg_refs.specs.Counts.{Ascend}
use Rattle.qg_refs.specs.Order.{precedes}
use Rattle.qg_refs.proofs.RankOrder.{precedes_differs}
use Rattle.qg_extents.specs.Written.{extent_of, item_of_record, item_of_reference, items_of_book, items_of_extent}
use Rattle.qg_extents.specs.Written.{items_of_references, number_behind, part_of, parts_of_book, parts_of_extent}
use Rattle.qg_extents.specs.Written.{record_item, record_of, record_part}

-- ---- what each item takes

reference_weighs : (at number : ℕ) (reference : Reference) (count : ℕ)
    → item_bytes (item_of_reference at number reference count) ≡ record_bytes (ReferenceTo at reference)
reference_weighs at number (KeyedBlock root) count = refl
reference_weighs at number (SharedBlock parent) count = refl
reference_weighs at number (KeyedData root ino offset) count =
    rw (length-data_ref_text (record { root = root; objectid = ino; offset = offset; count = count })) refl
reference_weighs at number (SharedData parent) count =
    rw (length-shared_data_ref_text (record { count = count })) refl

record_weighs : (at bytes : ℕ) (level : Option ℕ) (extent : ExtentItem)
    → item_bytes (record_item at bytes level extent)
    ≡ record_bytes (extent_record (record_part at bytes level extent))
record_weighs at bytes None extent = rw (length-extent_text extent) refl
record_weighs at bytes (Some level) extent = rw (length-extent_text extent) refl

-- what parts weigh
abbrev weight_of : List ExtentPart → ℕ
weight_of parts = sum_by record_bytes (map extent_record parts)

references_weigh : (at number : ℕ) (entries : List Counted)
    → items_bytes (items_of_references at number entries) ≡ weight_of (map (part_of at) entries)
references_weigh at number [] = refl
references_weigh at number (entry ∷ entries) =
    let later = number_behind number entry.reference in
    omega (
      arith,
      sum_by-cons item_bytes (item_of_reference at number entry.reference entry.count)
          (items_of_references at later entries),
      sum_by-cons record_bytes (ReferenceTo at entry.reference) (map extent_record (map (part_of at) entries)),
      reference_weighs at number entry.reference entry.count,
      references_weigh at later entries,
    )

extent_weighs : (entry : ℕ × Kept) → items_bytes (items_of_extent entry) ≡ weight_of (parts_of_extent entry)
extent_weighs entry =
    let kept = entry.1 in
    let references = map (part_of entry.0) kept.references in
    omega (
      arith,
      sum_by-cons item_bytes (item_of_record entry) (items_of_references entry.0 0 kept.references),
      sum_by-cons record_bytes (extent_record (record_of entry)) (map extent_record references),
      record_weighs entry.0 kept.what.bytes kept.what.level (extent_of kept),
      references_weigh entry.0 0 kept.references,
    )

weight-append : (front back : List ExtentPart) → weight_of (front ++ back) ≡ weight_of front + weight_of back
weight-append front back =
    ap (λ (records : List Record). sum_by record_bytes records) (map-append extent_record front back)
    ∙ sum_by-append record_bytes (map extent_record front) (map extent_record back)

pub book_weighs : (table : List (ℕ × Kept)) → items_bytes (items_of_book table) ≡ weight_of (parts_of_book table)
book_weighs [] = refl
book_weighs (entry ∷ table) =
    omega (
      arith,
      sum_by-append item_bytes (items_of_extent entry) (items_of_book table),
      weight-append (parts_of_extent entry) (parts_of_book table),
      extent_weighs entry,
      book_weighs table,
    )

-- ---- each record is there once

-- no record is that of a later one
abbrev pub Differ : List Record → Type 0
Differ [] = Unit {0}
Differ (first ∷ rest) = (list_any (same_record first) rest ≡ false) × Differ rest

pub distinct_kept : (records : List Record) → Differ records → distinct_records records ≡ records
distinct_kept [] differ = refl
distinct_kept (first ∷ rest) differ =
    cond-false (list_any (same_record first) rest) (distinct_records rest) (first ∷ distinct_records rest) differ.0
    ∙ ap (λ (records : List Record). first ∷ records) (distinct_kept rest differ.1)

and_false : (a b : Bool) → b ≡ false → (a && b) ≡ false
and_false true b h = h
and_false false b h = refl

other_address : (a b : ℕ) → a ≢ b → (a == b) ≡ false
other_address a b apart = grind (arith, nat_tests)

-- records at different addresses differ
far_apart : (p q : ExtentPart) → part_address p ≢ part_address q
    → same_record (extent_record p) (extent_record q) ≡ false
far_apart (DataRecord a bytes e) (DataRecord b bytes' e') apart = rw (other_address a b apart) refl
far_apart (DataRecord a bytes e) (NodeRecord b level e') apart = refl
far_apart (DataRecord a bytes e) (Referenced b reference count) apart = refl
far_apart (NodeRecord a level e) (DataRecord b bytes e') apart = refl
far_apart (NodeRecord a level e) (NodeRecord b level' e') apart = rw (other_address a b apart) refl
far_apart (NodeRecord a level e) (Referenced b reference count) apart = refl
far_apart (Referenced a reference count) (DataRecord b bytes e') apart = refl
far_apart (Referenced a reference count) (NodeRecord b level e') apart = refl
far_apart (Referenced a reference count) (Referenced b reference' count') apart = rw (other_address a b apart) refl

-- each of some parts is past an address
abbrev ArePast : ℕ → List ExtentPart → Type 0
ArePast at parts = AllByRecursion (λ part. at < part_address part) parts

none_far : (p : ExtentPart) (parts : List ExtentPart) → ArePast (part_address p) parts
    → list_any (same_record (extent_record p)) (map extent_record parts) ≡ false
none_far p [] past = refl
none_far p (q ∷ parts) past =
    rw (far_apart p q (λ is. omega (arith, is, past.0)), none_far p parts past.1) refl

any-append : (test : Record → Bool) (front back : List Record) → list_any test front ≡ false
    → list_any test back ≡ false
    → list_any test (front ++ back) ≡ false
any-append test [] back none none' = none'
any-append test (x ∷ front) back none none' = elim (cases_Bool (test x)) [
  | inl passes ↦ absurd (true≢false (sym (ap (λ (b : Bool). b || list_any test front) passes) ∙ none))
  | inr fails ↦
      let rest : list_any test front ≡ false = sym (ap (λ (b : Bool). b || list_any test front) fails) ∙ none in
      rw (fails, any-append test front back rest none') refl
]

-- parts at one address in front of others past it
differ-front : (at : ℕ) (here back : List ExtentPart) → AllByRecursion (λ part. part_address part ≡ at) here
    → ArePast at back → Differ (map extent_record here) → Differ (map extent_record back)
    → Differ (map extent_record (here ++ back))
differ-front at [] back are past first second = second
differ-front at (p ∷ here) back are past first second =
    let far = none_far p back (subst (λ (a : ℕ). ArePast a back) (sym are.0) past) in
    let joined = any-append (same_record (extent_record p)) (map extent_record here) (map extent_record back) first.0
    far in (
      subst (λ (records : List Record). list_any (same_record (extent_record p)) records ≡ false)
          (sym (map-append extent_record here back)) joined,
      differ-front at here back are.1 past first.1 second,
    )

later_ascend : (entry : Counted) (entries : List Counted) → Ascend (entry ∷ entries) → Ascend entries
later_ascend entry entries up = λ i j d below inside. up (suc i) (suc j) d (omega arith) (omega arith)

none_same : (at : ℕ) (x : Reference) (references : List Counted)
    → ((k : ℕ) (d : Counted) → k < length references → precedes x (get_or references k d).reference ≡ true)
    → list_any (same_record (ReferenceTo at x)) (map extent_record (map (part_of at) references)) ≡ false
none_same at x [] before = refl
none_same at x (entry ∷ references) before =
    let first : same_record (ReferenceTo at x) (ReferenceTo at entry.reference) ≡ false =
    and_false (at == at) (same_reference x entry.reference)
    (precedes_differs x entry.reference (before 0 entry (omega arith))) in
    rw (first, none_same at x references (λ k d inside. before (suc k) d (omega (arith, inside)))) refl

references_differ : (at : ℕ) (references : List Counted) → Ascend references
    → Differ (map extent_record (map (part_of at) references))
references_differ at [] up = tt
references_differ at (entry ∷ references) up = (
  none_same at entry.reference references (λ k d inside. up 0 (suc k) d (omega arith) (omega (arith, inside))),
  references_differ at references (later_ascend entry references up),
)

record_differs : (at bytes : ℕ) (level : Option ℕ) (extent : ExtentItem) (references : List Counted)
    → list_any (same_record (extent_record (record_part at bytes level extent)))
    (map extent_record (map (part_of at) references))
    ≡ false
record_differs at bytes None extent [] = refl
record_differs at bytes (Some level) extent [] = refl
record_differs at bytes None extent (entry ∷ references) = record_differs at bytes None extent references
record_differs at bytes (Some level) extent (entry ∷ references) =
    record_differs at bytes (Some level) extent references

extent_differs : (entry : ℕ × Kept) → Ascend entry.1.references → Differ (map extent_record (parts_of_extent entry))
extent_differs entry up = (
  record_differs entry.0 entry.1.what.bytes entry.1.what.level (extent_of entry.1) entry.1.references,
  references_differ entry.0 entry.1.references up,
)

record_at : (at bytes : ℕ) (level : Option ℕ) (extent : ExtentItem)
    → part_address (record_part at bytes level extent) ≡ at
record_at at bytes None extent = refl
record_at at bytes (Some level) extent = refl

references_at : (at : ℕ) (references : List Counted)
    → AllByRecursion (λ part. part_address part ≡ at) (map (part_of at) references)
references_at at [] = tt
references_at at (entry ∷ references) = (refl, references_at at references)

extent_at : (entry : ℕ × Kept) → AllByRecursion (λ part. part_address part ≡ entry.0) (parts_of_extent entry)
extent_at entry = (
  record_at entry.0 entry.1.what.bytes entry.1.what.level (extent_of entry.1),
  references_at entry.0 entry.1.references,
)

past-append : (low at : ℕ) (here back : List ExtentPart) → low < at
    → AllByRecursion (λ part. part_address part ≡ at) here → ArePast low back → ArePast low (here ++ back)
past-append low at [] back less are past = past
past-append low at (p ∷ here) back less are past =
    (omega (arith, less, are.0), past-append low at here back less are.1 past)

book_past : (low : ℕ) (table : List (ℕ × Kept)) → AllByRecursion (λ y. nat_cmp low y ≡ Less) (keys_of table)
    → ArePast low (parts_of_book table)
book_past low [] all = tt
book_past low (entry ∷ table) all =
    past-append low entry.0 (parts_of_extent entry) (parts_of_book table) (ranked low entry.0 Less (sym all.0))
    (extent_at entry) (book_past low table all.1)

-- the references of each entry ascend
abbrev pub EachAscends : List (ℕ × Kept) → Type 0
EachAscends table = AllByRecursion (λ entry. Ascend entry.1.references) table

pub book_differs : (table : List (ℕ × Kept)) → IsStrictlySortedBy nat_cmp (keys_of table) → EachAscends table
    → Differ (map extent_record (parts_of_book table))
unfolding IsStrictlySortedBy
book_differs [] ascend each = tt
book_differs (entry ∷ table) ascend each =
    differ-front entry.0 (parts_of_extent entry) (parts_of_book table) (extent_at entry)
    (book_past entry.0 table ascend.0)
    (extent_differs entry each.0) (book_differs table ascend.1 each.1)

pub records_weigh : (table : List (ℕ × Kept)) → IsStrictlySortedBy nat_cmp (keys_of table) → EachAscends table
    → items_bytes (items_of_book table) ≡ records_bytes (map extent_record (parts_of_book table))
records_weigh table ascend each =
    book_weighs table
    ∙ ap (λ (records : List Record). sum_by record_bytes records)
    (sym (distinct_kept (map extent_record (parts_of_book table)) (book_differs table ascend each)))
