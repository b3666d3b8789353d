-- What readers keep of parts that they have taken.
use Rattle.std.proofs.Common.{Option, Some, None, ◌≡◌, ℕ, ◌+◌, true, false, Bool, List, [], ◌∷◌, ◌++◌, refl, sym, ap}
use Rattle.std.proofs.Common.{subst, ◌∙◌, append-nil, arith}
use Rattle.std.specs.Prelude.{not, cond, filter, if◌then◌else◌}
use Rattle.std.specs.List.{cons_option, filter_map, fold, list_any}
use Rattle.std.proofs.lemmas.Bool.{and_parts, not-true, or_parts}
use Rattle.std.proofs.lemmas.List.{append_assoc}
use Rattle.std.proofs.lemmas.List.Sums.{sum_by-cons}
use Rattle.qg_node.specs.declared.item.Item.{Item}
use Rattle.qg_items.specs.declared.extent.Reference.{Reference}
use Rattle.qg_items.specs.declared.extent.Reference.TheVariants.{KeyedBlock, SharedBlock, KeyedData, SharedData}
use Rattle.qg_tree_items.specs.ItemMeaning.{extent_part}
use Rattle.qg_tree_items.specs.Owed.{is_record, is_told_once}
use Rattle.qg_tree_items.specs.Record.{same_reference}
use Rattle.qg_tree_items.specs.Types.{ExtentPart}
use Rattle.qg_tree_items.specs.Types.{DataRecord, NodeRecord, Referenced}
use Rattle.qg_refs.proofs.RankOrder.{same_reference_is}
use Rattle.qg_extents.specs.BookRecords.{the_only, told_count, told_in}
use Rattle.qg_extent_read.specs.declared.counting.Counting.{Counting}
use Rattle.qg_extent_read.specs.declared.heads.Records.{Records}
use Rattle.qg_extent_read.specs.declared.heads.Records.TheVariants.{Nothing, One, Several}
use Rattle.qg_extent_read.specs.Kept.{by_part, one_more, only_of, with_count, with_part, with_record}
use Rattle.qg_extent_read.proofs.Told.{may_tell}

-- ---- what items say

part_next : {R : Type 0} (step : R → ExtentPart → R) (reader : R) (o : Option ExtentPart) (parts : List ExtentPart)
    → fold step (by_part step reader o) parts ≡ fold step reader (cons_option o parts)
part_next step reader None parts = refl
part_next step reader (Some part) parts = refl

-- a reader that takes items by what they say has taken these parts
pub fold-parts : {R : Type 0} (step : R → ExtentPart → R) (reader : R) (items : List Item)
    → fold (λ (r : R) (item : Item). by_part step r (extent_part item)) reader items
    ≡ fold step reader (filter_map extent_part items)
fold-parts step reader [] = refl
fold-parts step reader (item ∷ items) =
    fold-parts step (by_part step reader (extent_part item)) items
    ∙ part_next step reader (extent_part item) (filter_map extent_part items)

-- ---- all of them

pub fold-push : (before parts : List ExtentPart) → fold with_part before parts ≡ before ++ parts
fold-push before [] = sym (append-nil before)
fold-push before (part ∷ parts) = fold-push (before ++ part ∷ []) parts ∙ append_assoc before (part ∷ []) parts

-- ---- records

abbrev records_of : List ExtentPart → Records
records_of [] = Nothing
records_of (part ∷ []) = One part
records_of (part ∷ other ∷ others) = Several

only_records : (parts : List ExtentPart) → only_of (records_of parts) ≡ the_only parts
only_records [] = refl
only_records (part ∷ []) = refl
only_records (part ∷ other ∷ others) = refl

record_more : (parts : List ExtentPart) (part : ExtentPart)
    → one_more (records_of parts) part ≡ records_of (parts ++ part ∷ [])
record_more [] part = refl
record_more (first ∷ []) part = refl
record_more (first ∷ other ∷ others) part = refl

record_next : (before : List ExtentPart) (part : ExtentPart) (parts : List ExtentPart)
    → ((front : List ExtentPart)
    → fold with_record (records_of front) parts ≡ records_of (front ++ filter is_record parts)) → (b : Bool)
    → fold with_record (cond b (one_more (records_of before) part) (records_of before)) parts
    ≡ records_of (before ++ cond b (part ∷ filter is_record parts) (filter is_record parts))
record_next before part parts rest true =
    ap (λ (records : Records). fold with_record records parts) (record_more before part)
    ∙ rest (before ++ part ∷ [])
    ∙ ap records_of (append_assoc before (part ∷ []) (filter is_record parts))
record_next before part parts rest false = rest before

fold_records : (before parts : List ExtentPart)
    → fold with_record (records_of before) parts ≡ records_of (before ++ filter is_record parts)
fold_records before [] = ap records_of (sym (append-nil before))
fold_records before (part ∷ parts) =
    record_next before part parts (λ front. fold_records front parts) (is_record part)

again_more : (part : ExtentPart) (parts : List ExtentPart)
    → filter is_record parts ≡ parts → (b : Bool) → is_record part ≡ b
    → filter is_record (cond b (part ∷ parts) parts) ≡ cond b (part ∷ parts) parts
again_more part parts rest true is = rw is (ap (λ (xs : List ExtentPart). part ∷ xs) rest)
again_more part parts rest false is = rest

filter_again : (parts : List ExtentPart) → filter is_record (filter is_record parts) ≡ filter is_record parts
filter_again [] = refl
filter_again (part ∷ parts) =
    again_more part (filter is_record parts) (filter_again parts) (is_record part) refl

-- of records that are taken the only one is kept
pub only-taken : (told : List ExtentPart)
    → only_of (fold with_record Nothing (filter is_record told)) ≡ the_only (filter is_record told)
only-taken told =
    ap only_of (fold_records [] (filter is_record told)) ∙ only_records (filter is_record (filter is_record told))
    ∙ ap the_only (filter_again told)

-- ---- counts

count_stays : (counting : Counting) (part : ExtentPart) → (with_count counting part).reference ≡ counting.reference
count_stays counting (DataRecord address bytes extent) = refl
count_stays counting (NodeRecord address level extent) = refl
count_stays counting (Referenced address reference count) = here (same_reference counting.reference reference) where
  here : (b : Bool) → (if b then record counting { count = count } else counting).reference ≡ counting.reference
  here true = refl
  here false = refl

not_may : (reference other : Reference) → may_tell reference (Referenced 0 other 0) ≡ false
    → same_reference reference other ≡ false
not_may (KeyedBlock root) other h = h
not_may (SharedBlock parent) other h = h
not_may (SharedData parent) other h = h
not_may (KeyedData root ino offset) (KeyedBlock root') h = refl
not_may (KeyedData root ino offset) (SharedBlock parent') h = refl
not_may (KeyedData root ino offset) (SharedData parent') h = refl
not_may (KeyedData root ino offset) (KeyedData root' ino' offset') h = absurd cc

count_other : (counting : Counting) (part : ExtentPart) → may_tell counting.reference part ≡ false
    → with_count counting part ≡ counting
count_other counting (DataRecord address bytes extent) h = refl
count_other counting (NodeRecord address level extent) h = refl
count_other counting (Referenced address reference count) h =
    rw (not_may counting.reference reference h) refl

may_more : (reference : Reference) (counting : Counting) (part : ExtentPart) (parts : List ExtentPart)
    → counting.reference ≡ reference
    → ((other : Counting) → other.reference ≡ reference
    → fold with_count other (filter (may_tell reference) parts) ≡ fold with_count other parts) → (b : Bool)
    → may_tell reference part ≡ b
    → fold with_count counting (cond b (part ∷ filter (may_tell reference) parts) (filter (may_tell reference) parts))
    ≡ fold with_count (with_count counting part) parts
may_more reference counting part parts is rest true may =
    rest (with_count counting part) (count_stays counting part ∙ is)
may_more reference counting part parts is rest false may =
    rest counting is
    ∙ ap (λ (c : Counting). fold with_count c parts) (sym (count_other counting part
    (ap (λ (r : Reference). may_tell r part) is ∙ may)))

fold_may : (reference : Reference) (counting : Counting) (parts : List ExtentPart) → counting.reference ≡ reference
    → fold with_count counting (filter (may_tell reference) parts) ≡ fold with_count counting parts
fold_may reference counting [] is = refl
fold_may reference counting (part ∷ parts) is =
    may_more reference counting part parts is (λ other same. fold_may reference other parts same)
    (may_tell reference part) refl

-- a reference that parts don't tell
absent : (counting : Counting) (parts : List ExtentPart)
    → list_any (λ other. same_reference counting.reference other.0) (told_in parts) ≡ false
    → (fold with_count counting parts ≡ counting) × (told_count (told_in parts) counting.reference ≡ 0)
absent counting [] none = (refl, refl)
absent counting (DataRecord address bytes extent ∷ parts) none = absent counting parts none
absent counting (NodeRecord address level extent ∷ parts) none = absent counting parts none
absent counting (Referenced address reference count ∷ parts) none =
    let both = or_parts (same_reference counting.reference reference) _ none in
    let rest = absent counting parts both.1 in
    let sum = sum_by-cons (λ (entry : Reference × ℕ). if same_reference counting.reference entry.0 then entry.1 else 0)
    (reference, count) (told_in parts) in (
      ap (λ (c : Counting). fold with_count c parts) (rw both.0 refl) ∙ rest.0,
      sum ∙ rw both.0 (ap (λ (n : ℕ). 0 + n) rest.1),
    )

once_more : (counting : Counting) (reference : Reference) (count : ℕ) (parts : List ExtentPart)
    → not (list_any (λ other. same_reference reference other.0) (told_in parts)) ≡ true
    → (fold with_count counting parts).count ≡ told_count (told_in parts) counting.reference
    → told_count ((reference, count) ∷ told_in parts) counting.reference
    ≡ (if same_reference counting.reference reference then count else 0)
    + told_count (told_in parts) counting.reference
    → (b : Bool) → same_reference counting.reference reference ≡ b
    → (fold with_count (if b then record counting { count = count } else counting) parts).count
    ≡ told_count ((reference, count) ∷ told_in parts) counting.reference
once_more counting reference count parts other rest sum true same =
    let is = same_reference_is counting.reference reference same in
    let none = subst (λ (r : Reference). list_any (λ other. same_reference r other.0) (told_in parts) ≡ false)
    (sym is) (not-true (list_any (λ other. same_reference reference other.0) (told_in parts)) other) in
    let left = absent (record counting { count = count }) parts none in
    let none_more : told_count (told_in parts) counting.reference ≡ 0 = left.1 in
    let all : told_count ((reference, count) ∷ told_in parts) counting.reference
    ≡ count + told_count (told_in parts) counting.reference =
    sum ∙ rw same refl in
    ap (λ (c : Counting). c.count) left.0 ∙ sym (omega (arith, all, none_more))
once_more counting reference count parts other rest sum false differ =
    let all : told_count ((reference, count) ∷ told_in parts) counting.reference
    ≡ 0 + told_count (told_in parts) counting.reference =
    sum ∙ rw differ refl in
    rest ∙ sym (omega (arith, all))

told_once : (counting : Counting) (parts : List ExtentPart) → counting.count ≡ 0
    → is_told_once (told_in parts) ≡ true
    → (fold with_count counting parts).count ≡ told_count (told_in parts) counting.reference
told_once counting [] zero once = zero
told_once counting (DataRecord address bytes extent ∷ parts) zero once = told_once counting parts zero once
told_once counting (NodeRecord address level extent ∷ parts) zero once = told_once counting parts zero once
told_once counting (Referenced address reference count ∷ parts) zero once =
    let both = and_parts (not (list_any (λ other. same_reference reference other.0) (told_in parts)))
    (is_told_once (told_in parts)) once in
    once_more counting reference count parts both.0 (told_once counting parts zero both.1)
    (sum_by-cons (λ (entry : Reference × ℕ). if same_reference counting.reference entry.0 then entry.1 else 0)
    (reference, count) (told_in parts)) (same_reference counting.reference reference) refl

-- of parts that may tell a reference the count is kept that all tell of it
pub count-taken : (counting : Counting) (told : List ExtentPart) → counting.count ≡ 0
    → is_told_once (told_in told) ≡ true
    → (fold with_count counting (filter (may_tell counting.reference) told)).count
    ≡ told_count (told_in told) counting.reference
count-taken counting told zero once =
    ap (λ (c : Counting). c.count) (fold_may counting.reference counting told refl)
    ∙ told_once counting told zero once
