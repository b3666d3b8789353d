-- References that parts tell, as a list.
use Rattle.std.proofs.Common.{◌≡◌, ℕ, ◌+◌, ◌≤◌, ◌<◌, true, false, Bool, List, [], ◌∷◌, ◌++◌, length, map, take, get_or}
use Rattle.std.proofs.Common.{refl, sym, ap, subst, ◌∙◌, arith, suc, append-nil}
use Rattle.std.specs.Prelude.{cond, not, filter, if◌then◌else◌, Result, Ok, Err, IfOk}
use Rattle.std.specs.List.{count_by, fold, list_any, sum_by}
use Rattle.std.specs.List.Sorted.{IsPermutation}
use Rattle.std.proofs.lemmas.Bool.{and_parts, not-true, or_parts}
use Rattle.std.proofs.lemmas.List.{append_assoc}
use Rattle.std.proofs.lemmas.List.Sorted.{sum_by-IsPermutation}
use Rattle.std.proofs.lemmas.List.Sums.{count_by_more_yes, sum_by-cons, sum_by-take-le, sum_by_more}
use Rattle.qg_items.specs.declared.extent.Reference.{Reference}
use Rattle.qg_tree_items.specs.Owed.{is_record, is_told_once}
use Rattle.qg_tree_items.specs.Record.{same_reference}
use Rattle.qg_tree_items.specs.Types.{ExtentPart}
use Rattle.qg_tree_items.specs.Types.{DataRecord, NodeRecord, Referenced}
use Rattle.qg_refs.specs.declared.counted.Counted.{Counted}
use Rattle.qg_refs.specs.Counts.{HasSoManyMore, count_of, counted}
use Rattle.qg_refs.proofs.Counting.{count-cons, count-nil}
use Rattle.qg_refs.proofs.RankOrder.{same_itself, same_reference_is}
use Rattle.qg_extents.specs.BookRecords.{told_count, told_in}
use Rattle.qg_extent_read.specs.Kept.{AreOnce, with_reference}

-- ---- a list that grows by one entry after another

count_more : (entries : List Counted) (i : ℕ) (entry : Counted) (reference : Reference) → i < length entries
    → entry ≡ get_or entries i entry
    → count_of (take (i + 1) entries) reference ≡ count_of (take i entries) reference + counted reference entry
unfolding count_of
count_more entries i entry reference inside is =
    sum_by_more (counted reference) entries i entry inside
    ∙ ap (λ (e : Counted). sum_by (counted reference) (take i entries) + counted reference e) (sym is)

-- the counts of a list are those of the entries so far
abbrev pub IsListSoFar : List Counted → List Counted → Type 0
IsListSoFar list entries = (reference : Reference) → count_of list reference ≡ count_of entries reference

pub list-put : (entries old new : List Counted) (i : ℕ) (entry : Counted) → i < length entries
    → entry ≡ get_or entries i entry
    → IsListSoFar old (take i entries) → HasSoManyMore old new entry.reference entry.count
    → IsListSoFar new (take (i + 1) entries)
list-put entries old new i entry inside is so_far put reference =
    put reference ∙ ap (λ (n : ℕ). n + counted reference entry) (so_far reference)
    ∙ sym (count_more entries i entry reference inside is)

none_counted : (reference : Reference) (entry : Counted) → entry.count ≡ 0 → counted reference entry ≡ 0
none_counted reference entry zero = here (same_reference reference entry.reference) where
  here : (b : Bool) → (if b then entry.count else 0) ≡ 0
  here true = zero
  here false = refl

-- a count of 0 adds nothing
pub list-none : (entries list : List Counted) (i : ℕ) (entry : Counted) → i < length entries
    → entry ≡ get_or entries i entry → IsListSoFar list (take i entries) → entry.count ≡ 0
    → IsListSoFar list (take (i + 1) entries)
list-none entries list i entry inside is so_far zero reference =
    let more = count_more entries i entry reference inside is in
    let none = none_counted reference entry zero in
    let old = so_far reference in
    sym (omega (arith, more, none, old))

abbrev how_often : Reference → List Counted → ℕ
how_often reference entries = count_by (λ entry. same_reference reference entry.reference) entries

counted_there : (reference : Reference) (entry : Counted) (entries : List Counted) → (b : Bool)
    → same_reference reference entry.reference ≡ b
    → (0 < count_of entries reference → 0 < how_often reference entries)
    → 0 < counted reference entry + count_of entries reference
    → 0 < cond (same_reference reference entry.reference) 1 0 + how_often reference entries
counted_there reference entry entries true same rest some = rw same (omega arith)
counted_there reference entry entries false differ rest some =
    let left : 0 < 0 + count_of entries reference = rw differ at some in
    let more = rest (omega (arith, left)) in
    rw differ (omega (arith, more))

-- what has a count is there
counted_once : (reference : Reference) (entries : List Counted) → 0 < count_of entries reference
    → 0 < how_often reference entries
counted_once reference [] some = absurd (let none = count-nil reference in omega (arith, none, some))
counted_once reference (entry ∷ entries) some =
    let sum = count-cons entry entries reference in
    let often : how_often reference (entry ∷ entries)
    ≡ cond (same_reference reference entry.reference) 1 0 + how_often reference entries =
    sum_by-cons (λ (e : Counted). cond (same_reference reference e.reference) 1 0) entry entries in
    let there = counted_there reference entry entries (same_reference reference entry.reference) refl
    (λ rest. counted_once reference entries rest) (omega (arith, some, sum)) in
    omega (arith, often, there)

-- no reference comes again
pub list-again : (entries list : List Counted) (i : ℕ) (entry : Counted) → i < length entries
    → entry ≡ get_or entries i entry → AreOnce entries → IsListSoFar list (take i entries)
    → (count_of list entry.reference ≡ 0 → ⊥) → ⊥
list-again entries list i entry inside is once so_far there =
    let p = λ (e : Counted). same_reference entry.reference e.reference in
    let some : 0 < count_of (take i entries) entry.reference =
    let old = so_far entry.reference in omega (arith, old, there) in
    let before = counted_once entry.reference (take i entries) some in
    let here : p (get_or entries i entry) ≡ true =
    subst (λ (e : Counted). p e ≡ true) is (same_itself entry.reference) in
    let more = count_by_more_yes p entries i entry inside here in
    let most = sum_by-take-le (λ (e : Counted). cond (p e) 1 0) entries (i + 1) in
    let one = once entry.reference in
    omega (arith, before, more, most, one)

-- ---- in another order

pub once-moved : (old new : List Counted) → IsPermutation old new → AreOnce old → AreOnce new
once-moved old new moved once reference =
    let same = sum_by-IsPermutation (λ (e : Counted). cond (same_reference reference e.reference) 1 0) old new moved in
    let one = once reference in
    omega (arith, same, one)

pub count-moved : (old new : List Counted) (reference : Reference) → IsPermutation old new
    → count_of new reference ≡ count_of old reference
unfolding count_of
count-moved old new reference moved = sum_by-IsPermutation (counted reference) old new moved

pub ok-then : {A E : Type 0} (result : Result A E) (P Q : A → Type 0) → ((x : A) → P x → Q x) → IfOk result P
    → IfOk result Q
ok-then (Ok x) P Q each ok = each x ok
ok-then (Err e) P Q each ok = tt

-- ---- what parts tell

-- what is told of a reference
abbrev pub entry_of : Reference × ℕ → Counted
entry_of told = record { reference = told.0; count = told.1 }

abbrev pub entries_of : List ExtentPart → List Counted
entries_of parts = map entry_of (told_in parts)

pub fold-references : (before : List Counted) (parts : List ExtentPart)
    → fold with_reference before parts ≡ before ++ entries_of parts
fold-references before [] = sym (append-nil before)
fold-references before (DataRecord address bytes extent ∷ parts) = fold-references before parts
fold-references before (NodeRecord address level extent ∷ parts) = fold-references before parts
fold-references before (Referenced address reference count ∷ parts) =
    let entry : Counted = record { reference = reference; count = count } in
    fold-references (before ++ entry ∷ []) parts ∙ append_assoc before (entry ∷ []) (entries_of parts)

pub count-entries : (told : List (Reference × ℕ)) (reference : Reference)
    → count_of (map entry_of told) reference ≡ told_count told reference
count-entries [] reference = count-nil reference
count-entries (entry ∷ told) reference =
    let sum = count-cons (entry_of entry) (map entry_of told) reference in
    let all = sum_by-cons (λ (e : Reference × ℕ). if same_reference reference e.0 then e.1 else 0) entry told in
    let rest = count-entries told reference in
    sum ∙ ap (λ (n : ℕ). counted reference (entry_of entry) + n) rest ∙ sym all

none_told : (reference : Reference) (told : List (Reference × ℕ))
    → list_any (λ other. same_reference reference other.0) told ≡ false
    → how_often reference (map entry_of told) ≡ 0
none_told reference [] none = refl
none_told reference (entry ∷ told) none =
    let both = or_parts (same_reference reference entry.0) _ none in
    let often : how_often reference (map entry_of (entry ∷ told))
    ≡ cond (same_reference reference entry.0) 1 0 + how_often reference (map entry_of told) =
    sum_by-cons (λ (e : Counted). cond (same_reference reference e.reference) 1 0) (entry_of entry)
    (map entry_of told) in
    let one : ℕ = 1 in
    let here : cond (same_reference reference entry.0) one 0 ≡ 0 = rw both.0 refl in
    let rest = none_told reference told both.1 in
    omega (arith, often, here, rest)

once_more : (reference : Reference) (entry : Reference × ℕ) (told : List (Reference × ℕ))
    → not (list_any (λ other. same_reference entry.0 other.0) told) ≡ true
    → how_often reference (map entry_of told) ≤ 1 → (b : Bool) → same_reference reference entry.0 ≡ b
    → cond b 1 0 + how_often reference (map entry_of told) ≤ 1
once_more reference entry told other rest true same =
    let is = same_reference_is reference entry.0 same in
    let none = none_told reference told
    (subst (λ (r : Reference). list_any (λ other. same_reference r other.0) told ≡ false) (sym is)
    (not-true (list_any (λ other. same_reference entry.0 other.0) told) other)) in
    omega (arith, none)
once_more reference entry told other rest false differ = omega (arith, rest)

pub once-entries : (told : List (Reference × ℕ)) → is_told_once told ≡ true → AreOnce (map entry_of told)
once-entries [] once reference = omega arith
once-entries (entry ∷ told) once reference =
    let both = and_parts (not (list_any (λ other. same_reference entry.0 other.0) told)) (is_told_once told) once in
    let often : how_often reference (map entry_of (entry ∷ told))
    ≡ cond (same_reference reference entry.0) 1 0 + how_often reference (map entry_of told) =
    sum_by-cons (λ (e : Counted). cond (same_reference reference e.reference) 1 0) (entry_of entry)
    (map entry_of told) in
    let more = once_more reference entry told both.0 (once-entries told both.1 reference)
    (same_reference reference entry.0) refl in
    omega (arith, often, more)

-- ---- parts that tell a reference

abbrev pub tells_one : ExtentPart → Bool
tells_one part = not (is_record part)

pub told-ones : (parts : List ExtentPart) → told_in (filter tells_one parts) ≡ told_in parts
told-ones [] = refl
told-ones (DataRecord address bytes extent ∷ parts) = told-ones parts
told-ones (NodeRecord address level extent ∷ parts) = told-ones parts
told-ones (Referenced address reference count ∷ parts) =
    ap (λ (told : List (Reference × ℕ)). (reference, count) ∷ told) (told-ones parts)

pub count-ones : (parts : List ExtentPart) → length (filter tells_one parts) ≡ length (told_in parts)
count-ones [] = refl
count-ones (DataRecord address bytes extent ∷ parts) = count-ones parts
count-ones (NodeRecord address level extent ∷ parts) = count-ones parts
count-ones (Referenced address reference count ∷ parts) = ap (λ (n : ℕ). suc n) (count-ones parts)
