-- The only record among parts.
use Rattle.std.proofs.Common.{◌≡◌, ℕ, ◌+◌, ◌<◌, Bool, true, false, List, [], ◌∷◌, ◌++◌, length, take, drop, get_or}
use Rattle.std.proofs.Common.{Option, Some, None, refl, sym, ap, ◌∙◌, cond, append-nil}
use Rattle.std.specs.Prelude.{IfSome, is_some, slice_get, ◌&&◌, ◌==◌}
use Rattle.std.specs.Option.{option_and_then}
use Rattle.std.specs.List.{filter}
use Rattle.std.proofs.lemmas.Bool.{true≢false}
use Rattle.std.proofs.lemmas.List.{drop_more, take_more, take-append-drop}
use Rattle.std.proofs.lemmas.List.Elements.{filter-append}
use Rattle.std.proofs.lemmas.Option.{slice_get-get_or}
use Rattle.qg_tree_items.specs.Types.{ExtentPart}
use Rattle.qg_tree_items.specs.Owed.{is_record}
use Rattle.qg_tree_items.specs.ItemMeaning.{some_passes}
use Rattle.qg_extents.specs.Reading.{adds_up}
use Rattle.qg_extents.specs.BookRecords.{are_counted, is_entry, is_sound_record, refs_told, the_only, the_record}
use Rattle.qg_extents.specs.BookRecords.{told_in}
use Rattle.qg_extents.specs.BookRecords.{told_sum}

-- the list of what is there
abbrev pub listed : Option ExtentPart → List ExtentPart
listed None = []
listed (Some part) = part ∷ []

pub only-listed : (part : Option ExtentPart) → the_only (listed part) ≡ part
only-listed None = refl
only-listed (Some part) = refl

-- another record behind one leaves no only one
pub two_records : (here : List ExtentPart) (i : ℕ) (first next : ExtentPart) → i < length here
    → filter is_record (take i here) ≡ first ∷ [] → next ≡ get_or here i next → is_record next ≡ true
    → the_record here ≡ None
two_records here i first next inside front is record_ =
    let cut : filter is_record here ≡ filter is_record (take i here) ++ filter is_record (drop i here) =
    ap (filter is_record) (sym (take-append-drop i here)) ∙ filter-append is_record (take i here) (drop i here) in
    let back : filter is_record (drop i here) ≡ next ∷ filter is_record (drop (i + 1) here) =
    ap (filter is_record) (drop_more here i next inside ∙ ap (λ (part : ExtentPart). part ∷ drop (i + 1) here) (sym is))
    ∙ ap (λ (b : Bool). cond b (next ∷ filter is_record (drop (i + 1) here)) (filter is_record (drop (i + 1) here)))
    record_ in
    ap the_only (cut ∙ ap (λ (xs : List ExtentPart). xs ++ filter is_record (drop i here)) front
    ∙ ap (λ (xs : List ExtentPart). first ∷ xs) back)

some_index : (here : List ExtentPart) (only : Option ℕ) (d : ExtentPart) → IfSome only (λ k. k < length here)
    → is_some only ≡ true
    → (k : ℕ) × (option_and_then (slice_get here) only ≡ Some (get_or here k d))
some_index here None d bound is = absurd (true≢false (sym is))
some_index here (Some k) d bound is = (k, slice_get-get_or here k d bound)

pub another_record : (here : List ExtentPart) (i : ℕ) (only : Option ℕ) (next : ExtentPart) → i < length here
    → filter is_record (take i here) ≡ listed (option_and_then (slice_get here) only)
    → IfSome only (λ k. k < length here) → is_some only ≡ true → next ≡ get_or here i next → is_record next ≡ true
    → None ≡ the_record here
another_record here i only next inside front bound some is record_ =
    let first = some_index here only next bound some in
    sym (two_records here i (get_or here first.0 next) next inside (front ∙ ap listed first.1) is record_)

filter-next : (here : List ExtentPart) (i : ℕ) (next : ExtentPart) → i < length here → next ≡ get_or here i next
    → filter is_record (take (i + 1) here) ≡ filter is_record (take i here) ++ cond (is_record next) (next ∷ []) []
filter-next here i next inside is =
    ap (filter is_record) (take_more here i next inside ∙ ap (λ (part : ExtentPart). take i here ++ part ∷ []) (sym is))
    ∙ filter-append is_record (take i here) (next ∷ [])

none_index : (here : List ExtentPart) (only : Option ℕ) → is_some only ≡ false
    → listed (option_and_then (slice_get here) only) ≡ []
none_index here None is = refl
none_index here (Some k) is = absurd (true≢false is)

-- the first record is the only one so far
pub first_record : (here : List ExtentPart) (i : ℕ) (only : Option ℕ) (next : ExtentPart) → i < length here
    → filter is_record (take i here) ≡ listed (option_and_then (slice_get here) only)
    → is_some only ≡ false → next ≡ get_or here i next → is_record next ≡ true
    → filter is_record (take (i + 1) here) ≡ listed (option_and_then (slice_get here) (Some i))
first_record here i only next inside front none is record_ =
    filter-next here i next inside is ∙ ap (λ (xs : List ExtentPart). xs ++ cond (is_record next) (next ∷ []) [])
    (front ∙ none_index here only none)
    ∙ ap (λ (b : Bool). cond b (next ∷ []) []) record_ ∙ ap (λ (part : ExtentPart). part ∷ []) is
    ∙ sym (ap listed (slice_get-get_or here i next inside))

-- and what is no record changes nothing
pub no_record : (here : List ExtentPart) (i : ℕ) (next : ExtentPart) → i < length here → next ≡ get_or here i next
    → is_record next ≡ false
    → filter is_record (take (i + 1) here) ≡ filter is_record (take i here)
no_record here i next inside is other =
    filter-next here i next inside is ∙ ap (λ (b : Bool). filter is_record (take i here) ++ cond b (next ∷ []) []) other
    ∙ append-nil (filter is_record (take i here))

-- ---- an entry

abbrev record_passes : List ExtentPart → Option ExtentPart → Bool
record_passes here only = some_passes (λ part. is_sound_record part && (refs_told part == told_sum (told_in here))) only

and_false : (a b : Bool) → b ≡ false → (a && b) ≡ false
and_false true b second = second
and_false false b second = refl

pub no_entry : (here : List ExtentPart) → the_record here ≡ None → is_entry here ≡ false
unfolding is_entry
no_entry here none = and_false (are_counted (told_in here)) (record_passes here (the_record here))
    (ap (record_passes here) none)

pub unsound_entry : (here : List ExtentPart) (part : ExtentPart) → the_record here ≡ Some part
    → is_sound_record part ≡ false → is_entry here ≡ false
unfolding is_entry
unsound_entry here part only bad =
    and_false (are_counted (told_in here)) (record_passes here (the_record here))
    (ap (record_passes here) only ∙ ap (λ (b : Bool). b && (refs_told part == told_sum (told_in here))) bad)

either_false : (a b c : Bool) → (a && c) ≡ false → (a && (b && c)) ≡ false
either_false true true c h = h
either_false true false c h = refl
either_false false b c h = refl

pub short_entry : (here : List ExtentPart) (part : ExtentPart) → the_record here ≡ Some part
    → adds_up (refs_told part) here ≡ false → is_entry here ≡ false
unfolding is_entry
short_entry here part only short =
    ap (λ (o : Option ExtentPart). are_counted (told_in here) && record_passes here o) only
    ∙ either_false (are_counted (told_in here)) (is_sound_record part) (refs_told part == told_sum (told_in here)) short

all_true : (a b c : Bool) → b ≡ true → (a && c) ≡ true → (a && (b && c)) ≡ true
all_true true true c is h = h
all_true true false c is h = absurd (true≢false (sym is))
all_true false b c is h = absurd (true≢false (sym h))

pub good_entry : (here : List ExtentPart) (part : ExtentPart) → the_record here ≡ Some part
    → is_sound_record part ≡ true → adds_up (refs_told part) here ≡ true → is_entry here ≡ true
unfolding is_entry
good_entry here part only sound adds =
    ap (λ (o : Option ExtentPart). are_counted (told_in here) && record_passes here o) only
    ∙ all_true (are_counted (told_in here)) (is_sound_record part)
    (refs_told part == told_sum (told_in here)) sound adds

-- the one at an index
pub the_one : (here : List ExtentPart) (i : ℕ) (part : ExtentPart) → i < length here
    → slice_get here i ≡ the_record here → part ≡ get_or here i part → the_record here ≡ Some part
the_one here i part inside only is = sym only ∙ slice_get-get_or here i part inside
    ∙ ap (λ (p : ExtentPart). Some p) (sym is)
