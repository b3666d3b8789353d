-- How many parts an address has that a book may hold: its record, and its references.
use Rattle.std.proofs.Common.{◌≡◌, ℕ, ◌+◌, ◌≤◌, true, Bool, List, [], ◌∷◌, length, refl}
use Rattle.std.proofs.Common.{arith}
use Rattle.std.specs.Prelude.{◌&&◌, ◌==◌, filter}
use Rattle.std.proofs.lemmas.Bool.{and_parts}
use Rattle.qg_tree_items.specs.ItemMeaning.{some_passes}
use Rattle.qg_tree_items.specs.Owed.{is_record}
use Rattle.qg_tree_items.specs.Types.{ExtentPart}
use Rattle.qg_tree_items.specs.Types.{DataRecord, NodeRecord, Referenced}
use Rattle.qg_extents.specs.BookRecords.{are_counted, is_entry, is_sound_record, refs_told, the_only, the_record}
use Rattle.qg_extents.specs.BookRecords.{told_in, told_sum}

one_of : (test : ExtentPart → Bool) (parts : List ExtentPart) → some_passes test (the_only parts) ≡ true
    → length parts ≡ 1
one_of test [] passes = absurd cc
one_of test (part ∷ []) passes = refl
one_of test (part ∷ other ∷ others) passes = absurd cc

-- there is one record
pub records-one : (here : List ExtentPart) → is_entry here ≡ true → length (filter is_record here) ≡ 1
unfolding is_entry
records-one here entry =
    let test : ExtentPart → Bool = λ part. is_sound_record part && (refs_told part == told_sum (told_in here)) in
    one_of test (filter is_record here)
    (and_parts (are_counted (told_in here)) (some_passes test (the_record here)) entry).1

-- parts are records and references
both_kinds : (here : List ExtentPart) → length here ≡ length (filter is_record here) + length (told_in here)
both_kinds [] = refl
both_kinds (DataRecord address bytes extent ∷ here) = let rest = both_kinds here in omega (arith, rest)
both_kinds (NodeRecord address level extent ∷ here) = let rest = both_kinds here in omega (arith, rest)
both_kinds (Referenced address reference count ∷ here) = let rest = both_kinds here in omega (arith, rest)

-- So a bound by the parts of an address is one by its references
pub parts-few : (here : List ExtentPart) (before now : ℕ) → is_entry here ≡ true → now ≤ before + (16 + length here)
    → now ≤ before + (17 + length (told_in here))
parts-few here before now entry few =
    let one = records-one here entry in
    let all = both_kinds here in
    omega (arith, one, all, few)
