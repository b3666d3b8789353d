-- A reference is in a list at most as often as the list's references take bytes.
use Rattle.std.proofs.Common.{ℕ, ◌≤◌, Bool, true, false, List, [], ◌∷◌, arith}
use Rattle.std.specs.Prelude.{if◌then◌else◌}
use Rattle.std.proofs.lemmas.List.Sums.{sum_by-cons}
use Rattle.qg_items.specs.declared.extent.Reference.{Reference}
use Rattle.qg_items.specs.declared.extent.Reference.TheVariants.{KeyedBlock, KeyedData, SharedBlock, SharedData}
use Rattle.qg_image.specs.Owed.{Owing}
use Rattle.qg_image.specs.Record.{same_reference}
use Rattle.qg_tree_backrefs.specs.Weight.{reference_bytes}
use Rattle.qg_tree_backrefs.specs.Exchange.{times}
use Rattle.qg_tree_backrefs.proofs.Owings.{times-cons, times-few}
use Rattle.qg_tree_backrefs.proofs.Times.{one_of, times-nil}
use Rattle.qg_tree_backrefs.specs.Heavier.{owings_bytes}

bit_most : (b : Bool) → (if b then 1 else 0) ≤ 1
bit_most true = omega arith
bit_most false = omega arith

pub one_of-most : (reference other : Reference) → one_of reference other ≤ 1
one_of-most reference other = bit_most (same_reference reference other)

some_bytes : (reference : Reference) → 1 ≤ reference_bytes reference
some_bytes (KeyedBlock root) = omega arith
some_bytes (SharedBlock parent) = omega arith
some_bytes (KeyedData root ino offset) = omega arith
some_bytes (SharedData parent) = omega arith

pub times-bytes : (xs : List Owing) (at : ℕ) (reference : Reference) → times xs at reference ≤ owings_bytes xs
times-bytes [] at reference = let none = times-nil at reference in omega (arith, none)
times-bytes (x ∷ xs) at reference =
    let split = times-cons x xs at reference in
    let few = times-few x at reference in
    let one = one_of-most reference x.reference in
    let some = some_bytes x.reference in
    let rest = times-bytes xs at reference in
    let bytes = sum_by-cons (λ (o : Owing). reference_bytes o.reference) x xs in
    omega (arith, split, few, one, some, rest, bytes)
