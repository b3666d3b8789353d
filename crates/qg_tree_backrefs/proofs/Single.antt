-- How many references a list has, by how many there are in all.
use Rattle.std.proofs.Common.{◌≡◌, ℕ, suc, ◌+◌, ◌<◌, ◌≤◌, List, [], ◌∷◌, length, arith, refl}
use Rattle.qg_items.specs.declared.extent.Reference.{Reference}
use Rattle.qg_refs.specs.declared.counted.Counted.{Counted}
use Rattle.qg_refs.specs.Counts.{IsRefList, count_of}
use Rattle.qg_refs.proofs.Counting.{count-cons, count-nil}
use Rattle.qg_tree_backrefs.proofs.ReferenceTotals.{counted-most, total, total-cons}

-- each has a count
pub length-total : (references : List Counted) → IsRefList references → length references ≤ total references
length-total [] sound = omega arith
length-total (entry ∷ references) sound =
    let some : 0 < entry.count = sound.some 0 entry (omega arith) in
    let sum = total-cons entry references in
    let rest = length-total references (record {
      ascend = λ i j d order inside. sound.ascend (suc i) (suc j) d (omega (arith, order)) (omega (arith, inside));
      some = λ i d inside. sound.some (suc i) d (omega (arith, inside));
    }) in
    omega (arith, some, sum, rest)

-- one in all is one
pub length-one : (references : List Counted) → IsRefList references → total references ≡ 1 → length references ≡ 1
length-one [] sound one = absurd (omega (arith, one))
length-one (entry ∷ references) sound one =
    let most = length-total (entry ∷ references) sound in
    omega (arith, most, one)

-- and none is none
pub length-none : (references : List Counted) → IsRefList references → total references ≡ 0 → length references ≡ 0
length-none references sound none = let most = length-total references sound in omega (arith, most, none)

-- no reference is there more often than there are in all
pub count-total : (references : List Counted) (reference : Reference) → count_of references reference ≤ total references
count-total [] reference = let none = count-nil reference in omega (arith, none)
count-total (entry ∷ references) reference =
    let count = count-cons entry references reference in
    let sum = total-cons entry references in
    let rest = count-total references reference in
    let most = counted-most reference entry in
    omega (arith, count, sum, rest, most)
