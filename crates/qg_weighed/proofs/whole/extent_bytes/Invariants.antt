use Rattle.std.proofs.Common.{◌≡◌, ◌+◌, take}
use Rattle.std.specs.List.{sum_by}
use Rattle.qg_weighed.specs.Weight.{extent_record_bytes, reference_bytes}
use Rattle.qg_weighed.proofs.whole.extent_bytes.Given as goal

abbrev pub invariant-loop-entry : goal.invariant-loop-entry
invariant-loop-entry l =
    l.bytes ≡ extent_record_bytes + sum_by (λ entry. reference_bytes entry.reference) (take l.entry-index l.entry-items)
