use Rattle.std.proofs.Common.{rules}
use Rattle.std.proofs.lemmas.List.Sorted.{IsPartitionPoint-from_clause}
use Rattle.qg_refs.specs.declared.counted.Counted.{Counted}
use Rattle.qg_refs.specs.Order.{precedes}
use Rattle.qg_refs.proofs.Counting.{parted_by}
use Rattle.qg_refs.proofs.place.place_of.Goals as goal

pub returns-clause-point : goal.returns-clause-point
returns-clause-point c =
    let entries = c.args.entries.now in
    let reference = c.args.reference.now in
    IsPartitionPoint-from_clause (λ (entry : Counted). precedes entry.reference reference) entries _
    c.partition_point.ensures.partitioned (parted_by entries reference c.requires) (λ a r f h. search rules)
