use Rattle.std.proofs.Common.{rules}
use Rattle.std.proofs.lemmas.List.Sorted.{IsPartitionPoint-from_clause}
use Rattle.qg_refs.specs.Order.{precedes}
use Rattle.qg_delayed.specs.declared.change.Change.{Change}
use Rattle.qg_delayed.proofs.Listing.{parted_by}
use Rattle.qg_delayed.proofs.place.place_of.Goals as goal

pub returns-clause-point : goal.returns-clause-point
returns-clause-point c =
    let changes = c.args.changes.now in
    let reference = c.args.reference.now in
    IsPartitionPoint-from_clause (λ (change : Change). precedes change.reference reference) changes _
    c.partition_point.ensures.partitioned (parted_by changes reference c.requires) (λ a r f h. search rules)
