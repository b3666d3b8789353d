use Rattle.std.proofs.Common.{rules}
use Rattle.std.specs.Prelude.{nat_lt}
use Rattle.std.proofs.lemmas.Bool.{ltb-true, ltb-false}
use Rattle.std.proofs.lemmas.List.Sorted.{IsPartitionedBy-ltb, IsPartitionPoint-from_clause}
use Rattle.qg_space.specs.Run.{Run}
use Rattle.qg_space.proofs.runs.runs_before.Goals as goal

pub returns-clause-before : goal.returns-clause-before
returns-clause-before c =
    let runs = c.args.runs.now in
    let point = IsPartitionPoint-from_clause (λ (run : Run). nat_lt run.extent.address c.args.at) runs
    c.partition_point.result c.partition_point.ensures.partitioned
    (IsPartitionedBy-ltb (λ (run : Run). run.extent.address) runs c.args.at c.requires) (λ a r f k. search rules) in
    λ k d low high. ltb-true _ _ (point.0 k d low high)

pub returns-clause-others : goal.returns-clause-others
returns-clause-others c =
    let runs = c.args.runs.now in
    let point = IsPartitionPoint-from_clause (λ (run : Run). nat_lt run.extent.address c.args.at) runs
    c.partition_point.result c.partition_point.ensures.partitioned
    (IsPartitionedBy-ltb (λ (run : Run). run.extent.address) runs c.args.at c.requires) (λ a r f k. search rules) in
    λ k d low high. ltb-false _ _ (point.1 k d low high)
