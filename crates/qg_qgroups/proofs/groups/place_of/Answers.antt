use Rattle.std.proofs.Common.{ℕ, rules}
use Rattle.std.specs.Prelude.{nat_lt}
use Rattle.std.proofs.lemmas.Bool.{ltb-true, ltb-false}
use Rattle.std.proofs.lemmas.List.Sorted.{IsPartitionedBy-ltb, IsPartitionPoint-from_clause}
use Rattle.qg_image.specs.declared.quota.Group.{Group}
use Rattle.qg_qgroups.proofs.Tables.{numbers-rise}
use Rattle.qg_qgroups.proofs.groups.place_of.Goals as goal

pub returns-clause-before : goal.returns-clause-before
returns-clause-before c =
    let groups = c.args.groups.now in
    let point = IsPartitionPoint-from_clause (λ (entry : ℕ × Group). nat_lt entry.0 c.args.number) groups
    c.partition_point.result c.partition_point.ensures.partitioned
    (IsPartitionedBy-ltb (λ (entry : ℕ × Group). entry.0) groups c.args.number (numbers-rise groups c.requires))
    (λ a r f k. search rules) in
    λ k d low high. ltb-true _ _ (point.0 k d low high)

pub returns-clause-behind : goal.returns-clause-behind
returns-clause-behind c =
    let groups = c.args.groups.now in
    let point = IsPartitionPoint-from_clause (λ (entry : ℕ × Group). nat_lt entry.0 c.args.number) groups
    c.partition_point.result c.partition_point.ensures.partitioned
    (IsPartitionedBy-ltb (λ (entry : ℕ × Group). entry.0) groups c.args.number (numbers-rise groups c.requires))
    (λ a r f k. search rules) in
    λ k d low high. ltb-false _ _ (point.1 k d low high)
