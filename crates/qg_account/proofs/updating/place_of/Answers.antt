use Rattle.std.proofs.Common.{ℕ, arith, rules}
use Rattle.std.specs.Prelude.{nat_lt}
use Rattle.std.proofs.lemmas.Bool.{ltb-true, ltb-false}
use Rattle.std.proofs.lemmas.List.Sorted.{IsPartitionedBy-ltb, IsPartitionPoint-from_clause}
use Rattle.qg_num.specs.declared.counters.Counters.{Counters}
use Rattle.qg_qgroups.proofs.Tables.{numbers-rise}
use Rattle.qg_account.proofs.MovedGroups.{at-place}
use Rattle.qg_account.proofs.updating.place_of.Goals as goal

pub returns : goal.returns
returns c =
    let counters = c.args.counters.now in
    let point = IsPartitionPoint-from_clause (λ (entry : ℕ × Counters). nat_lt entry.0 c.args.group) counters
    c.partition_point.result c.partition_point.ensures.partitioned
    (IsPartitionedBy-ltb (λ (entry : ℕ × Counters). entry.0) counters c.args.group
    (numbers-rise counters c.requires.ascending))
    (λ a r f k. search rules) in
    at-place counters c.partition_point.result c.args.group
    (λ k d short. ltb-true _ _ (point.0 k d (omega arith) short))
    (λ k d low short. ltb-false _ _ (point.1 k d low short)) c.requires.ascending c.requires.there
