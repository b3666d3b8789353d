use Rattle.std.proofs.Common.{◌≤◌, ◌<◌, sym, subst, rules}
use Rattle.std.specs.Prelude.{nat_lt}
use Rattle.std.proofs.lemmas.Bool.{ltb-true, ltb-false}
use Rattle.std.proofs.lemmas.List.Sorted.{IsPartitionPoint-from_clause, IsPartitionedBy-ltb}
use Rattle.qg_num.specs.declared.piece.Piece.{Piece}
use Rattle.qg_files.specs.Apart.{AreApart}
use Rattle.qg_files.specs.Meeting.{IsFirstFrom}
use Rattle.qg_files.proofs.Order.{positions_ascend}
use Rattle.qg_files.proofs.Points.{front_of_point, back_of_point}
use Rattle.qg_files.proofs.search.first_from.Goals as goal

pub returns : goal.returns
returns c =
    let pieces = c.as_slice.result.now in
    let position = c.args.position in
    let begins = λ (x : Piece). nat_lt x.position position in
    let ascend = positions_ascend 0 pieces (subst AreApart (sym c.as_slice.ensures) c.requires) in
    let point = IsPartitionPoint-from_clause begins pieces _ c.partition_point.ensures.partitioned
    (IsPartitionedBy-ltb (λ (x : Piece). x.position) pieces position ascend) (λ a r f h. search rules) in
    subst (λ items. IsFirstFrom position items c.partition_point.result) c.as_slice.ensures (record {
      bound = c.partition_point.ensures.bound;
      front = front_of_point begins (λ x. x.position < position) pieces _ c.partition_point.ensures.bound
          (λ x t. ltb-true _ _ t) point;
      back = back_of_point begins (λ x. position ≤ x.position) pieces _ (λ x t. ltb-false _ _ t) point;
    })
