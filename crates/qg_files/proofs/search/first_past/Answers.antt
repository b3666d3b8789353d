use Rattle.std.proofs.Common.{◌≤◌, ◌<◌, sym, subst, rules}
use Rattle.std.specs.Prelude.{nat_le}
use Rattle.std.proofs.lemmas.Bool.{leb-true, leb-false}
use Rattle.std.proofs.lemmas.List.Sorted.{IsPartitionPoint-from_clause, IsPartitionedBy-leb}
use Rattle.qg_num.specs.declared.piece.Piece.{Piece}
use Rattle.qg_image.specs.FilesOf.{piece_end}
use Rattle.qg_files.specs.Apart.{AreApart}
use Rattle.qg_files.specs.Meeting.{IsFirstPast}
use Rattle.qg_files.proofs.Order.{ends_ascend}
use Rattle.qg_files.proofs.Points.{front_of_point, back_of_point}
use Rattle.qg_files.proofs.search.first_past.Goals as goal

pub returns : goal.returns
returns c =
    let pieces = c.as_slice.result.now in
    let position = c.args.position in
    let ends = λ (x : Piece). nat_le (piece_end x) position in
    let ascend = ends_ascend 0 pieces (subst AreApart (sym c.as_slice.ensures) c.requires) in
    let point = IsPartitionPoint-from_clause ends pieces _ c.partition_point.ensures.partitioned
    (IsPartitionedBy-leb piece_end pieces position ascend) (λ a r f h. search rules) in
    subst (λ items. IsFirstPast position items c.partition_point.result) c.as_slice.ensures (record {
      bound = c.partition_point.ensures.bound;
      front = front_of_point ends (λ x. piece_end x ≤ position) pieces _ c.partition_point.ensures.bound
          (λ x t. leb-true _ _ t) point;
      back = back_of_point ends (λ x. position < piece_end x) pieces _ (λ x t. leb-false _ _ t) point;
    })
