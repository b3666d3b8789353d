use Rattle.std.proofs.Common.{◌≡◌}
use Rattle.std.specs.Prelude.{take}
use Rattle.std.specs.List.{All, Contains}
use Rattle.qg_extents.specs.Table.{book_of}
use Rattle.qg_subvolumes.specs.Dropping.{without_references}
use Rattle.qg_subvolumes.proofs.extents.without_references.Given as goal

abbrev pub invariant-loop-extent : goal.invariant-loop-extent
invariant-loop-extent l = record {
  value : l.gone.items ≡ without_references (book_of l.refs) (take l.extent-index l.extents);
  taken : All (Contains l.space.runs) l.gone.items;
}
