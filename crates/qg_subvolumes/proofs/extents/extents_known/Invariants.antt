use Rattle.std.proofs.Common.{◌≡◌}
use Rattle.std.specs.Prelude.{take}
use Rattle.qg_extents.specs.Table.{book_of}
use Rattle.qg_backref_rule.specs.OwedLists.{owings_told}
use Rattle.qg_subvolumes.specs.Dropping.{extents_known}
use Rattle.qg_subvolumes.proofs.extents.extents_known.Given as goal

abbrev pub invariant-loop-owing : goal.invariant-loop-owing
invariant-loop-owing l = record {
  known : l.extents.items ≡ extents_known (book_of l.refs) (owings_told (take l.owing-index l.owing-items));
}
