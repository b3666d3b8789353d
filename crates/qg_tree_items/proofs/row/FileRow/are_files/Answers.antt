use Rattle.std.proofs.Common.{Option, sym, subst}
use Rattle.qg_tree_items.specs.Rows.{AreOfNoFiles, HasEnds, IsToldOf}
use Rattle.qg_tree_items.specs.declared.row.Ends.{Ends}
use Rattle.qg_tree_items.proofs.Neighbours.{no_files_alone}
use Rattle.qg_tree_items.proofs.row.FileRow.are_files.Goals as goal

pub returns-in-None : goal.returns-in-None
returns-in-None c parts tells ascends =
    let none : AreOfNoFiles parts = subst (λ (ends : Option Ends). IsToldOf HasEnds ends parts) c.in-None.is tells in
    sym (no_files_alone parts none ascends)
