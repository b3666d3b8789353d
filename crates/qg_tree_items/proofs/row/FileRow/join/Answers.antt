use Rattle.std.proofs.Common.{List, [], ◌++◌, Option, ap, subst}
use Rattle.std.proofs.lemmas.List.{append-nil}
use Rattle.qg_image.specs.declared.part.FilePart.{FilePart}
use Rattle.qg_tree_items.specs.Rows.{AreOfNoFiles, HasEnds, IsToldOf}
use Rattle.qg_tree_items.specs.declared.row.Ends.{Ends}
use Rattle.qg_tree_items.proofs.Neighbours.{no_files_wider}
use Rattle.qg_tree_items.proofs.row.FileRow.join.Goals as goal

pub returns-in_default-ends : goal.returns-in_default-ends
returns-in_default-ends c xs ys tells tells' ascends =
    let none : AreOfNoFiles ys = subst (λ (ends : Option Ends). IsToldOf HasEnds ends ys) c.in_default-ends.is tells' in
    subst AreOfNoFiles (ap (λ (parts : List FilePart). xs ++ parts) (append-nil ys)) (no_files_wider xs ys [] none)
