use Rattle.std.proofs.Common.{List, ◌++◌, Option, Some, sym, ap, refl, subst}
use Rattle.qg_image.specs.declared.part.FilePart.{FilePart}
use Rattle.qg_tree_items.specs.Rows.{AreOfNoFiles, ArePieces, HasEnds, IsRun, IsToldOf}
use Rattle.qg_tree_items.specs.declared.row.Ends.{Ends}
use Rattle.qg_tree_items.specs.declared.run.PieceRun.{PieceRun}
use Rattle.qg_tree_items.proofs.Rows.{HasEnds-apart, HasEnds-before, HasEnds-joined}
use Rattle.qg_tree_items.proofs.row.Ends.behind_pieces.Goals as goal
use Rattle.qg_tree_items.proofs.row.Ends.behind_pieces.Goals.{in-None, in-Some-before+in_ok-before-in-Some-before}

pub returns-in_err-before-in-Some-before : goal.returns-in_err-before-in-Some-before
returns-in_err-before-in-Some-before c xs ys pieces has =
    let ends = c.args.self.now in
    let rest = c.in-Some-before.rest in
    let first : IsRun c.in-Some.front xs = subst (λ (told : Option PieceRun). ArePieces told xs) c.in-Some.is pieces in
    let apart : (parts : List FilePart) → IsRun rest parts → AreOfNoFiles (xs ++ parts) =
    λ parts second. subst (λ (told : Option PieceRun). IsToldOf IsRun told (xs ++ parts))
    c.in_err-before-in-Some-before.was
    (c.joined.ensures xs parts first second) in
    subst (λ (told : Option Ends). IsToldOf HasEnds told (xs ++ ys)) (sym c.from_residual.ensures)
    (HasEnds-apart ends rest xs ys has c.in-Some-before.is apart)

pub returns : goal.returns
returns c xs ys pieces has =
    let ends = c.args.self.now in
    let front = c.in-Some.front in
    let first : IsRun front xs = subst (λ (told : Option PieceRun). ArePieces told xs) c.in-Some.is pieces in
    elim c.match-self.branch [
      | in-None w ↦ HasEnds-before ends _ front xs ys first has w.in-None.is
          (ap (λ (run : PieceRun). Some run) w.before-is) refl
      | in-Some-before+in_ok-before-in-Some-before w ↦
          HasEnds-joined ends _ w.in-Some-before.rest w.in_ok-before-in-Some-before.before xs ys has w.in-Some-before.is
          (λ parts second. subst
          (λ (told : Option PieceRun). IsToldOf IsRun told (xs ++ parts)) w.in_ok-before-in-Some-before.was
          (w.joined.ensures xs parts first second))
          (ap (λ (run : PieceRun). Some run) w.before-is) refl
    ]
