use Rattle.std.proofs.Common.{◌≡◌, Option, sym, ◌∙◌, refl, subst, arith}
use Rattle.std.proofs.lemmas.Bool.{eqb-true, eqb-false}
use Rattle.qg_tree_items.specs.Rows.{ArePieces, IsRun}
use Rattle.qg_tree_items.specs.declared.run.PieceRun.{PieceRun}
use Rattle.qg_tree_items.proofs.Neighbours.{AreApart}
use Rattle.qg_tree_items.proofs.Rows.{IsLast-joined, last_apart}
use Rattle.qg_tree_items.proofs.last.LastFile.joined.Goals as goal
use Rattle.qg_tree_items.proofs.last.LastFile.joined.Goals.{else-eq-via-then-eq+else-self-run, else-eq-via-else-eq}

pub overflow_add-result : goal.overflow_add-result
overflow_add-result c = omega arith

pub returns-then-self-run : goal.returns-then-self-run
returns-then-self-run c front rest last pieces =
    let file = c.args.self.now in
    let run = c.in-Some.run' in
    let same : file.ino ≡ run.ino = eqb-true file.ino run.ino (sym c.eq.ensures ∙ c.if-eq.true) in
    let behind : IsRun run rest = subst (λ (told : Option PieceRun). ArePieces told rest) c.in-Some.is pieces in
    IsLast-joined file _ run front rest last behind same (omega arith) refl refl refl refl refl

pub returns-else-eq : goal.returns-else-eq
returns-else-eq c front rest last pieces =
    let file = c.args.self.now in
    let run = c.in-Some.run' in
    let behind : IsRun run rest = subst (λ (told : Option PieceRun). ArePieces told rest) c.in-Some.is pieces in
    let apart : AreApart file.ino file.end run.ino run.begin = elim c.else-eq.branch [
      | else-eq-via-then-eq+else-self-run w ↦ λ same. omega arith
      | else-eq-via-else-eq w ↦ λ same. absurd (eqb-false file.ino run.ino (sym c.eq.ensures ∙ w.if-eq.false) same)
    ] in
    last_apart file run front rest last behind apart
