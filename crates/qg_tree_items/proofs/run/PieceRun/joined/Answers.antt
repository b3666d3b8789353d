use Rattle.std.proofs.Common.{◌≡◌, sym, ◌∙◌, refl, arith}
use Rattle.std.proofs.lemmas.Bool.{eqb-true, eqb-false}
use Rattle.qg_tree_items.proofs.Neighbours.{AreApart}
use Rattle.qg_tree_items.proofs.Rows.{IsRun-joined, runs_apart}
use Rattle.qg_tree_items.proofs.run.PieceRun.joined.Goals as goal
use Rattle.qg_tree_items.proofs.run.PieceRun.joined.Goals.{else-eq-via-then-eq+else-self-behind, else-eq-via-else-eq}

pub overflow_add-result : goal.overflow_add-result
overflow_add-result c = omega arith

pub returns-then-self-behind : goal.returns-then-self-behind
returns-then-self-behind c front rest first second =
    let same : c.args.self.now.ino ≡ c.args.behind.now.ino =
    eqb-true c.args.self.now.ino c.args.behind.now.ino (sym c.eq.ensures ∙ c.if-eq.true) in
    IsRun-joined c.args.self.now c.args.behind.now _ front rest first second same (omega arith) refl refl refl refl

pub returns-else-eq : goal.returns-else-eq
returns-else-eq c front rest first second =
    let run = c.args.self.now in
    let next = c.args.behind.now in
    let apart : AreApart run.ino run.end next.ino next.begin = elim c.else-eq.branch [
      | else-eq-via-then-eq+else-self-behind w ↦ λ same. omega arith
      | else-eq-via-else-eq w ↦ λ same. absurd (eqb-false run.ino next.ino (sym c.eq.ensures ∙ w.if-eq.false) same)
    ] in
    runs_apart run next front rest first second apart
