use Rattle.std.proofs.Common.{◌+◌, refl, sym, ap, subst, ◌∙◌, arith, drop, length}
use Rattle.std.proofs.lemmas.List.{length-drop}
use Rattle.qg_image.specs.Owed.{are_references}
use Rattle.qg_backref_rule.specs.Judged.{counts_told}
use Rattle.qg_backref_rule.proofs.InOrder.{Up, up_by, up_drop}
use Rattle.qg_backref_rule.proofs.Rounds.{tail_front}
use Rattle.qg_backref_rule.proofs.OneAddress.{next_told, next_differs, all_told}
use Rattle.qg_backref_rule.proofs.references.are_references.Goals as goal
use Rattle.qg_backref_rule.proofs.references.are_references.Goals.{then-times-eq0-via-then-times-eq0}
use Rattle.qg_backref_rule.proofs.references.are_references.Goals.{then-times-eq0-via-else-times-eq0+then-times-entry}

pub loop-entry-init : goal.loop-entry-init
loop-entry-init c = record { same = refl; short = omega arith; up = up_by (λ r. r) c.args.owed.now c.requires.owed }

pub returns-then-times-eq0 : goal.returns-then-times-eq0
returns-then-times-eq0 c =
    sym (next_differs c.args.told.now c.loop-entry.entry-index c.entry-item.result c.loop-entry.left.now c.requires.told
    c.loop-entry-test.true c.entry-item.is c.loop-entry.invariant.up
    c.times_first-times.result c.times_first-times.ensures.front (λ same some. elim c.then-times-eq0.branch [
      | then-times-eq0-via-then-times-eq0 w ↦ omega (arith, w.if-times-eq0.true, some)
      | then-times-eq0-via-else-times-eq0+then-times-entry w ↦ omega (arith, w.if-times-entry.true, same)
    ]))
    ∙ c.loop-entry.invariant.same

pub loop-entry-preserved : goal.loop-entry-preserved
loop-entry-preserved c =
    let left = c.loop-entry.left.now in
    let n = c.times_first-times.result in
    let rest = tail_front n n left refl in
    record {
      same = ap (λ ws. are_references (counts_told (drop (c.loop-entry.entry-index + 1) c.args.told.now)) ws) rest
          ∙ sym (next_told c.args.told.now c.loop-entry.entry-index c.entry-item.result left c.requires.told
          c.loop-entry-test.true c.entry-item.is c.loop-entry.invariant.up
          n c.times_first-times.ensures.front (omega (arith, c.if-times-entry.false))
          (omega (arith, c.if-times-eq0.false)))
          ∙ c.loop-entry.invariant.same;
      short = omega (arith, ap length rest, length-drop n left, c.loop-entry.invariant.short);
      up = subst (Up (λ r. r)) (sym rest) (up_drop (λ r. r) n left c.loop-entry.invariant.up);
    }

pub returns : goal.returns
returns c =
    c.is_empty.ensures ∙ sym (all_told c.args.told.now c.loop-entry.entry-index c.loop-entry.left.now
    (omega (arith, c.loop-entry-test.false))) ∙ c.loop-entry.invariant.same
