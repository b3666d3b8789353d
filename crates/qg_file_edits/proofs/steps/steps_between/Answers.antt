use Rattle.std.proofs.Common.{◌≡◌, Bor, List, Some, ap, sym, ◌∙◌, arith, drop, rules}
use Rattle.std.proofs.lemmas.Grind.{common_steps}
use Rattle.qg_num.specs.declared.piece.Piece.{Piece}
use Rattle.qg_file_edits.specs.declared.step.Step.{Step}
use Rattle.qg_file_edits.specs.Steps.{first_between}
use Rattle.qg_file_edits.proofs.Between.{between-begin, between-end, between-then, gone_after, put_after}
use Rattle.qg_file_edits.proofs.steps.steps_between.Goals.{in-Remove, in-Insert, in-Replace}
use Rattle.qg_file_edits.proofs.steps.steps_between.Goals as goal

pub loop-step-init : goal.loop-step-init
loop-step-init c =
    between-begin c.args.gone.now c.args.put.now c.new-steps.result.items c.as_slice-gone_left.result.now
    c.as_slice-put_left.result.now c.new-steps.ensures.items c.as_slice-gone_left.ensures c.as_slice-put_left.ensures
    c.requires.gone c.requires.put

pub loop-step-preserved : goal.loop-step-preserved
loop-step-preserved c =
    let gone : List Piece = c.loop-step.gone_left.now in
    let put : List Piece = c.loop-step.put_left.now in
    let step : Step = c.in-Some.step in
    let is : ◌≡◌ (Some step) (first_between gone put) = sym c.in-Some.is ∙ c.first_step.ensures in
    let then =
    between-then c.args.gone.now c.args.put.now c.loop-step.steps.items step gone put c.push.new.self.items
    c.match-step.gone_left.now c.match-step.put_left.now is c.loop-step.invariant c.in_ok-push.ensures.items
    in
    elim c.match-step.branch [
      | in-Remove w ↦
          let gone_is : c.match-step.gone_left.now ≡ drop 1 gone =
          first_of (search rules, grind (arith, common_steps))
          in
          let put_is : c.match-step.put_left.now ≡ put = ap (λ (b : Bor (List Piece)). b.now) w.put_left-is in
          then (gone_is ∙ sym (ap (λ (s : Step). gone_after s gone) w.in-Remove.is))
          (put_is ∙ sym (ap (λ (s : Step). put_after s put) w.in-Remove.is))
      | in-Insert w ↦
          let gone_is : c.match-step.gone_left.now ≡ gone = ap (λ (b : Bor (List Piece)). b.now) w.gone_left-is in
          let put_is : c.match-step.put_left.now ≡ drop 1 put =
          first_of (search rules, grind (arith, common_steps))
          in
          then (gone_is ∙ sym (ap (λ (s : Step). gone_after s gone) w.in-Insert.is))
          (put_is ∙ sym (ap (λ (s : Step). put_after s put) w.in-Insert.is))
      | in-Replace w ↦
          let gone_is : c.match-step.gone_left.now ≡ drop 1 gone =
          first_of (search rules, grind (arith, common_steps))
          in
          let put_is : c.match-step.put_left.now ≡ drop 1 put =
          first_of (search rules, grind (arith, common_steps))
          in
          then (gone_is ∙ sym (ap (λ (s : Step). gone_after s gone) w.in-Replace.is))
          (put_is ∙ sym (ap (λ (s : Step). put_after s put) w.in-Replace.is))
    ]

pub loop-step-smaller : goal.loop-step-smaller
loop-step-smaller c =
    elim c.match-step.branch [
      | in-Remove w ↦ search rules
      | in-Insert w ↦ search rules
      | in-Replace w ↦ search rules
    ]

pub returns-clause-value : goal.returns-clause-value
returns-clause-value c =
    between-end c.args.gone.now c.args.put.now c.loop-step.steps.items c.loop-step.gone_left.now
    c.loop-step.put_left.now (sym c.in_default.is ∙ c.first_step.ensures) c.loop-step.invariant
