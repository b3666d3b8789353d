use Rattle.std.proofs.Common.{sym, ◌∙◌}
use Rattle.std.proofs.lemmas.Bool.{true≢false}
use Rattle.qg_edit.proofs.Order.{three-ascend, three-back, three-front, three-middle}
use Rattle.qg_edit.proofs.splicing.are_in_order.Goals.{then-do_ascend, else-do_ascend}
use Rattle.qg_edit.proofs.splicing.are_in_order.Goals as goal

pub returns-then-are_joined : goal.returns-then-are_joined
returns-then-are_joined c = elim c.if-do_ascend.branch [
  | then-do_ascend w ↦ (
    λ is. three-ascend c.args.front.now c.args.new.now c.args.back.now c.requires.some (sym w.are_joined.ensures
        ∙ sym w.value-is ∙ c.if-are_joined.true)
        (sym c.are_joined-then-are_joined.ensures ∙ is),
    λ all. c.are_joined-then-are_joined.ensures ∙ three-back c.args.front.now c.args.new.now c.args.back.now all,
  )
  | else-do_ascend w ↦ absurd (true≢false (sym c.if-are_joined.true ∙ w.value-is ∙ w.if-do_ascend.false))
]

pub returns-else-are_joined : goal.returns-else-are_joined
returns-else-are_joined c = (
  λ is. absurd (true≢false (sym is ∙ c.if-are_joined.false)),
  λ all. elim c.if-do_ascend.branch [
    | then-do_ascend w ↦ w.value-is ∙ w.are_joined.ensures
        ∙ three-front c.args.front.now c.args.new.now c.args.back.now all
    | else-do_ascend w ↦ absurd
        (true≢false (sym (c.do_ascend.ensures ∙ three-middle c.args.front.now c.args.new.now c.args.back.now all)
        ∙ w.if-do_ascend.false))
  ],
)
