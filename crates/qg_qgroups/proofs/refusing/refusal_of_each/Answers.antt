use Rattle.std.proofs.Common.{ℕ, List, Some, ap, sym, ◌∙◌}
use Rattle.std.specs.Prelude.{◌||◌, ◌==◌}
use Rattle.std.proofs.lemmas.List.{drop_all}
use Rattle.qg_qgroups.specs.Groups.{has_number}
use Rattle.qg_qgroups.specs.OnOrOff.{parents_refusal}
use Rattle.qg_qgroups.proofs.RefusedByEach.{list-told, parents-next, parents-told}
use Rattle.qg_qgroups.proofs.refusing.refusal_of_each.Goals as goal

pub loop-parent-init : goal.loop-parent-init
loop-parent-init c =
    sym (ap (λ (keys : List ℕ). parents_refusal (Some c.args.state.now.quota) keys c.args.parents.now)
    c.new-earlier.ensures.empty)

pub loop-parent-preserved : goal.loop-parent-preserved
loop-parent-preserved c =
    let earlier = c.loop-parent.earlier.keys in
    c.loop-parent.invariant
    ∙ parents-next c.args.state.now.quota earlier c.args.parents.now c.loop-parent.parent-index c.parent-item.result
    c.refusal_of_parent-refused.result
    c.loop-parent-test.true c.parent-item.is c.refusal_of_parent-refused.ensures c.put_number.new.numbers.keys
    (sym c.if-is_some.ensures)
    (λ other. c.in_ok-put_number.ensures other
    ∙ ap (λ (n : ℕ). (n == other) || has_number other earlier) c.number.ensures)

pub returns-then-is_some : goal.returns-then-is_some
returns-then-is_some c =
    parents-told c.args.state.now.quota c.loop-parent.earlier.keys c.args.parents.now c.loop-parent.parent-index
    c.parent-item.result
    c.refusal_of_parent-refused.result c.loop-parent-test.true c.parent-item.is c.refusal_of_parent-refused.ensures
    (sym c.if-is_some.ensures)
    ∙ sym (list-told c.args.state.now.quota c.args.parents.now ∙ c.loop-parent.invariant)

pub returns : goal.returns
returns c =
    sym (list-told c.args.state.now.quota c.args.parents.now ∙ c.loop-parent.invariant
    ∙ ap (λ (rest : List ℕ). parents_refusal (Some c.args.state.now.quota) c.loop-parent.earlier.keys rest)
    (drop_all c.loop-parent.parent-index c.args.parents.now c.loop-parent-test.false))
