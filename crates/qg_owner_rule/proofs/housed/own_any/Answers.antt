use Rattle.std.proofs.Common.{inl, inr, sym, subst, ◌∙◌}
use Rattle.std.proofs.lemmas.List.{take_all}
use Rattle.qg_owner_rule.specs.Housed.{OwnNone}
use Rattle.qg_owner_rule.proofs.Listed.{at_read}
use Rattle.qg_owner_rule.proofs.Ascending.{absent_at}
use Rattle.qg_owner_rule.proofs.Housing.{own_more}
use Rattle.qg_owner_rule.proofs.housed.own_any.Goals as goal
use Rattle.qg_owner_rule.proofs.housed.own_any.Goals.{else-not-housed-i-via-then-not-housed-i+else-is_some}
use Rattle.qg_owner_rule.proofs.housed.own_any.Goals.{else-not-housed-i-via-else-not-housed-i}

pub loop-i-preserved : goal.loop-i-preserved
loop-i-preserved c =
    let i = c.loop-i.i in
    let node = c.index-nodes-i.result in
    let at = at_read c.args.nodes.now i node c.loop-i-test.true c.index-nodes-i.is in
    own_more c.args.nodes.now c.args.group.now c.args.housed.now i node at (elim c.else-not-housed-i.branch [
      | else-not-housed-i-via-then-not-housed-i+else-is_some w ↦
          inr (absent_at _ w.place_of_root.result (sym w.is_some.ensures ∙ w.if-is_some.false)
          w.place_of_root.ensures.absent)
      | else-not-housed-i-via-else-not-housed-i w ↦ inl w.if-not-housed-i.false
    ]) c.loop-i.invariant

pub returns : goal.returns
returns c =
    λ no. subst (λ nodes. OwnNone nodes c.args.group.now c.args.housed.now)
    (take_all c.loop-i.i c.args.nodes.now c.loop-i-test.false) c.loop-i.invariant
