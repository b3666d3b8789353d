use Rattle.std.proofs.Common.{ℕ, List, length, sym, ap, subst, ◌∙◌}
use Rattle.std.proofs.lemmas.List.{take_at}
use Rattle.qg_owner_rule.specs.Marks.{HaveGone, AreOfReach}
use Rattle.qg_owner_rule.proofs.Spreading.{gone_from_roots}
use Rattle.qg_owner_rule.proofs.marks.marks_of.Goals as goal

pub returns-clause-reach : goal.returns-clause-reach
returns-clause-reach c =
    let nodes = c.args.nodes.now in
    let group = c.args.group.now in
    let rows = c.in_ok-rows.rows in
    let new = c.spread.new.rows in
    let value = c.as_mut_slice.ensures.value in
    let same = c.spread.auto.rows ∙ ap (λ (list : List ℕ). length list) value ∙ sym rows.ok.0 in
    subst (AreOfReach nodes group) (sym (take_at new _ rows.len same))
    (gone_from_roots nodes group rows.items new c.in_ok-rows.ensures.roots
    (subst (λ (first : List ℕ). HaveGone nodes first new) value c.spread.ensures))
