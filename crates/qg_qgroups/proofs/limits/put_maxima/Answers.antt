use Rattle.std.proofs.Common.{ℕ, Some, None, refl, subst}
use Rattle.std.specs.BTreeMap.{Updates}
use Rattle.std.specs.Ordering.{nat_cmp}
use Rattle.qg_qgroups.proofs.HeldBytes.{maxima_set, without_both}
use Rattle.qg_qgroups.proofs.limits.put_maxima.Goals as goal

pub returns-then-is_none-2-clause-ok : goal.returns-then-is_none-2-clause-ok
returns-then-is_none-2-clause-ok c =
    maxima_set c.args.maxima.now c.remove.new.self c.args.group None c.args.both
    (subst (λ (k : ℕ). Updates nat_cmp c.args.maxima.now c.remove.new.self k None) c.number.ensures
    c.remove.ensures.updates)
    (without_both c.args.both c.if-is_none.ensures c.if-is_none-2.ensures)

pub returns-clause-ok : goal.returns-clause-ok
returns-clause-ok c =
    maxima_set c.args.maxima.now c.insert.new.self c.args.group (Some c.args.both) c.args.both
    (subst (λ (k : ℕ). Updates nat_cmp c.args.maxima.now c.insert.new.self k (Some c.args.both)) c.number-2.ensures
    c.in_ok-insert.ensures.updates) refl
