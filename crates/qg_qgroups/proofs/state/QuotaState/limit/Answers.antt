use Rattle.std.proofs.Common.{ℕ, List, refl, ap, sym, ◌∙◌}
use Rattle.qg_image.specs.Table.{value_at, with_value}
use Rattle.qg_image.specs.declared.quota.Group.{Group}
use Rattle.qg_qgroups.specs.declared.state.QuotaState.{QuotaState}
use Rattle.qg_qgroups.proofs.Agreed.{ok-then, tracked-limited}
use Rattle.qg_qgroups.proofs.state.QuotaState.limit.Goals as goal

pub returns-clause-tracked : goal.returns-clause-tracked
returns-clause-tracked c =
    let old = c.args.self.now in
    let new : QuotaState = record {
      quota = record { groups = c.put_group.new.groups; pairs = old.quota.pairs };
      hierarchy = old.hierarchy;
      limits = c.set.new.self;
    } in
    ok-then c.set.result _ _
    (tracked-limited old new c.requires.tracked c.args.number c.in-Some.group c.args.which c.args.max
    (ap (λ (t : List (ℕ × Group)). value_at c.args.number t) (sym c.as_slice.ensures) ∙ sym c.find_group.ensures
    ∙ c.in-Some.is)
    (c.in_ok-put_group.ensures ∙ ap (λ (g : Group). with_value c.args.number g old.quota.groups) c.with_limit.ensures)
    refl refl)
    c.set.ensures.ok
