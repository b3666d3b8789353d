use Rattle.std.proofs.Common.{sym, ◌∙◌}
use Rattle.qg_qgroups.specs.declared.state.QuotaState.{QuotaState}
use Rattle.qg_qgroups.proofs.Agreed.{ok-of, tracked-left}
use Rattle.qg_qgroups.proofs.state.QuotaState.destroy.Goals as goal

pub returns-clause-tracked : goal.returns-clause-tracked
returns-clause-tracked c =
    let new : QuotaState = record {
      quota = record { groups = c.take_group.new.groups; pairs = c.in_ok-self.field-0 };
      hierarchy = c.destroy.new.self;
      limits = c.set_both.new.limits;
    } in
    tracked-left c.args.self.now new c.requires.tracked c.args.number c.take_group.ensures
    (ok-of c.destroy.result _ (sym c.is_err.ensures.value ∙ c.if-is_err.false) c.destroy.ensures.ok)
    c.in_ok-self.ensures.ok c.in_ok-self.ensures.sound
    c.in_ok-set_both.ensures.ok
