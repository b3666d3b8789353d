use Rattle.qg_qgroups.specs.declared.state.QuotaState.{QuotaState}
use Rattle.qg_qgroups.proofs.Agreed.{tracked-put}
use Rattle.qg_qgroups.proofs.state.QuotaState.put.Goals as goal

pub returns-clause-tracked : goal.returns-clause-tracked
returns-clause-tracked c =
    let new : QuotaState = record {
      quota = record { groups = c.put_group.new.groups; pairs = c.in_ok-self.field-0 };
      hierarchy = c.create.new.self;
      limits = c.set_both.new.limits;
    } in
    tracked-put c.args.self.now new c.requires.tracked c.args.number c.args.group c.in_ok-put_group.ensures
    c.in_default.ensures.ok c.in_ok-self.ensures.ok c.in_ok-self.ensures.sound
    c.in_ok-set_both.ensures.ok
