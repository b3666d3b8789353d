use Rattle.std.proofs.Common.{refl, sym, ◌∙◌}
use Rattle.qg_qgroups.specs.declared.state.QuotaState.{QuotaState}
use Rattle.qg_qgroups.proofs.Agreed.{tracked-recounted}
use Rattle.qg_qgroups.proofs.Paths.{reserved-none}
use Rattle.qg_qgroups.proofs.state.QuotaState.settle.Goals as goal

pub returns-clause-tracked : goal.returns-clause-tracked
returns-clause-tracked c =
    let new : QuotaState = record {
      quota = c.args.quota;
      hierarchy = c.args.self.now.hierarchy;
      limits = c.release_all.new.self;
    } in
    tracked-recounted c.args.self.now new c.requires.tracked c.requires.counted refl c.release_all.ensures.maxima

pub returns-clause-none : goal.returns-clause-none
returns-clause-none c group = c.release_all.ensures.none group ∙ sym (reserved-none _ group)
