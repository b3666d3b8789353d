use Rattle.std.proofs.Common.{Option, sym, ap}
use Rattle.qg_qgroups.specs.declared.state.QuotaState.{QuotaState}
use Rattle.qg_qgroups.specs.Tracked.{quota_of}
use Rattle.qg_fs_laws.specs.Trees.{quota_trees}
use Rattle.qg_open_image.proofs.need.quota_trees_of.Goals as goal

pub returns-in-None-clause-value : goal.returns-in-None-clause-value
returns-in-None-clause-value c = ap (λ (quota : Option QuotaState). quota_trees (quota_of quota)) (sym c.in-None.is)

pub returns-in-Some-clause-value : goal.returns-in-Some-clause-value
returns-in-Some-clause-value c = ap (λ (quota : Option QuotaState). quota_trees (quota_of quota)) (sym c.in-Some.is)
