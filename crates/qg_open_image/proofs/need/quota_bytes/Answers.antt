use Rattle.std.proofs.Common.{Option, sym, ap, ◌∙◌}
use Rattle.std.proofs.lemmas.Result.{IfOk-weaker}
use Rattle.qg_qgroups.specs.declared.state.QuotaState.{QuotaState}
use Rattle.qg_qgroups.specs.Tracked.{quota_of}
use Rattle.qg_fs_laws.specs.Trees.{quota_tree_bytes}
use Rattle.qg_open_image.proofs.need.quota_bytes.Goals as goal

pub returns-in-None-clause-value : goal.returns-in-None-clause-value
returns-in-None-clause-value c =
    ap (λ (quota : Option QuotaState). quota_tree_bytes (quota_of quota)) (sym c.in-None.is)

pub returns-in-Some-clause-value : goal.returns-in-Some-clause-value
returns-in-Some-clause-value c =
    IfOk-weaker c.bytes_of_quota.result _ _
    (λ bytes is. is ∙ ap (λ (quota : Option QuotaState). quota_tree_bytes (quota_of quota)) (sym c.in-Some.is))
    c.bytes_of_quota.ensures.value
