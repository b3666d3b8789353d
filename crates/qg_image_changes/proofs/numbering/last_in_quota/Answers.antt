use Rattle.std.proofs.Common.{◌∙◌, ℕ, List, Option, ap, sym}
use Rattle.std.specs.Prelude.{◌==◌, max}
use Rattle.std.specs.List.{filter, fold}
use Rattle.qg_image.specs.Table.{keys_of}
use Rattle.qg_image.specs.declared.quota.Group.{Group}
use Rattle.qg_image.specs.Members.{level_of_group}
use Rattle.qg_qgroups.specs.declared.state.QuotaState.{QuotaState}
use Rattle.qg_qgroups.specs.Changing.{groups_in}
use Rattle.qg_qgroups.specs.Tracked.{quota_of}
use Rattle.qg_image_changes.proofs.numbering.last_in_quota.Goals as goal

pub returns-in-None-clause-value : goal.returns-in-None-clause-value
returns-in-None-clause-value c =
    ap (λ (quota : Option QuotaState). fold max c.args.from
    (filter (λ (group : ℕ). level_of_group group == 0) (groups_in (quota_of quota)))) (sym c.in-None.is)

pub returns-in-Some-clause-value : goal.returns-in-Some-clause-value
returns-in-Some-clause-value c =
    c.last_group.ensures.value
    ∙ ap (λ (table : List (ℕ × Group)). fold max c.args.from
    (filter (λ (group : ℕ). level_of_group group == 0) (keys_of table))) c.as_slice.ensures
    ∙ ap (λ (quota : Option QuotaState). fold max c.args.from
    (filter (λ (group : ℕ). level_of_group group == 0) (groups_in (quota_of quota)))) (sym c.in-Some.is)
