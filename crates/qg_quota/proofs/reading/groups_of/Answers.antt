use Rattle.std.proofs.Common.{◌≡◌, ℕ, List, map, ap, ◌∙◌}
use Rattle.std.specs.Prelude.{Option}
use Rattle.std.proofs.lemmas.List.{take_all}
use Rattle.qg_items.specs.declared.quota.QgroupLimit.{QgroupLimit}
use Rattle.qg_image.specs.Table.{value_at}
use Rattle.qg_image.specs.declared.quota.Group.{Group}
use Rattle.qg_image.specs.ImageState.{group_told}
use Rattle.qg_quota.specs.QuotaKinds.{group_by}
use Rattle.qg_quota.proofs.Lists.{map-next}
use Rattle.qg_quota.proofs.reading.groups_of.Goals as goal

pub loop-entry-preserved : goal.loop-entry-preserved
loop-entry-preserved c =
    let told = c.args.told.now in
    let entry = c.entry-item.result in
    let made : (entry.0, c.group_told.result) ≡ group_by told entry =
    ap (λ (group : Group). (entry.0, group))
    (c.group_told.ensures ∙ ap (λ (limit : Option QgroupLimit). group_told entry.1 limit)
    (c.value_of-limit.ensures
    ∙ ap (λ (limits : List (ℕ × QgroupLimit)). value_at entry.0 limits) c.as_slice-limits.ensures)) in
    map-next (group_by told) c.as_slice-infos.result.now c.loop-entry.groups c.push.new.self c.loop-entry.entry-index
    entry (entry.0, c.group_told.result)
    c.loop-entry-test.true c.entry-item.is made c.loop-entry.invariant c.in_ok-push.ensures.ok

pub returns : goal.returns
returns c =
    c.loop-entry.invariant
    ∙ ap (map (group_by c.args.told.now))
    (take_all c.loop-entry.entry-index c.as_slice-infos.result.now c.loop-entry-test.false
    ∙ c.as_slice-infos.ensures)
