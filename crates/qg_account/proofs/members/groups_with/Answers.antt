use Rattle.std.proofs.Common.{sym, ap, ◌∙◌}
use Rattle.std.proofs.lemmas.Bool.{ne_eqb}
use Rattle.qg_image.specs.Members.{level_of_group}
use Rattle.qg_qgroups.specs.declared.fault.HierFault.TheVariants as why
use Rattle.qg_qgroups.specs.Groups.{groups_above, is_kept}
use Rattle.qg_qgroup_counts.proofs.GroupsAbove.{kept_is, lost_is}
use Rattle.qg_account.proofs.GroupMembers.{groups-above, groups-higher, groups-lone}
use Rattle.qg_account.proofs.members.groups_with.Goals as goal

pub returns-then-level-ne0 : goal.returns-then-level-ne0
returns-then-level-ne0 c =
    let level = c.level.ensures.value ∙ ap level_of_group (c.from_number-own.ensures ∙ c.value.ensures) in
    c.new.ensures
    ∙ sym (groups-higher c.args.hierarchy.now c.args.sub
    (ne_eqb (level_of_group c.args.sub) 0 (λ none. c.if-level-ne0.true (level ∙ none))))

pub returns-in-Ok : goal.returns-in-Ok
returns-in-Ok c =
    let hierarchy = c.args.hierarchy.now in
    let own = c.from_number-own.ensures ∙ c.value.ensures in
    c.in-Ok.ensures.ok ∙ ap (groups_above hierarchy) own
    ∙ groups-above hierarchy c.args.sub
    (ap (is_kept hierarchy) (sym own)
    ∙ kept_is (is_kept hierarchy c.from_number-own.result) why.NoGroup c.in-Ok.ensures.none)
    (sym (c.level.ensures.value ∙ ap level_of_group own) ∙ c.if-level-ne0.false)

pub returns-in-Err-NoGroup : goal.returns-in-Err-NoGroup
returns-in-Err-NoGroup c =
    let hierarchy = c.args.hierarchy.now in
    let own = c.from_number-own.ensures ∙ c.value.ensures in
    let cause = rw c.in-Err-NoGroup.field-0-is at c.in-Err-NoGroup.ensures.cause in
    c.new-in-Err-NoGroup.ensures
    ∙ sym (groups-lone hierarchy c.args.sub
    (ap (is_kept hierarchy) (sym own) ∙ lost_is (is_kept hierarchy c.from_number-own.result) cause))
