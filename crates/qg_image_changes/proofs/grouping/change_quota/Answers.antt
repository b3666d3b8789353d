use Rattle.std.proofs.Common.{◌≡◌, ◌∙◌, ap, subst, sym}
use Rattle.std.specs.Prelude.{OnOk}
use Rattle.qg_image.specs.Table.{keys_of}
use Rattle.qg_num.specs.declared.command.Command.{Command}
use Rattle.qg_qgroups.specs.OnOrOff.{quota_changed}
use Rattle.qg_qgroups.specs.Tracked.{quota_of}
use Rattle.qg_image_changes.proofs.Fitting.{on-ok}
use Rattle.qg_image_changes.proofs.GroupAdded.{bounded-still, none-still}
use Rattle.qg_image_changes.proofs.Regrouped.{changed-other, free-tracked, most-none}
use Rattle.qg_image_changes.proofs.grouping.change_quota.Goals as goal

pub change_tracked-requires : goal.change_tracked-requires
change_tracked-requires c = record {
  tracked = c.requires.tracked;
  free = free-tracked c.args.kept.now (keys_of c.args.kept.now.snapshots) c.args.command.now c.requires.free;
}

-- ---- on

pub returns-in-QuotaOn-clause-changed : goal.returns-in-QuotaOn-clause-changed
returns-in-QuotaOn-clause-changed c =
    let old = c.args.kept.now in
    subst (λ (given : Command). OnOk c.turn_on.result (quota_of c.turn_on.new.kept.quota
    ≡ quota_changed c.args.stamp (keys_of old.snapshots) given (quota_of old.quota))) (sym c.in-QuotaOn.is)
    c.turn_on.ensures.quota

pub returns-in-QuotaOn-clause-most : goal.returns-in-QuotaOn-clause-most
returns-in-QuotaOn-clause-most c =
    on-ok _ _ c.turn_on.result (λ none bound most. most-none c.turn_on.new.kept bound none) c.turn_on.ensures.none

pub returns-in-QuotaOn-clause-none : goal.returns-in-QuotaOn-clause-none
returns-in-QuotaOn-clause-none c =
    on-ok _ _ c.turn_on.result (λ none held. none) c.turn_on.ensures.none

-- ---- off

pub returns-in-QuotaOff-clause-changed : goal.returns-in-QuotaOff-clause-changed
returns-in-QuotaOff-clause-changed c =
    let old = c.args.kept.now in
    ap (λ (given : Command). quota_changed c.args.stamp (keys_of old.snapshots) given (quota_of old.quota))
    (sym c.in-QuotaOff.is)

pub returns-in-QuotaOff-clause-most : goal.returns-in-QuotaOff-clause-most
returns-in-QuotaOff-clause-most c = λ bound most. tt

pub returns-in-QuotaOff-clause-none : goal.returns-in-QuotaOff-clause-none
returns-in-QuotaOff-clause-none c = λ held. tt

-- ---- neither

pub returns-in_default-clause-changed : goal.returns-in_default-clause-changed
returns-in_default-clause-changed c =
    let old = c.args.kept.now in
    on-ok _ _ c.change_tracked.result
    (λ is. is ∙ sym (changed-other c.args.stamp (keys_of old.snapshots) c.args.command.now (quota_of old.quota)
    c.in_default.not-QuotaOn c.in_default.not-QuotaOff)) c.change_tracked.ensures.changed

pub returns-in_default-clause-most : goal.returns-in_default-clause-most
returns-in_default-clause-most c =
    on-ok _ _ c.change_tracked.result
    (λ held bound most. bounded-still c.args.kept.now c.change_tracked.new.kept bound held most)
    c.change_tracked.ensures.held

pub returns-in_default-clause-none : goal.returns-in_default-clause-none
returns-in_default-clause-none c =
    on-ok _ _ c.change_tracked.result
    (λ held holds. none-still c.args.kept.now c.change_tracked.new.kept held holds)
    c.change_tracked.ensures.held
