use Rattle.std.proofs.Common.{subst, sym}
use Rattle.qg_num.specs.declared.answer.Answer.TheVariants.{Done}
use Rattle.qg_open_image.specs.declared.open_image.OpenImage.{OpenImage}
use Rattle.qg_open_image.specs.Keeping.{IsFitted}
use Rattle.qg_image_changes.specs.Changing.{IsChanged}
use Rattle.qg_image_changes.proofs.Regrouped.{changed-regrouped, fitted-regrouped, regrouped-so}
use Rattle.qg_image_changes.proofs.grouping.change_groups.Goals as goal

pub change_quota-requires : goal.change_quota-requires
change_quota-requires c = record {
  tracked = c.requires.fitted.tracked;
  ascending = c.requires.fitted.subvolumes.ascending;
  free = c.requires.free;
}

pub returns-clause-fitted : goal.returns-clause-fitted
returns-clause-fitted c =
    let old = c.args.kept.now in
    let new = c.change_quota.new.kept in
    let done = c.in_ok-change_quota.ensures in
    subst IsFitted (sym done.rest)
    (fitted-regrouped old c.args.command.now new.quota c.requires.fitted c.requires.free
    (regrouped-so old new c.args.command.now c.next-next.result c.next-next.ensures done.changed done.tracked done.most
    done.none))

pub returns-clause-changed : goal.returns-clause-changed
returns-clause-changed c = λ state history keeps none.
    let old = c.args.kept.now in
    let new = c.change_quota.new.kept in
    let done = c.in_ok-change_quota.ensures in
    subst (λ (kept : OpenImage). IsChanged state c.args.command.now Done kept history) (sym done.rest)
    (changed-regrouped old c.args.command.now new.quota c.requires.fitted c.requires.free
    (regrouped-so old new c.args.command.now c.next-next.result c.next-next.ensures done.changed done.tracked done.most
    done.none) state history keeps none c.requires.group c.requires.room)
