use Rattle.std.proofs.Common.{◌≡◌, ℕ, ap, sym, subst, ◌∙◌}
use Rattle.qg_image.specs.declared.quota.Quota.{Quota}
use Rattle.qg_image.specs.Members.{hierarchy_of, level_of_group}
use Rattle.qg_qgroups.specs.Faults.{create_fault}
use Rattle.qg_qgroups.specs.Changing.{CanJoin}
use Rattle.qg_qgroups.proofs.RelatedPairs.{can-join}
use Rattle.qg_qgroups.proofs.state.QuotaState.inherit.Goals as goal

pub assign_all-requires-clause-member : goal.assign_all-requires-clause-member
assign_all-requires-clause-member c =
    let old = c.args.self.now.quota in
    let member = c.from_number-member.result in
    let is : member ≡ c.args.copy = c.from_number-member.ensures ∙ c.value-2.ensures in
    subst (λ (q : Quota). CanJoin q member c.args.parents.now) (sym c.in_ok-put.ensures.quota)
    (can-join old member c.with_limits-group.result c.args.parents.now c.requires.tracked.sound
    (ap (λ (n : ℕ). create_fault (hierarchy_of old) n) is ∙ c.requires.free) (ap (λ (n : ℕ). level_of_group n) is
    ∙ c.requires.level) c.requires.parents)
