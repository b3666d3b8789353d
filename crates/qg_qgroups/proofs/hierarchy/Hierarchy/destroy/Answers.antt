use Rattle.std.proofs.Common.{◌≡◌, ℕ, true, None, Some, sym, subst}
use Rattle.qg_machine.specs.Members.{Hierarchy}
use Rattle.qg_qgroups.specs.declared.fault.HierFault.TheVariants as why
use Rattle.qg_qgroups.specs.Faults.{destroy_fault}
use Rattle.qg_qgroups.specs.Groups.{has_number}
use Rattle.qg_qgroups.specs.Kept.{seen}
use Rattle.qg_qgroups.proofs.Related.{destroy_busy, destroy_free, kept_destroyed, members_none, members_some, no_other}
use Rattle.qg_qgroups.proofs.Related.{some_other}
use Rattle.qg_qgroups.proofs.hierarchy.Hierarchy.destroy.Goals as goal

pub returns-then-is_some-clause-cause : goal.returns-then-is_some-clause-cause
returns-then-is_some-clause-cause c =
    let n = c.self.inside in
    let number = c.number-number.result in
    let other = some_other number n.down.keys c.first_other.result c.first_other.ensures (sym c.if-is_some.ensures) in
    let busy = members_some n.groups n.up n.down number other.0 c.self.invariant other.1 in
    let has : has_number number n.groups.keys ≡ true = sym c.if-not-has_number.ensures in
    subst (λ (hierarchy : Hierarchy). destroy_fault hierarchy c.args.group ≡ Some why.Busy) c.self.view_is
    (subst (λ (group : ℕ). destroy_fault (seen n.groups n.up) group ≡ Some why.Busy) c.number-number.ensures
    (destroy_busy (seen n.groups n.up) number has busy))

pub invariant_of-self : goal.invariant_of-self
invariant_of-self c =
    let n = c.self.inside in
    let number = c.number-number.result in
    kept_destroyed n.groups c.take_number.new.numbers n.up n.down c.take_others.new.pairs c.take_others.new.turned
    number c.self.invariant
    (no_other number n.down.keys c.first_other.result c.first_other.ensures (sym c.if-is_some.ensures))
    c.take_others.ensures.left c.take_others.ensures.same
    c.take_others.ensures.ordered.0 c.take_others.ensures.ordered.1 c.take_others.ensures.fit.0
    c.take_others.ensures.fit.1 c.take_number.ensures.has c.take_number.ensures.ordered

pub returns-clause-none : goal.returns-clause-none
returns-clause-none c =
    let n = c.self.inside in
    let number = c.number-number.result in
    let free = members_none n.groups n.up n.down number c.self.invariant
    (no_other number n.down.keys c.first_other.result c.first_other.ensures (sym c.if-is_some.ensures)) in
    let has : has_number number n.groups.keys ≡ true = sym c.if-not-has_number.ensures in
    subst (λ (hierarchy : Hierarchy). destroy_fault hierarchy c.args.group ≡ None) c.self.view_is
    (subst (λ (group : ℕ). destroy_fault (seen n.groups n.up) group ≡ None) c.number-number.ensures
    (destroy_free (seen n.groups n.up) number has free))
