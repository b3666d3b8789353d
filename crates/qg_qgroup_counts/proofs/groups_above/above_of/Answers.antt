use Rattle.std.proofs.Common.{ℕ, ◌≡◌, ◌+◌, List, sym, subst}
use Rattle.qg_image.specs.Members.{is_member, level_of_group}
use Rattle.qg_owner_rule.proofs.Listed.{at_read}
use Rattle.qg_qgroup_counts.specs.GroupsOf.{ArePlaces}
use Rattle.qg_qgroup_counts.proofs.GroupsAbove.{MembershipsFirst, memberships_none, memberships_more, memberships_all}
use Rattle.qg_qgroup_counts.proofs.groups_above.above_of.Goals as goal

pub loop-root-init : goal.loop-root-init
loop-root-init c =
    subst (MembershipsFirst c.args.roots.now c.args.hierarchy.now 0) (sym c.in_ok-above.ensures.items)
    (memberships_none c.args.roots.now c.args.hierarchy.now)

pub places_above-requires-clause-lowest : goal.places_above-requires-clause-lowest
places_above-requires-clause-lowest c =
    let root = c.root-item.result in
    subst (λ (r : ℕ × ℕ). level_of_group r.0 ≡ 0) (sym c.root-item.is)
    (c.requires.lowest c.loop-root.root-index root c.loop-root-test.true)

pub loop-root-preserved : goal.loop-root-preserved
loop-root-preserved c =
    let roots = c.args.roots.now in
    let hierarchy = c.args.hierarchy.now in
    let i = c.loop-root.root-index in
    let root = c.root-item.result in
    let here = at_read roots i root c.loop-root-test.true c.root-item.is in
    let places = c.in_ok-places_above.field-0 in
    let are =
    subst (λ (groups : List ℕ). ArePlaces groups (λ group. is_member hierarchy group root.0) places) c.requires.groups
    c.in_ok-places_above.ensures in
    subst (MembershipsFirst roots hierarchy (i + 1)) (sym c.in_ok-push.ensures.items)
    (memberships_more roots hierarchy i root c.loop-root.above.items places here are c.loop-root.invariant)

pub returns : goal.returns
returns c =
    memberships_all c.args.roots.now c.args.hierarchy.now c.loop-root.root-index c.loop-root.above.items
    c.loop-root-test.false c.loop-root.invariant
