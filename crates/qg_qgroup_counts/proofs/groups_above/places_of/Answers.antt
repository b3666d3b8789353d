use Rattle.std.proofs.Common.{◌≡◌, ◌+◌, false, take, Some, sym, ap, subst, ◌∙◌}
use Rattle.std.proofs.lemmas.List.{get_or_default}
use Rattle.qg_qgroups.specs.Groups.{has_number}
use Rattle.qg_qgroup_counts.specs.GroupsOf.{ArePlaces}
use Rattle.qg_qgroup_counts.proofs.GroupsAbove.{places_none, places_other, places_more, places_all}
use Rattle.qg_qgroup_counts.proofs.groups_above.places_of.Goals as goal
use Rattle.qg_qgroup_counts.proofs.groups_above.places_of.Goals.{in-Some+in_ok-push, in_default}

pub loop-group-init : goal.loop-group-init
loop-group-init c =
    let groups = c.args.groups.now in
    let above = c.args.above.now in
    subst (ArePlaces groups (λ group. has_number group (take 0 above))) (sym c.new-places.ensures)
    (places_none groups c.requires.groups above c.requires.above)

pub loop-group-preserved : goal.loop-group-preserved
loop-group-preserved c =
    let groups = c.args.groups.now in
    let above = c.args.above.now in
    let i = c.loop-group.group-index in
    let short = c.loop-group-test.true in
    let places = c.loop-group.places in
    let before = c.loop-group.invariant in
    let group = c.group-item.result in
    let is = c.group-item.is ∙ get_or_default above i group 0 short in
    elim c.match-place_of_group.branch [
      | in-Some+in_ok-push w ↦
          subst (ArePlaces groups (λ group. has_number group (take (i + 1) above)))
          (sym (w.places-is ∙ w.in_ok-push.ensures.ok))
          (places_more groups c.requires.groups above c.requires.above i places short before w.in-Some.place
          (w.in-Some.ensures ∙ ap Some is))
      | in_default w ↦
          subst (ArePlaces groups (λ group. has_number group (take (i + 1) above))) (sym w.places-is)
          (places_other groups c.requires.groups above c.requires.above i places short before
          (subst (λ n. has_number n groups ≡ false) is w.in_default.ensures))
    ]

pub returns : goal.returns
returns c =
    places_all c.args.groups.now c.requires.groups c.args.above.now c.requires.above c.loop-group.group-index
    c.loop-group.places c.loop-group-test.false c.loop-group.invariant
