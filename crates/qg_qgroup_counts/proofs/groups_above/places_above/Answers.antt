use Rattle.std.proofs.Common.{ℕ, List, sym, subst, ◌∙◌}
use Rattle.std.specs.List.Sorted.{IsStrictlyIncreasing}
use Rattle.std.proofs.lemmas.Map.Keys.{IsStrictlyIncreasing-from_sorted}
use Rattle.qg_image.specs.Members.{is_member}
use Rattle.qg_qgroups.specs.Groups.{groups_above, has_number}
use Rattle.qg_qgroups.proofs.HierarchyChanges.{above_ascends}
use Rattle.qg_qgroup_counts.specs.GroupsOf.{ArePlaces}
use Rattle.qg_qgroup_counts.proofs.GroupsAbove.{places_kept, places_lone}
use Rattle.qg_qgroup_counts.proofs.PortionWeights.{came}
use Rattle.qg_qgroup_counts.proofs.groups_above.places_above.Goals as goal

pub places_of-requires-clause-groups : goal.places_of-requires-clause-groups
places_of-requires-clause-groups c =
    let hierarchy = c.args.hierarchy.now in
    subst IsStrictlyIncreasing (sym c.requires.groups)
    (IsStrictlyIncreasing-from_sorted hierarchy.groups c.above.ensures.sound.groups)

pub places_of-requires-clause-above : goal.places_of-requires-clause-above
places_of-requires-clause-above c =
    let hierarchy = c.args.hierarchy.now in
    let number = c.from_number.result in
    subst IsStrictlyIncreasing (sym (c.as_slice.ensures ∙ c.in-Ok.ensures.ok))
    (IsStrictlyIncreasing-from_sorted (groups_above hierarchy number)
    (above_ascends hierarchy number c.above.ensures.sound))

pub returns-in-Ok : goal.returns-in-Ok
returns-in-Ok c =
    let hierarchy = c.args.hierarchy.now in
    let sub = c.args.subvolume in
    let groups = c.args.groups.now in
    let shown = c.as_slice.result.now in
    came (λ (places : List ℕ). ArePlaces groups (λ group. has_number group shown) places)
    (λ (places : List ℕ). ArePlaces groups (λ group. is_member hierarchy group sub) places) c.places_of.result
    (λ places are.
    places_kept hierarchy sub c.from_number.result groups c.in-Ok.above shown places
    (c.from_number.ensures ∙ c.value.ensures) c.requires.lowest c.requires.groups c.in-Ok.ensures.none
    c.in-Ok.ensures.ok c.as_slice.ensures are)
    c.places_of.ensures

pub returns-in-Err-NoGroup : goal.returns-in-Err-NoGroup
returns-in-Err-NoGroup c =
    let cause = rw c.in-Err-NoGroup.field-0-is at c.in-Err-NoGroup.ensures.cause in
    places_lone c.args.hierarchy.now c.args.subvolume c.from_number.result c.args.groups.now c.new.result
    (c.from_number.ensures ∙ c.value.ensures) c.new.ensures cause
