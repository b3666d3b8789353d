use Rattle.std.proofs.Common.{ℕ, List, ap, ◌∙◌}
use Rattle.qg_image.specs.Members.{Hierarchy}
use Rattle.qg_qgroups.specs.Faults.{assign_fault}
use Rattle.qg_qgroups.specs.Groups.{assigned}
use Rattle.qg_qgroups.proofs.Agreed.{only-memory}
use Rattle.qg_qgroups.proofs.RelatedPairs.{free-next, pairs-next}
use Rattle.qg_qgroups.proofs.building.relate.Goals as goal

pub loop-member-init : goal.loop-member-init
loop-member-init c = ap (λ (ps : List (ℕ × ℕ)). record { groups = c.args.hierarchy.now.groups; pairs = ps })
    c.requires.bare

pub loop-member-preserved : goal.loop-member-preserved
loop-member-preserved c =
    let one = c.loop-member-item.result in
    c.in_default.ensures.ok ∙ ap (λ (h : Hierarchy). assigned one.0 one.1 h) c.loop-member.invariant
    ∙ ap (λ (ps : List (ℕ × ℕ)). record { groups = c.args.hierarchy.now.groups; pairs = ps })
    (pairs-next c.args.pairs.now c.loop-member.member-index one c.requires.sound.pairs c.loop-member-test.true
    c.loop-member-item.is)

pub want_of_memory-requires : goal.want_of_memory-requires
want_of_memory-requires c =
    let one = c.loop-member-item.result in
    only-memory _ _
    (ap (λ (h : Hierarchy). assign_fault h one.0 one.1) c.loop-member.invariant
    ∙ free-next c.args.hierarchy.now c.args.pairs.now c.loop-member.member-index one c.requires.sound
    c.loop-member-test.true c.loop-member-item.is)
    c.in-Err.ensures.cause
