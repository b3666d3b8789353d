use Rattle.std.proofs.Common.{◌≡◌, map, sym, ap, subst, ◌∙◌}
use Rattle.qg_image.specs.State.{layout_of}
use Rattle.qg_image.specs.ImageState.{state_in}
use Rattle.qg_image.specs.Verdict.{references_failure}
use Rattle.qg_walk.specs.declared.fault.OpenFault.TheVariants.{Disk}
use Rattle.qg_walk.proofs.Failures.{TellsFailure-of, told-no_disk}
use Rattle.std.specs.List.Sorted.{IsStrictlyIncreasing}
use Rattle.qg_reach.specs.Sets.{HaveSame}
use Rattle.qg_qgroup_counts.specs.Surveyed.{AreSurveyed}
use Rattle.qg_shared_walk.specs.declared.judging.ReferenceVerdict.{ReferenceVerdict}
use Rattle.qg_shared_walk.specs.Judged.{IfKept, failure_in}
use Rattle.qg_check.proofs.references.judge_recorded.Goals as goal

pub returns-in-Breaks-clause-failure : goal.returns-in-Breaks-clause-failure
returns-in-Breaks-clause-failure c = λ super bytes items roots are.
    TellsFailure-of c.from.result c.in-Breaks.failure
    (references_failure super bytes (layout_of (state_in super bytes))) c.from.ensures
    (sym (c.in_ok-surveyed.ensures.failure super bytes items roots are) ∙ ap failure_in c.in-Breaks.is)

pub returns-in-Breaks-clause-no_disk : goal.returns-in-Breaks-clause-no_disk
returns-in-Breaks-clause-no_disk c = λ is. let disk : c.from.result ≡ Disk = cc in
    told-no_disk c.from.result c.in-Breaks.failure c.from.ensures disk

pub returns-in-Keeps-clause-failure : goal.returns-in-Keeps-clause-failure
returns-in-Keeps-clause-failure c = λ super bytes items roots are.
    sym (c.in_ok-surveyed.ensures.failure super bytes items roots are) ∙ ap failure_in c.in-Keeps.is

pub returns-in-Keeps-clause-surveyed : goal.returns-in-Keeps-clause-surveyed
returns-in-Keeps-clause-surveyed c = λ super bytes items roots are.
    subst (λ (judged : ReferenceVerdict). IfKept judged
    (λ those. AreSurveyed (layout_of (state_in super bytes)) c.args.roots.now those super.nodesize
    c.args.extents.now))
    c.in-Keeps.is (c.in_ok-surveyed.ensures.surveyed super bytes items roots are)

pub returns-in-Keeps-clause-ascending : goal.returns-in-Keeps-clause-ascending
returns-in-Keeps-clause-ascending c =
    subst (λ (judged : ReferenceVerdict). IfKept judged
    (λ those. IsStrictlyIncreasing (map (λ node. node.linked.address) those)))
    c.in-Keeps.is c.in_ok-surveyed.ensures.ascending

pub returns-in-Keeps-clause-same : goal.returns-in-Keeps-clause-same
returns-in-Keeps-clause-same c =
    subst (λ (judged : ReferenceVerdict). IfKept judged (λ those. HaveSame (map (λ node. node.linked.address) those)
    (map (λ node. node.linked.address) c.args.nodes.nodes.items)))
    c.in-Keeps.is c.in_ok-surveyed.ensures.same
