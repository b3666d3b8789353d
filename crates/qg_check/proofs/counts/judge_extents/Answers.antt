use Rattle.std.proofs.Common.{◌≡◌, sym, ◌∙◌}
use Rattle.qg_image.specs.Verdict.{space_failure}
use Rattle.qg_walk.specs.declared.fault.OpenFault.TheVariants.{Disk}
use Rattle.qg_walk.proofs.Failures.{TellsFailure-of, told-no_disk}
use Rattle.qg_check.proofs.counts.judge_extents.Goals as goal

pub returns-in-Some-clause-failure : goal.returns-in-Some-clause-failure
returns-in-Some-clause-failure c =
    TellsFailure-of c.from.result c.in-Some.failure (space_failure c.args.sizes.now c.args.extents.now) c.from.ensures
    (sym c.space_failure.ensures ∙ c.in-Some.is)

pub returns-in-Some-clause-no_disk : goal.returns-in-Some-clause-no_disk
returns-in-Some-clause-no_disk c = λ is. let disk : c.from.result ≡ Disk = cc in
    told-no_disk c.from.result c.in-Some.failure c.from.ensures disk
