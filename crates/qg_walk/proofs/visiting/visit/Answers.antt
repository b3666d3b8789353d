use Rattle.std.proofs.Common.{◌≡◌, Some, Err, sym, ◌∙◌}
use Rattle.qg_device.proofs.Causes.{cause-other}
use Rattle.qg_device.specs.History.{content}
use Rattle.qg_image.specs.Walk.{node_found}
use Rattle.qg_walk.specs.declared.fault.OpenFault.TheVariants.{Disk}
use Rattle.qg_walk.specs.Standing.{standing_failure}
use Rattle.qg_walk.proofs.Failures.{TellsFailure-of, told-no_disk}
use Rattle.qg_walk.proofs.visiting.visit.Goals as goal

pub form_failure-requires : goal.form_failure-requires
form_failure-requires g c = record { ascending = c.in_ok-node.ensures.stands.sound.ascending }

pub returns-in-Some-clause-failure : goal.returns-in-Some-clause-failure
returns-in-Some-clause-failure g c = λ events told.
    let is : standing_failure g.P.TreePart.tree c.args.superblock.now c.args.expected.now c.args.address
    (node_found c.args.superblock.now (content events) c.args.address) ≡ Some c.in-Some.failure =
    rw (c.in_ok-node.ensures.told events told) (sym c.form_failure.ensures ∙ c.in-Some.is) in
    TellsFailure-of c.from.result c.in-Some.failure _ c.from.ensures is

pub returns-in-Some-clause-cause : goal.returns-in-Some-clause-cause
returns-in-Some-clause-cause g c =
    cause-other (g.D.Disk.faults c.args.disk.now) (g.D.Disk.faults c.node_at.new.disk) (Err c.from.result)
    c.in_ok-node.ensures.cause.fine
    (λ is. let disk : c.from.result ≡ Disk = cc in told-no_disk c.from.result c.in-Some.failure c.from.ensures disk)
