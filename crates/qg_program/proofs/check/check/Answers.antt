use Rattle.qg_device.proofs.Causes.{end-other}
use Rattle.qg_program.specs.declared.status.Status.TheVariants as status
use Rattle.qg_program.proofs.Said.{checks-ends, checks-said, says-no-disk}
use Rattle.qg_program.proofs.check.check.Goals as goal

pub returns-in-Ok-clause-checks : goal.returns-in-Ok-clause-checks
returns-in-Ok-clause-checks g c =
    checks-said c.say.result c.in-Ok.report _ _ _ c.in-Ok.ensures.report c.say.ensures.says

pub returns-in-Ok-clause-disk_fault : goal.returns-in-Ok-clause-disk_fault
returns-in-Ok-clause-disk_fault g c =
    end-other status.Disk (g.D.Disk.faults c.args.disk.now) (g.D.Disk.faults c.count_image.new.disk) c.say.result
    c.in-Ok.ensures.cause.fine (says-no-disk c.say.result c.in-Ok.report _ _ c.say.ensures.says)

pub returns-in-Ok-clause-ends : goal.returns-in-Ok-clause-ends
returns-in-Ok-clause-ends g c =
    checks-ends c.say.result _ _ _
    (checks-said c.say.result c.in-Ok.report _ _ _ c.in-Ok.ensures.report c.say.ensures.says)
