use Rattle.qg_device.specs.History.{content}
use Rattle.qg_check.proofs.Reported.{report-cause, report-told}
use Rattle.qg_check.proofs.report.count_image.Goals as goal

pub returns-in-Ok-clause-report : goal.returns-in-Ok-clause-report
returns-in-Ok-clause-report g c = λ events told. c.in-Ok.ensures.at events told

pub returns-in-Err-clause-report : goal.returns-in-Err-clause-report
returns-in-Err-clause-report g c = λ events told.
    report-told (content events) c.in-Err.fault c.report_of.result c.report_of.ensures.told
    (c.in-Err.ensures.failure events told)

pub returns-in-Err-clause-cause : goal.returns-in-Err-clause-cause
returns-in-Err-clause-cause g c =
    report-cause (g.D.Disk.faults c.args.disk.now) (g.D.Disk.faults c.count.new.disk) c.in-Err.fault c.report_of.result
    c.report_of.ensures.told c.in-Err.ensures.cause
