use Rattle.qg_file_edits.proofs.Stepped.{StepsUpTo}
use Rattle.qg_file_edits.proofs.editing.take_steps.Given as goal

abbrev pub invariant-loop-step : goal.invariant-loop-step
invariant-loop-step g l =
    StepsUpTo l.ino l.steps l.step-index l.fn.fs l.fs (g.D.Disk.history l.fn.disk) (g.D.Disk.history l.disk)
    (g.D.Disk.size l.fn.disk) (g.D.Disk.size l.disk) (g.D.Disk.faults l.fn.disk) (g.D.Disk.faults l.disk) l.fn.reads
    l.reads
