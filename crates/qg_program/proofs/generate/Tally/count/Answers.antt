use Rattle.std.proofs.Common.{refl}
use Rattle.qg_program.proofs.generate.Tally.count.Goals as goal

pub returns-then-done : goal.returns-then-done
returns-then-done c = rw c.if-done.true refl

pub returns : goal.returns
returns c = rw c.if-done.false refl
