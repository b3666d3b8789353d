use Rattle.qg_account.proofs.CounterShifts.{shift-gains, shift-loses}
use Rattle.qg_account.proofs.moving.shifted.Goals as goal

pub returns-then-is : goal.returns-then-is
returns-then-is c =
    shift-gains c.args.was c.args.is c.args.bytes c.args.counter c.checked_add.result c.if-was.false c.if-is.true
    c.checked_add.ensures

pub returns-then-was-2 : goal.returns-then-was-2
returns-then-was-2 c =
    shift-loses c.args.was c.args.is c.args.bytes c.args.counter c.checked_sub.result c.if-was-2.true c.if-is.false
    c.checked_sub.ensures
