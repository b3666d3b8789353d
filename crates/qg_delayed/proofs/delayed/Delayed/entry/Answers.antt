use Rattle.std.proofs.Common.{Some}
use Rattle.qg_delayed.proofs.Books.{found_there}
use Rattle.qg_delayed.proofs.delayed.Delayed.entry.Goals as goal

pub returns-clause-sound : goal.returns-clause-sound
returns-clause-sound c =
    c.self.invariant.each c.args.at c.in-Some.entry.now
    (found_there c.self.inside.entries c.value.result c.args.at (Some c.in-Some.entry.now) c.value.ensures
    c.in-Some.ensures.value)
