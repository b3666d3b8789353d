use Rattle.std.proofs.Common.{take}
use Rattle.qg_delayed.proofs.AllListed.{HaveListed}
use Rattle.qg_delayed.proofs.delayed.Delayed.list_all.Given as goal

abbrev pub invariant-loop-counted : goal.invariant-loop-counted
invariant-loop-counted l =
    HaveListed l.initial.self l.self l.at l.references (take l.counted-index l.references)
