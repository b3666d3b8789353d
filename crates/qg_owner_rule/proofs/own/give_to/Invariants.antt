use Rattle.std.proofs.Common.{take}
use Rattle.qg_owner_rule.specs.Housed.{WereGiven}
use Rattle.qg_owner_rule.proofs.own.give_to.Given as goal

abbrev pub invariant-loop-place : goal.invariant-loop-place
invariant-loop-place l = WereGiven l.nodes (take l.place-index l.places) l.owner l.initial.own l.own
