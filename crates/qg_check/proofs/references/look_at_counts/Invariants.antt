use Rattle.std.proofs.Common.{take}
use Rattle.std.specs.List.{All}
use Rattle.qg_check.specs.Counts.{CountFits}
use Rattle.qg_check.proofs.references.look_at_counts.Given as goal

abbrev pub invariant-loop-part : goal.invariant-loop-part
invariant-loop-part l = All CountFits (take l.part-index l.parts)
