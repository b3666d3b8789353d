use Rattle.std.proofs.Common.{take}
use Rattle.qg_owner_rule.specs.Marks.{HaveAlso}
use Rattle.qg_owner_rule.proofs.marks.add_marks.Given as goal

abbrev pub invariant-loop-place : goal.invariant-loop-place
invariant-loop-place l = HaveAlso (take l.place-index l.places) l.marks l.initial.rows l.rows
