use Rattle.std.proofs.Common.{◌≡◌, map, take}
use Rattle.qg_machine.specs.Step.{row_of}
use Rattle.qg_image_changes.proofs.showing.rows_of.Given as goal

abbrev pub invariant-loop-entry : goal.invariant-loop-entry
invariant-loop-entry l = l.rows ≡ map row_of (take l.entry-index l.groups)
