use Rattle.std.proofs.Common.{◌≡◌, map, take}
use Rattle.qg_image_changes.specs.Opened.{snapshot_of}
use Rattle.qg_image_changes.proofs.opening.snapshots_of.Given as goal

abbrev pub invariant-loop-entry : goal.invariant-loop-entry
invariant-loop-entry l = l.snapshots ≡ map snapshot_of (take l.entry-index l.roots)
