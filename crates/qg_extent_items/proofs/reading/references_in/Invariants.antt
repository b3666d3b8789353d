use Rattle.qg_extent_items.proofs.References.{HasSoFar}
use Rattle.qg_extent_items.proofs.reading.references_in.Given as goal

abbrev pub invariant-loop-item : goal.invariant-loop-item
invariant-loop-item l = HasSoFar l.here l.item-index l.references
