use Rattle.std.proofs.Common.{◌≡◌, take}
use Rattle.qg_image.specs.Table.{keys_of}
use Rattle.tests_of_structures.proofs.accounting.uncounted.Given as goal

abbrev pub invariant-loop-group : goal.invariant-loop-group
invariant-loop-group l = keys_of l.counters ≡ take l.group-index l.group-items
