use Rattle.std.proofs.Common.{◌≡◌, drop}
use Rattle.std.specs.List.{find}
use Rattle.qg_extent_items.specs.Standing.{tells}
use Rattle.qg_extent_items.proofs.reading.teller_in.Given as goal

abbrev pub invariant-loop-item : goal.invariant-loop-item
invariant-loop-item l =
    find (tells l.at l.reference) l.items ≡ find (tells l.at l.reference) (drop l.item-index l.items)
