use Rattle.std.proofs.Common.{◌≡◌, ◌≤◌, ◌++◌, take, drop}
use Rattle.std.specs.Prelude.{All}
use Rattle.qg_extents.specs.Written.{items_of_extent, items_of_references, CountedFits}
use Rattle.qg_extents.proofs.items.put_extent.Given as goal

abbrev pub invariant-loop-entry : goal.invariant-loop-entry
invariant-loop-entry l = record {
  items : l.items ++ items_of_references l.at l.number (drop l.entry-index l.references) ≡ l.fn.items
      ++ items_of_extent (l.at, l.kept);
  number : l.number ≤ l.entry-index;
  fits : All CountedFits (take l.entry-index l.references);
}
