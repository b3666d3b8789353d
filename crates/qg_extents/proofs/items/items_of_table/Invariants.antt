use Rattle.std.proofs.Common.{◌≡◌, ℕ, map}
use Rattle.std.specs.Prelude.{All}
use Rattle.std.specs.List.{flat_map}
use Rattle.std.specs.Map.Iter.{deref_pair}
use Rattle.qg_refs.specs.declared.kept.Kept.{Kept}
use Rattle.qg_extents.specs.Written.{EntryFits, items_of_extent}
use Rattle.qg_extents.proofs.items.items_of_table.Given as goal

abbrev pub invariant-loop-at : goal.invariant-loop-at
invariant-loop-at l = record {
  items : l.items ≡ flat_map items_of_extent (map (deref_pair {K = ℕ} {X = Kept}) l.yielded);
  fits : All EntryFits (map (deref_pair {K = ℕ} {X = Kept}) l.yielded);
}
