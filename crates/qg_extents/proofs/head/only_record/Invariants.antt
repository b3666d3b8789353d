use Rattle.std.proofs.Common.{◌≡◌, ◌<◌, length, take}
use Rattle.std.specs.Prelude.{IfSome, slice_get}
use Rattle.std.specs.List.{filter}
use Rattle.std.specs.Option.{option_and_then}
use Rattle.qg_tree_items.specs.Owed.{is_record}
use Rattle.qg_extents.proofs.Singles.{listed}
use Rattle.qg_extents.proofs.head.only_record.Given as goal

abbrev pub invariant-loop-index : goal.invariant-loop-index
invariant-loop-index l = record {
  records : filter is_record (take l.index l.here) ≡ listed (option_and_then (slice_get l.here) l.only);
  bound : IfSome l.only (λ index. index < length l.here);
}
