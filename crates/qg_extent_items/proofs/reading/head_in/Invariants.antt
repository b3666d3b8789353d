use Rattle.std.proofs.Common.{◌≡◌, drop}
use Rattle.std.specs.List.{list_any}
use Rattle.qg_extent_items.specs.Reading.{is_record_item}
use Rattle.qg_extent_items.proofs.reading.head_in.Given as goal

abbrev pub invariant-loop-item : goal.invariant-loop-item
invariant-loop-item l =
    list_any (is_record_item l.generation) l.here ≡ list_any (is_record_item l.generation) (drop l.item-index l.here)
