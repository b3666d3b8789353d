use Rattle.std.proofs.Common.{◌≡◌, take}
use Rattle.std.specs.List.{filter}
use Rattle.std.specs.Option.{option_to_list}
use Rattle.qg_image.specs.Owed.{is_record}
use Rattle.qg_backref_rule.proofs.record.is_recorded_once.Given as goal

abbrev pub invariant-loop-part : goal.invariant-loop-part
invariant-loop-part l = filter is_record (take l.part-index l.parts) ≡ option_to_list l.found
