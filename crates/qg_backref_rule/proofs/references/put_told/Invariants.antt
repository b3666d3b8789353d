use Rattle.std.proofs.Common.{◌≡◌, take}
use Rattle.std.specs.List.{filter_map}
use Rattle.qg_image.specs.Owed.{reference_told}
use Rattle.qg_backref_rule.specs.Judged.{counts_told}
use Rattle.qg_backref_rule.proofs.references.put_told.Given as goal

abbrev pub invariant-loop-part : goal.invariant-loop-part
invariant-loop-part l = counts_told l.told.items ≡ filter_map reference_told (take l.part-index l.parts)
