use Rattle.std.proofs.Common.{◌≡◌, take}
use Rattle.qg_image.specs.Table.{keys_of}
use Rattle.qg_quota.proofs.reading.numbers_of.Given as goal

abbrev pub invariant-loop-part : goal.invariant-loop-part
invariant-loop-part l = l.numbers ≡ keys_of (take l.part-index l.subvolumes)
