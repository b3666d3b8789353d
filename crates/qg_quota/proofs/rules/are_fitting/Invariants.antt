use Rattle.std.proofs.Common.{◌≡◌, true, take}
use Rattle.std.specs.List.{list_all}
use Rattle.qg_quota.specs.QuotaKinds.{fits_told}
use Rattle.qg_quota.proofs.rules.are_fitting.Given as goal

abbrev pub invariant-loop-part : goal.invariant-loop-part
invariant-loop-part l = list_all (fits_told l.told) (take l.part-index l.parts) ≡ true
