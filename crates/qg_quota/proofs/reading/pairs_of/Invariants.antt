use Rattle.std.proofs.Common.{◌≡◌, take}
use Rattle.std.specs.List.{filter}
use Rattle.qg_quota.specs.QuotaKinds.{rises}
use Rattle.qg_quota.proofs.reading.pairs_of.Given as goal

abbrev pub invariant-loop-pair : goal.invariant-loop-pair
invariant-loop-pair l = l.pairs ≡ filter rises (take l.pair-index l.relations)
