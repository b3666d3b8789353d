use Rattle.std.proofs.Common.{◌≡◌, map, take}
use Rattle.qg_quota.specs.QuotaKinds.{group_by}
use Rattle.qg_quota.proofs.reading.groups_of.Given as goal

abbrev pub invariant-loop-entry : goal.invariant-loop-entry
invariant-loop-entry l = l.groups ≡ map (group_by l.told) (take l.entry-index l.infos)
