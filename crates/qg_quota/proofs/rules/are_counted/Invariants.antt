use Rattle.std.proofs.Common.{◌≡◌, true, take}
use Rattle.std.specs.List.{list_all}
use Rattle.qg_image.specs.Table.{has_key}
use Rattle.qg_quota.proofs.rules.are_counted.Given as goal

abbrev pub invariant-loop-sub : goal.invariant-loop-sub
invariant-loop-sub l = list_all (λ sub. has_key sub l.told.infos) (take l.sub-index l.live) ≡ true
