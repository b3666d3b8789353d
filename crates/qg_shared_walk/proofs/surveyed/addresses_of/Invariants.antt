use Rattle.std.proofs.Common.{◌≡◌, map, take}
use Rattle.qg_shared_walk.proofs.surveyed.addresses_of.Given as goal

abbrev pub invariant-loop-extent : goal.invariant-loop-extent
invariant-loop-extent l = l.addresses ≡ map (λ extent. extent.address) (take l.extent-index l.extents)
