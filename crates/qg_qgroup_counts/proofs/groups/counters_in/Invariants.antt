use Rattle.std.proofs.Common.{◌≡◌, map, take}
use Rattle.qg_qgroup_counts.specs.declared.groups.Tally.{Tally}
use Rattle.qg_qgroup_counts.proofs.groups.counters_in.Given as goal

abbrev pub invariant-loop-tally : goal.invariant-loop-tally
invariant-loop-tally l = l.counters.items ≡ map (λ (tally : Tally). tally.counters) (take l.tally-index l.tallies)
