use Rattle.std.proofs.Common.{◌≡◌, map, take, get_or}
use Rattle.qg_qgroup_counts.proofs.portions.sets_at.Given as goal

abbrev pub invariant-loop-place : goal.invariant-loop-place
invariant-loop-place l = l.sets ≡ map (λ place. get_or l.reached.numbers.items place 0) (take l.place-index l.places)
