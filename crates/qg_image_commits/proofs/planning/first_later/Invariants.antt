use Rattle.std.proofs.Common.{◌≤◌, ℕ, map}
use Rattle.std.specs.Prelude.{All}
use Rattle.std.specs.Map.Iter.{deref_pair}
use Rattle.qg_refs.specs.declared.kept.Kept.{Kept}
use Rattle.qg_image_commits.proofs.planning.first_later.Given as goal

abbrev pub invariant-loop-at : goal.invariant-loop-at
invariant-loop-at l =
    All (λ entry. entry.1.what.generation ≤ l.generation) (map (deref_pair {K = ℕ} {X = Kept}) l.yielded)
