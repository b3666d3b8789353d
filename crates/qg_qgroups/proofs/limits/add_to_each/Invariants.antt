use Rattle.std.proofs.Common.{◌≡◌, ℕ, take}
use Rattle.std.specs.Prelude.{IsTrue}
use Rattle.std.specs.List.{All}
use Rattle.qg_image.specs.Table.{has_key}
use Rattle.qg_qgroups.specs.Limit.{bytes_after, bytes_at}
use Rattle.qg_qgroups.proofs.limits.add_to_each.Given as goal

abbrev pub invariant-loop-group : goal.invariant-loop-group
invariant-loop-group l = record {
  there : All (λ group. IsTrue (has_key group l.held.entries)) l.path;
  held : (group : ℕ) → bytes_at l.held.entries group ≡ bytes_after l.initial.held.entries (take l.group-index l.path)
      l.n group;
}
