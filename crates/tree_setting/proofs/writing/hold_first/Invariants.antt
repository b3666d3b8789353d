use Rattle.std.proofs.Common.{◌≡◌}
use Rattle.tree_setting.proofs.writing.hold_first.Given as goal

abbrev pub invariant-loop : goal.invariant-loop
invariant-loop l = l.space.sizes ≡ l.fn.space.sizes
