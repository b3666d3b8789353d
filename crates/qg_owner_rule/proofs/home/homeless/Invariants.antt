use Rattle.std.proofs.Common.{◌≡◌, ℕ, List, ◌++◌, length, vec_len}
use Rattle.qg_owner_rule.specs.Housed.{AreHousedAmong}
use Rattle.qg_owner_rule.proofs.home.homeless.Given as goal

abbrev pub invariant-loop-later : goal.invariant-loop-later
invariant-loop-later l = record {
  same : vec_len l.housed ≡ length l.nodes;
  taken : (taken : List (ℕ × ℕ)) × (l.roots ≡ taken ++ l.later) × AreHousedAmong l.nodes l.roots taken l.housed.items;
}

abbrev pub decreases-loop-later : goal.decreases-loop-later
decreases-loop-later l = length l.later
