use Rattle.std.proofs.Common.{◌≡◌, ℕ}
use Rattle.std.specs.Prelude.{◌==◌, not, length}
use Rattle.std.specs.List.{filter}
use Rattle.std.specs.BTreeSet.{IsOrdered}
use Rattle.qg_machine.specs.GroupChange.{has_pair}
use Rattle.qg_qgroups.specs.Groups.{pair_cmp}
use Rattle.qg_qgroups.specs.Kept.{PairsFit}
use Rattle.qg_qgroups.proofs.pairs.take_others.Given as goal

abbrev pub invariant-loop-other : goal.invariant-loop-other
invariant-loop-other l = record {
  left : filter (λ pair. not (pair.0 == l.of)) l.pairs.keys ≡ filter (λ pair. not (pair.0 == l.of)) l.fn.pairs.keys;
  same : (a b : ℕ) → has_pair b a l.turned.keys ≡ has_pair a b l.pairs.keys;
  ordered : IsOrdered pair_cmp l.pairs;
  turned_ordered : IsOrdered pair_cmp l.turned;
  fit : PairsFit l.pairs;
  turned_fit : PairsFit l.turned;
}

abbrev pub decreases-loop-other : goal.decreases-loop-other
decreases-loop-other l = length l.pairs.keys
