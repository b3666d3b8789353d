use Rattle.std.proofs.Common.{◌≡◌, ℕ}
use Rattle.std.specs.Prelude.{◌||◌}
use Rattle.std.specs.BTreeSet.{IsOrdered}
use Rattle.std.specs.Ordering.{nat_cmp}
use Rattle.qg_machine.specs.GroupChange.{has_pair}
use Rattle.qg_qgroups.specs.Groups.{has_number}
use Rattle.qg_qgroups.proofs.Sets.{is_second}
use Rattle.qg_qgroups.proofs.pairs.put_others.Given as goal

abbrev pub invariant-loop-pair : goal.invariant-loop-pair
invariant-loop-pair l = record {
  ordered : IsOrdered nat_cmp l.into;
  has : (other : ℕ) → (has_number other l.into.keys || is_second other l.pair-iterator)
      ≡ (has_number other l.fn.into.keys || has_pair l.of other l.pairs.keys);
}
