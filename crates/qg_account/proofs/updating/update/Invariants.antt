use Rattle.std.proofs.Common.{length}
use Rattle.std.specs.BTreeSet.{IsOrdered}
use Rattle.std.specs.Ordering.{nat_cmp}
use Rattle.qg_account.proofs.MovedGroups.{HaveMoved}
use Rattle.qg_account.proofs.updating.update.Given as goal

-- the groups that aren't left have moved
abbrev pub invariant-loop-number : goal.invariant-loop-number
invariant-loop-number l = record {
  moved : HaveMoved l.hierarchy (record { bytes = l.bytes; before = l.before; now = l.now }) l.fn.counters l.left.keys
      l.counters;
  ordered : IsOrdered nat_cmp l.left;
}

abbrev pub decreases-loop-number : goal.decreases-loop-number
decreases-loop-number l = length l.left.keys
