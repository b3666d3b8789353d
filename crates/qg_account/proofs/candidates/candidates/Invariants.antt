use Rattle.std.proofs.Common.{take}
use Rattle.std.specs.BTreeSet.{IsOrdered}
use Rattle.std.specs.Ordering.{nat_cmp}
use Rattle.qg_account.proofs.GroupMembers.{AreGroupsOf}
use Rattle.qg_account.proofs.candidates.candidates.Given as goal

-- the groups of the first subvolumes were found
abbrev pub invariant-loop-sub : goal.invariant-loop-sub
invariant-loop-sub l = record {
  has : AreGroupsOf l.hierarchy (take l.sub-index l.subs) l.found.keys;
  ordered : IsOrdered nat_cmp l.found;
}
