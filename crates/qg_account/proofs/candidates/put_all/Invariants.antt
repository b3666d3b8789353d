use Rattle.std.proofs.Common.{◌≡◌, ℕ, take}
use Rattle.std.specs.Prelude.{◌||◌}
use Rattle.std.specs.BTreeSet.{IsOrdered}
use Rattle.std.specs.Ordering.{nat_cmp}
use Rattle.qg_qgroups.specs.Groups.{has_number}
use Rattle.qg_account.proofs.candidates.put_all.Given as goal

-- the first groups were put
abbrev pub invariant-loop-group : goal.invariant-loop-group
invariant-loop-group l = record {
  has : (other : ℕ) → has_number other l.numbers.keys
      ≡ (has_number other (take l.group-index l.groups) || has_number other l.fn.numbers.keys);
  ordered : IsOrdered nat_cmp l.numbers;
}
