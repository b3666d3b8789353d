use Rattle.std.proofs.Common.{◌≡◌, take}
use Rattle.qg_qgroups.specs.Agreement.{counted_groups}
use Rattle.qg_account.proofs.stored.stored_counters.Given as goal

abbrev pub invariant-loop-entry : goal.invariant-loop-entry
invariant-loop-entry l = l.counters ≡ counted_groups (take l.entry-index l.groups)
