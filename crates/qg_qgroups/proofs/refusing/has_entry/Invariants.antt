use Rattle.std.proofs.Common.{◌≡◌, drop}
use Rattle.std.specs.Prelude.{◌==◌}
use Rattle.std.specs.List.{list_any}
use Rattle.qg_qgroups.proofs.refusing.has_entry.Given as goal

abbrev pub invariant-loop-entry : goal.invariant-loop-entry
invariant-loop-entry g l = list_any (λ entry. entry.0 == l.group) l.subvolumes ≡ list_any (λ entry. entry.0 == l.group)
    (drop l.entry-index l.subvolumes)
