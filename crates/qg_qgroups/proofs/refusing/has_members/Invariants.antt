use Rattle.std.proofs.Common.{◌≡◌, drop}
use Rattle.std.specs.Prelude.{◌==◌}
use Rattle.std.specs.List.{list_any}
use Rattle.qg_qgroups.proofs.refusing.has_members.Given as goal

abbrev pub invariant-loop-pair : goal.invariant-loop-pair
invariant-loop-pair l = list_any (λ pair. pair.1 == l.group) l.pairs ≡ list_any (λ pair. pair.1 == l.group)
    (drop l.pair-index l.pairs)
