use Rattle.std.proofs.Common.{◌≡◌, ◌++◌, ◌∷◌, map, take}
use Rattle.std.specs.Prelude.{All}
use Rattle.qg_quota.specs.Writable.{CountersFit, LimitsFit}
use Rattle.qg_quota.specs.Written.{item_of_info, item_of_limit, item_of_status}
use Rattle.qg_quota.proofs.writing.items_of_groups.Given as goal

abbrev pub invariant-loop-entry : goal.invariant-loop-entry
invariant-loop-entry l = record {
  items : l.items ≡ item_of_status l.status ∷ map item_of_info (take l.entry-index l.groups);
  fits : All CountersFit (take l.entry-index l.groups);
}

abbrev pub invariant-loop-limited : goal.invariant-loop-limited
invariant-loop-limited l = record {
  items : l.items
      ≡ item_of_status l.status ∷ map item_of_info l.groups ++ map item_of_limit (take l.limited-index l.groups);
  fits : All (λ entry. LimitsFit entry.1.max_rfer entry.1.max_excl) (take l.limited-index l.groups);
}
