use Rattle.std.proofs.Common.{◌≡◌, ◌≤◌, ◌*◌, take}
use Rattle.std.specs.List.{sum_by}
use Rattle.qg_refs.specs.declared.counted.Counted.{Counted}
use Rattle.qg_backref_rule.proofs.record.sum_of.Given as goal

abbrev pub invariant-loop-entry : goal.invariant-loop-entry
invariant-loop-entry l = record {
  sum : l.sum ≡ sum_by (λ (entry : Counted). entry.count) (take l.entry-index l.told);
  few : l.sum ≤ 4294967295 * l.entry-index;
}
