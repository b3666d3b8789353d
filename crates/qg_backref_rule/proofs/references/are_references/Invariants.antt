use Rattle.std.proofs.Common.{◌≡◌, ◌≤◌, drop, length}
use Rattle.qg_image.specs.Owed.{are_references}
use Rattle.qg_backref_rule.specs.Judged.{counts_told}
use Rattle.qg_backref_rule.proofs.InOrder.{Up}
use Rattle.qg_backref_rule.proofs.references.are_references.Given as goal

abbrev pub invariant-loop-entry : goal.invariant-loop-entry
invariant-loop-entry l = record {
  same : are_references (counts_told (drop l.entry-index l.told)) l.left ≡ are_references (counts_told l.told) l.owed;
  short : length l.left ≤ length l.owed;
  up : Up (λ r. r) l.left;
}
