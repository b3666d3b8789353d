use Rattle.std.proofs.Common.{◌≡◌, map, take}
use Rattle.qg_backref_rule.proofs.references.put_owed.Given as goal

abbrev pub invariant-loop-owing : goal.invariant-loop-owing
invariant-loop-owing l = l.owed.items ≡ map (λ owing. owing.reference) (take l.owing-index l.owings)
