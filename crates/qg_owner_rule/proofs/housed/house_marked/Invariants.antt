use Rattle.qg_owner_rule.proofs.Housing.{Housing}
use Rattle.qg_owner_rule.proofs.housed.house_marked.Given as goal

abbrev pub invariant-loop-i : goal.invariant-loop-i
invariant-loop-i l = Housing l.nodes l.group l.initial.housed l.housed l.i
