use Rattle.qg_owner_rule.specs.Places.{ArePlacesBelow}
use Rattle.qg_owner_rule.proofs.Pointing.{cut}
use Rattle.qg_owner_rule.proofs.below.places_below.Given as goal

abbrev pub invariant-loop-child : goal.invariant-loop-child
invariant-loop-child l = ArePlacesBelow l.nodes (cut l.parent l.child-index) l.places
