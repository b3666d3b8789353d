use Rattle.std.proofs.Common.{◌≡◌, map}
use Rattle.std.specs.List.{flat_map}
use Rattle.qg_backref_rule.specs.OwedLists.{owings_told}
use Rattle.qg_shared_walk.specs.NodeFacts.{told_by}
use Rattle.qg_shared_walk.specs.Marked.{owed_where, surveyed_where, thing_where}
use Rattle.qg_shared_walk.proofs.lists.lists_of.Given as goal

abbrev pub invariant-loop-node : goal.invariant-loop-node
invariant-loop-node l = record {
  owings : owings_told l.lists.owings.items ≡ flat_map (owed_where l.full) (map told_by l.yielded);
  things : l.lists.things.items ≡ map (thing_where l.full) (map told_by l.yielded);
  surveyed : l.lists.surveyed.items ≡ map (surveyed_where l.full) (map told_by l.yielded);
}
