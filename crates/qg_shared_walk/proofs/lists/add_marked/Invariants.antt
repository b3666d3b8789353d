use Rattle.std.proofs.Common.{◌≡◌, ◌++◌, true, map, take}
use Rattle.qg_backref_rule.specs.OwedLists.{owings_told}
use Rattle.qg_shared_walk.specs.Marked.{marked_owing}
use Rattle.qg_shared_walk.proofs.lists.add_marked.Given as goal

abbrev pub invariant-loop-owing : goal.invariant-loop-owing
invariant-loop-owing l =
    owings_told l.owings.items
    ≡ owings_told l.initial.owings.items ++ map (marked_owing l.parent true) (owings_told (take l.owing-index l.own))
