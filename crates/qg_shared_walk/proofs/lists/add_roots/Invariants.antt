use Rattle.std.proofs.Common.{◌≡◌, ◌++◌, map, take}
use Rattle.qg_backref_rule.specs.OwedLists.{owings_told}
use Rattle.qg_shared_walk.specs.Marked.{root_owing}
use Rattle.qg_shared_walk.proofs.lists.add_roots.Given as goal

abbrev pub invariant-loop-root : goal.invariant-loop-root
invariant-loop-root l =
    owings_told l.owings.items ≡ owings_told l.initial.owings.items ++ map root_owing (take l.root-index l.roots)
