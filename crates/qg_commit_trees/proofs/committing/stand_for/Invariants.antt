use Rattle.std.proofs.Common.{◌≡◌, ◌++◌, map, take, drop}
use Rattle.qg_commit_trees.specs.Committing.{for_generation}
use Rattle.qg_commit_trees.proofs.committing.stand_for.Given as goal

abbrev pub invariant-loop-tree : goal.invariant-loop-tree
invariant-loop-tree l =
    l.trees ≡ map (for_generation l.next) (take l.tree-index l.initial.trees) ++ drop l.tree-index l.initial.trees
