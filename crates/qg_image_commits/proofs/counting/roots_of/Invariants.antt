use Rattle.std.proofs.Common.{◌≡◌, map, take}
use Rattle.qg_image_commits.specs.Planning.{root_of_tree}
use Rattle.qg_image_commits.proofs.counting.roots_of.Given as goal

abbrev pub invariant-loop-tree : goal.invariant-loop-tree
invariant-loop-tree l = l.roots ≡ map root_of_tree (take l.tree-index l.trees)
