use Rattle.std.proofs.Common.{◌≡◌, ◌∷◌, take}
use Rattle.qg_image_commits.proofs.surveying.copies_of.Given as goal

abbrev pub invariant-loop-tree : goal.invariant-loop-tree
invariant-loop-tree l = l.trees.items ≡ l.first ∷ take l.tree-index l.others
