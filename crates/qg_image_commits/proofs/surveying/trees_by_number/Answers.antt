use Rattle.std.proofs.Common.{List, ◌∷◌, ap, subst, ◌∙◌}
use Rattle.std.specs.List.Sorted.{IsPermutation}
use Rattle.qg_tree_read.specs.Tree.{Root}
use Rattle.qg_image_commits.proofs.surveying.trees_by_number.Goals as goal

pub returns-clause-moved : goal.returns-clause-moved
returns-clause-moved c =
    subst (λ (trees : List Root). IsPermutation trees c.sort.new.trees.items)
    (c.in_ok-trees.ensures ∙ ap (λ (others : List Root). c.args.fs.now.tree ∷ others) c.as_slice.ensures.value)
    c.sort.ensures.moved
