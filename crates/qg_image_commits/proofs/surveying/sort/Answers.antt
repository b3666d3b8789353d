use Rattle.std.proofs.Common.{rules}
use Rattle.std.proofs.lemmas.List.Sorted.{IsNonDecreasingBy-from_sort_by_key}
use Rattle.qg_tree_read.specs.Tree.{Root}
use Rattle.qg_image_commits.proofs.surveying.sort.Goals as goal

pub returns-clause-ascending : goal.returns-clause-ascending
returns-clause-ascending c =
    IsNonDecreasingBy-from_sort_by_key (λ (tree : Root). tree.owner) _ c.sort_unstable_by_key.ensures.sorted
    (λ a r q k. search rules)
