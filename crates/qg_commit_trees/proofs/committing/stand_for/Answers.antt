use Rattle.std.proofs.Common.{get_or, ap, ◌∙◌, arith}
use Rattle.std.proofs.Math.ListN.{set}
use Rattle.std.proofs.lemmas.List.{get_or_default}
use Rattle.std.proofs.lemmas.List.Edits.{map_over_more}
use Rattle.qg_tree_read.specs.Tree.{Root}
use Rattle.qg_commit_trees.specs.Committing.{for_generation}
use Rattle.qg_commit_trees.proofs.committing.stand_for.Goals as goal

pub loop-tree-preserved : goal.loop-tree-preserved
loop-tree-preserved c =
    let now = c.loop-tree.trees in
    let i = c.loop-tree.tree-index in
    let first = c.tree-item.result in
    let tree = get_or now i first in
    ap (λ (t : Root). set now i t) c.for_generation.ensures
    ∙ map_over_more (for_generation c.args.next) c.args.trees.now now i tree c.loop-tree-test.true
    c.loop-tree.invariant (get_or_default now i first tree (omega (arith, c.loop-tree.auto.trees)))
