use Rattle.std.proofs.Common.{sym, subst}
use Rattle.qg_check.specs.Trees.{AreFitParts}
use Rattle.qg_check.specs.declared.trees.ExtentTree.{ExtentTree}
use Rattle.qg_check.proofs.Staging.{fails_handed, fails_kept}
use Rattle.qg_check.proofs.judge.judge_trees.Goals as goal

pub keep-requires-clause-parts : goal.keep-requires-clause-parts
keep-requires-clause-parts c =
    subst (λ (tree : ExtentTree). AreFitParts c.args.superblock.generation tree.parts)
    (sym c.in_ok-judged.ensures.judged.extents) c.requires.parts

pub returns-in_err-judged-clause-failure : goal.returns-in_err-judged-clause-failure
returns-in_err-judged-clause-failure c = λ bytes are.
    fails_handed c.from_residual.result c.in_err-judged.field-0.0 _ c.from_residual.ensures.1
    (c.in_err-judged.ensures.failure bytes are)

pub returns-clause-failure : goal.returns-clause-failure
returns-clause-failure c = λ bytes are.
    let none = c.in_ok-judged.ensures.failure bytes are in
    fails_kept c.keep.result _ none (c.keep.ensures.sound bytes c.args.read are c.in_ok-judged.ensures.judged none)

pub returns-clause-image : goal.returns-clause-image
returns-clause-image c = λ bytes are.
    c.keep.ensures.image bytes c.args.read are c.in_ok-judged.ensures.judged (c.in_ok-judged.ensures.failure bytes are)

pub returns-clause-keeps : goal.returns-clause-keeps
returns-clause-keeps c = c.keep.ensures.keeps c.args.read c.in_ok-judged.ensures.judged c.requires.slots
