use Rattle.std.proofs.Common.{ℕ, List, arith, sym, subst}
use Rattle.std.proofs.lemmas.List.Elements.{Contains-get_or}
use Rattle.std.specs.List.{Contains}
use Rattle.qg_items.specs.declared.root.RootItem.{RootItem}
use Rattle.qg_refs.specs.declared.kept.Kept.{Kept as Reference}
use Rattle.qg_tree_read.specs.Tree.{Root}
use Rattle.qg_open_image.proofs.PiecesRead.{handed}
use Rattle.qg_open_image.proofs.WholeFile.{handed-sound}
use Rattle.qg_image_commits.specs.Planning.{IsRootIn, KnowsRoot}
use Rattle.qg_image_commits.proofs.RootsNow.{AreRootsFirst, all-roots, lockstep-within, more-roots, no-roots}
use Rattle.std.specs.Prelude.{Err}
use Rattle.qg_num.specs.declared.rule.Rule.TheVariants.{Refs}
use Rattle.qg_blocks.proofs.Stopping.{names-at, rule-err}
use Rattle.qg_image_commits.proofs.planning.roots_now.Goals as goal

pub loop-i-init : goal.loop-i-init
loop-i-init c =
    subst (λ (roots : List (ℕ × RootItem)). AreRootsFirst c.args.kept.now c.args.trees.now c.args.snapshots.now 0 roots)
    (sym c.new-roots.ensures) (no-roots c.args.kept.now c.args.trees.now c.args.snapshots.now)

pub bounds-trees-i : goal.bounds-trees-i
bounds-trees-i c =
    lockstep-within c.args.trees.now c.args.snapshots.now c.loop-i.i c.requires.lockstep c.loop-i-test.true

pub loop-i-preserved : goal.loop-i-preserved
loop-i-preserved c =
    more-roots c.args.kept.now c.args.trees.now c.args.snapshots.now c.loop-i.i c.loop-i.roots c.push.new.self
    c.index-snapshots-i.result c.index-trees-i.result c.in_ok-root.root c.requires.lockstep c.loop-i-test.true
    c.index-snapshots-i.is c.index-trees-i.is c.loop-i.invariant
    (subst (λ (book : List (ℕ × Reference)). IsRootIn book c.index-trees-i.result
    c.index-snapshots-i.result.1.last_snapshot c.in_ok-root.root) c.refs.ensures c.in_ok-root.ensures.root)
    c.in_ok-push.ensures.ok

pub returns-clause-roots : goal.returns-clause-roots
returns-clause-roots c =
    all-roots c.args.kept.now c.args.trees.now c.args.snapshots.now c.loop-i.i c.loop-i.roots
    (omega (arith, c.loop-i-test.false)) c.loop-i.invariant

pub returns-in_err-root-clause-sound : goal.returns-in_err-root-clause-sound
returns-in_err-root-clause-sound c = λ known.
    handed-sound RootItem c.from_residual.result _ (handed c.from_residual.result _ c.from_residual.ensures.1)
    (c.in_err-root.ensures.sound
    (subst (λ (book : List (ℕ × Reference)). KnowsRoot book c.index-trees-i.result) (sym c.refs.ensures)
    (known c.index-trees-i.result
    (subst (λ (tree : Root). Contains c.args.trees.now tree) (sym c.index-trees-i.is)
    (Contains-get_or c.args.trees.now c.loop-i.i c.index-trees-i.result
    (lockstep-within c.args.trees.now c.args.snapshots.now c.loop-i.i c.requires.lockstep c.loop-i-test.true))))))

pub returns-in_err-root-clause-refs : goal.returns-in_err-root-clause-refs
returns-in_err-root-clause-refs c =
    let fault = c.in_err-root.field-0.0 in
    rule-err RootItem c.from_residual.result fault Refs c.from_residual.ensures.1
    (names-at {A = RootItem} (Err fault) Refs c.index-trees-i.result.address c.in_err-root.ensures.unknown)
