use Rattle.std.proofs.Common.{refl, subst}
use Rattle.std.specs.Prelude.{All, IfOk}
use Rattle.qg_super.specs.declared.sizes.Sizes.{Sizes}
use Rattle.qg_open_image.specs.Calls.{IsReadBack}
use Rattle.qg_open_image.specs.Writing.{fresh_nodes}
use Rattle.qg_image_commits.proofs.CanWrite.{can-be-laid, can-be-written, slots-there, stops-so}
use Rattle.qg_image_commits.proofs.committing.write_trees.Goals as goal

pub commit-requires-clause-trees : goal.commit-requires-clause-trees
commit-requires-clause-trees g c =
    can-be-laid c.args.kept.now c.args.plan.now c.requires.kept.fitted c.requires.plan c.sizes.result c.next.result _
    c.as_slice-2.result.now (record {
      sizes_are = c.sizes.ensures;
      next_is = c.next.ensures;
      roots = c.as_slice.ensures;
      book = c.refs.ensures;
      quota = refl;
      slots_are = c.as_slice-2.ensures;
    }) c.requires.early

pub commit-requires-clause-fresh : goal.commit-requires-clause-fresh
commit-requires-clause-fresh g c = can-be-written c.args.kept.now c.requires.kept.fitted c.sizes.result c.sizes.ensures

pub commit-requires-clause-slots : goal.commit-requires-clause-slots
commit-requires-clause-slots g c =
    slots-there c.args.kept.now c.args.plan.now c.requires.kept.fitted c.requires.plan c.sizes.result
    c.as_slice-2.result.now c.sizes.ensures c.as_slice-2.ensures

pub returns-clause-read : goal.returns-clause-read
returns-clause-read g c =
    subst (λ (sizes : Sizes). IfOk c.commit.result (λ trees. All (IsReadBack sizes.nodesize)
    (fresh_nodes c.args.kept.now.fs.land.blocks.draft)))
    c.sizes.ensures c.commit.ensures.read

pub returns-clause-stopped : goal.returns-clause-stopped
returns-clause-stopped g c = λ events told.
    stops-so c.args.kept.now c.args.plan.now c.sizes.result c.next.result _ c.as_slice-2.result.now events _
    c.commit.result (c.commit.ensures.stopped events told) (record {
      sizes_are = c.sizes.ensures;
      next_is = c.next.ensures;
      roots = c.as_slice.ensures;
      book = c.refs.ensures;
      quota = refl;
      slots_are = c.as_slice-2.ensures;
    })
