use Rattle.std.proofs.Common.{◌≡◌, ℕ, ◌≤◌, ◌+◌, ◌-◌, List, ◌*◌, ◌<◌, ◌∷◌, Some, None, map, arith, refl, sym, ◌∙◌}
use Rattle.std.proofs.lemmas.Result.{err_from_is_err_and, on_ok_weaker}
use Rattle.qg_device.specs.History.{Event, Recorded, content}
use Rattle.qg_image.specs.Walk.{next_key, node_failure, node_found, walk_failure}
use Rattle.qg_node.specs.declared.node.Node.TheVariants.{Inner}
use Rattle.qg_walk.specs.Standing.{expected_below}
use Rattle.qg_walk.specs.Added.{AreSpaced, HasAdded, below_node, found_by}
use Rattle.qg_walk.proofs.Failures.{FailsAs-inner, FailsAs-leaf, IsFormed-form, level_no_higher, level_within}
use Rattle.qg_walk.proofs.Failures.{levels_low, pointers-passed, walk-passed, walk-told}
use Rattle.qg_walk.proofs.Growth.{HasAdded-inner, HasAdded-said, HasPassed-more, HasPassed-none, level_passed}
use Rattle.qg_walk.proofs.KeyRanges.{AreSpaced-within, AreWithin-own}
use Rattle.qg_walk.proofs.walk.+walk.Goals as goal

pub walk-returns-in_err-node-clause-failure : goal.walk-returns-in_err-node-clause-failure
walk-returns-in_err-node-clause-failure g t c events depth told deep =
    let is = err_from_is_err_and c.from_residual.result c.from_residual.ensures.1 in
    rw (is.1, is.2)
    (walk-told g.P.TreePart.tree c.args.superblock.now (node_found c.args.superblock.now (content events)) depth
    c.args.expected.now c.args.address c.in_err-node.field-0.0
    (c.in_err-node.ensures.failure events told))

pub walk-walk_pointers-requires : goal.walk-walk_pointers-requires
walk-walk_pointers-requires g t c κs within =
    let judged = rw c.in-Inner.is at c.in_ok-node.ensures.judged in
    let formed = IsFormed-form g.P.TreePart.tree c.args.superblock.now c.args.expected.now c.args.address
    (Inner c.in-Inner.header c.in-Inner.pointers) judged.formed in
    let levels = judged.stands.sound.levelled in
    let high = level_no_higher c.args.expected.now.level c.in-Inner.header.level formed.level levels.1 in
    let from = c.args.expected.now.from in
    let to = c.args.expected.now.to in
    let falls : 2 * ((c.in-Inner.header.level - 1) + 1) < t = omega (arith, c.decreases, high, levels.0) in
    let spaced = AreSpaced-within from to c.in-Inner.pointers
    (AreWithin-own from to (map (λ pointer. pointer.key) c.in-Inner.pointers) judged.stands.sound.ascending
    formed.begins formed.ends) in (
      falls,
      (
        within.0,
        (
          within.1.0,
          (
            within.1.1.0,
            (
              within.1.1.1,
              (
                c.requires.served,
                (
                  rw c.in_ok-node.ensures.size c.requires.inside,
                  (
                    c.visit.auto.buffer
                        ∙ c.requires.buffer,
                    rw c.as_slice-in-Inner.ensures spaced,
                  ),
                ),
              ),
            ),
          ),
        ),
      ),
    )

pub walk-returns-in-Leaf-clause-failure : goal.walk-returns-in-Leaf-clause-failure
walk-returns-in-Leaf-clause-failure g t c events depth told deep =
    let judged = rw c.in-Leaf.is at c.in_ok-node.ensures.judged in
    FailsAs-leaf g.P.TreePart.tree c.args.superblock.now (node_found c.args.superblock.now (content events)) depth
    c.args.expected.now c.args.address c.in-Leaf.header c.in-Leaf.items c.add_said.result
    (rw c.in-Leaf.is at (c.in_ok-node.ensures.found events told)) judged.formed
    (rw c.as_slice.ensures at c.add_said.ensures.failure)

pub walk-returns-in-Leaf-clause-added : goal.walk-returns-in-Leaf-clause-added
walk-returns-in-Leaf-clause-added g t c =
    let judged = rw c.in-Leaf.is at c.in_ok-node.ensures.judged in
    HasAdded-said g.P.TreePart.tree g.P.TreePart.meaning g.N.NodeList.keeps c.args.superblock.now
    (g.D.Disk.history c.args.disk.now) c.args.expected.now c.args.address c.in-Leaf.header c.in-Leaf.items
    (found_by g.L.PartList.list c.args.walked.now) (record {
      parts = g.L.PartList.list c.add_said.new.parts;
      nodes = c.visit.new.nodes;
    }) c.add_said.result judged
    (λ events told. rw c.in-Leaf.is at (c.in_ok-node.ensures.found events told))
    (rw c.as_slice.ensures at c.add_said.ensures.failure) (rw c.as_slice.ensures at c.add_said.ensures.bytes)
    (rw c.as_slice.ensures at c.add_said.ensures.said) (rw c.in-Leaf.is at c.in_ok-node.ensures.kept)

pub walk-returns-in-Inner-clause-failure : goal.walk-returns-in-Inner-clause-failure
walk-returns-in-Inner-clause-failure g t c events depth told deep =
    let judged = rw c.in-Inner.is at c.in_ok-node.ensures.judged in
    let formed = IsFormed-form g.P.TreePart.tree c.args.superblock.now c.args.expected.now c.args.address
    (Inner c.in-Inner.header c.in-Inner.pointers) judged.formed in
    let levels = judged.stands.sound.levelled in
    FailsAs-inner g.P.TreePart.tree c.args.superblock.now (node_found c.args.superblock.now (content events)) depth
    c.args.expected.now c.args.address c.in-Inner.header c.in-Inner.pointers
    c.walk_pointers.result (rw c.in-Inner.is at (c.in_ok-node.ensures.found events told)) judged.formed levels.0
    (level_within c.args.expected.now.level c.in-Inner.header.level depth formed.level levels.1 deep)
    (λ less low. rw c.as_slice-in-Inner.ensures at
    (c.walk_pointers.ensures.failure events less (c.in_ok-node.ensures.history ∙ told) low))

pub walk-returns-in-Inner-clause-added : goal.walk-returns-in-Inner-clause-added
walk-returns-in-Inner-clause-added g t c =
    let judged = rw c.in-Inner.is at c.in_ok-node.ensures.judged in
    let added = rw (c.in_ok-node.ensures.history, c.as_slice-in-Inner.ensures) at c.walk_pointers.ensures.added in
    on_ok_weaker c.walk_pointers.result
    (HasAdded-inner g.P.TreePart.tree g.P.TreePart.meaning g.N.NodeList.keeps c.args.superblock.now
    (g.D.Disk.history c.args.disk.now) c.args.expected.now c.args.address c.in-Inner.header c.in-Inner.pointers
    (found_by g.L.PartList.list c.args.walked.now) (record {
      parts = g.L.PartList.list c.args.walked.now.parts;
      nodes = c.visit.new.nodes;
    }) (found_by g.L.PartList.list c.walk_pointers.new.walked) judged
    (λ events told. rw c.in-Inner.is at (c.in_ok-node.ensures.found events told)) refl
    (rw c.in-Inner.is at c.in_ok-node.ensures.kept))
    added

pub walk_pointers-pointers-init : goal.walk_pointers-pointers-init
walk_pointers-pointers-init g t c = record {
  history = refl;
  size = refl;
  count = omega arith;
  spaced = c.requires.spaced;
  failure = λ events depth told low. refl;
  passed = HasPassed-none g.P.TreePart.tree g.P.TreePart.meaning g.N.NodeList.keeps c.args.superblock.now
      (g.D.Disk.history c.args.disk.now) c.args.expected.now.from c.args.expected.now.to c.args.level
      c.args.pointers.now (found_by g.L.PartList.list c.args.walked.now);
}

pub walk_pointers-pointers-preserved : goal.walk_pointers-pointers-preserved
walk_pointers-pointers-preserved g t c =
    let tree = g.P.TreePart.tree in
    let super = c.args.superblock.now in
    let level = c.args.level in
    let from = c.args.expected.now.from in
    let to = c.args.expected.now.to in
    let pointer = c.in-Some.pointer.now in
    let others = c.in-Some.others.now in
    let rest = c.in-Some.ensures.cases.0 in
    let spaced : AreSpaced from to (pointer ∷ others) = rw rest at c.pointers.invariant.spaced in
    let passes : (events : List Event) (depth : ℕ) → g.D.Disk.history c.args.disk.now ≡ Recorded events → level ≤ depth
    → walk_failure (node_failure tree super) (node_found super (content events)) depth
    (expected_below level to pointer others) pointer.child ≡ None =
    λ events depth told low. rw c.expected_below-below.ensures at
    (c.in_ok-walk.ensures.failure events depth (c.pointers.invariant.history ∙ told)
    (rw c.expected_below-below.ensures (levels_low level depth low))) in
    let below = expected_below level to pointer others in
    let old = g.D.Disk.history c.args.disk.now in
    let added : HasAdded tree g.P.TreePart.meaning g.N.NodeList.keeps super old (Some pointer.key) (next_key to others)
    (below_node super pointer.child) (found_by g.L.PartList.list c.pointers.walked)
    (found_by g.L.PartList.list c.walk.new.walked) =
    rw (c.expected_below-below.ensures, c.pointers.invariant.history) at c.in_ok-walk.ensures.added in
    record {
      history = c.in_ok-walk.ensures.history ∙ c.pointers.invariant.history;
      size = c.in_ok-walk.ensures.size ∙ c.pointers.invariant.size;
      count = omega (arith, c.in_ok-walk.ensures.cause.fine, c.pointers.invariant.count);
      spaced = spaced.2;
      failure = λ events depth told low.
          sym (pointers-passed (walk_failure (node_failure tree super) (node_found super (content events)) depth) level
          to pointer others (passes events depth told low))
          ∙ (rw rest at (c.pointers.invariant.failure events depth told low));
      passed =
          HasPassed-more tree g.P.TreePart.meaning g.N.NodeList.keeps super old from to level c.args.pointers.now
          pointer others (found_by g.L.PartList.list c.args.walked.now)
          (found_by g.L.PartList.list c.pointers.walked) (found_by g.L.PartList.list c.walk.new.walked)
          (rw rest at c.pointers.invariant.passed) added
          (λ events told.
          level_passed super (content events) below pointer.child level refl
          (walk-passed tree super (node_found super (content events)) level below pointer.child
          (passes events level told (omega arith))))
          spaced.0 spaced.1;
    }
