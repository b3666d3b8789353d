use Rattle.std.proofs.Common.{◌≡◌, ◌+◌, ◌-◌, ◌*◌, ◌<◌, ◌∷◌, map, None, arith, refl, sym, ◌∙◌}
use Rattle.std.proofs.lemmas.Result.{err_from_is_err_and}
use Rattle.qg_device.specs.History.{content}
use Rattle.qg_node.specs.declared.node.Node.TheVariants.{Inner}
use Rattle.qg_node.specs.Nodes.{header_of}
use Rattle.qg_image.specs.declared.tree.TreeKind.TheVariants.{Files}
use Rattle.qg_image.specs.Walk.{node_failure, node_found, walk_failure}
use Rattle.qg_walk.specs.Standing.{expected_below}
use Rattle.qg_walk.proofs.Failures.{IsFormed-form, level_no_higher, levels_low, walk-told}
use Rattle.qg_walk.proofs.KeyRanges.{AreSpaced-within, AreWithin-own}
use Rattle.qg_shared_walk.specs.Memo.{Walks, WalksBelow}
use Rattle.qg_shared_walk.specs.Wells.{all_failure, below_failure}
use Rattle.qg_shared_walk.proofs.Refusals.{below_inner_read, below_leaf_read, denies_if, denies_told, first_passes}
use Rattle.qg_shared_walk.proofs.Refusals.{fitting_refuses, fitting_walks, node_low, refuses_inner, refuses_leaf}
use Rattle.qg_shared_walk.proofs.Remembered.{below_more, below_none}
use Rattle.qg_shared_walk.proofs.walk.+walk.Goals as goal

pub walk-returns-in-Some-clause-failure : goal.walk-returns-in-Some-clause-failure
walk-returns-in-Some-clause-failure g t c events kept depth told remembers deep =
    fitting_refuses c.args.superblock.now events g.N.NodeList.keeps kept c.args.memo.now.digests.entries
    c.args.memo.now.nodes c.args.expected.now c.args.address c.in-Some.digest
    depth c.fitting.result remembers (sym c.at.ensures ∙ c.in-Some.is) c.fitting.ensures.broken deep

pub walk-returns-in-Some-clause-walks : goal.walk-returns-in-Some-clause-walks
walk-returns-in-Some-clause-walks g t c events kept told remembers =
    fitting_walks c.args.superblock.now events g.N.NodeList.keeps kept c.args.memo.now.digests.entries
    c.args.memo.now.nodes c.args.expected.now c.args.address c.in-Some.digest
    c.fitting.result remembers (sym c.at.ensures ∙ c.in-Some.is) c.fitting.ensures.fits

pub walk-returns-in_err-node-clause-failure : goal.walk-returns-in_err-node-clause-failure
walk-returns-in_err-node-clause-failure g t c events kept depth told remembers deep =
    let super = c.args.superblock.now in
    let fault = c.in_err-node.field-0.0 in
    let is = err_from_is_err_and c.from_residual.result c.from_residual.ensures.1 in
    rw (is.1, is.2)
    (denies_told fault (all_failure super events depth c.args.expected.now c.args.address)
    (walk-told Files super (node_found super (content events)) depth c.args.expected.now c.args.address fault
    (c.in_err-node.ensures.failure events told)))

pub walk-walk_under-requires : goal.walk-walk_under-requires
walk-walk_under-requires g t c κs within =
    let node = c.in_ok-node.node in
    let judged = c.in_ok-node.ensures.judged in
    let formed = IsFormed-form Files c.args.superblock.now c.args.expected.now c.args.address node judged.formed in
    let high = level_no_higher c.args.expected.now.level (header_of node).level formed.level
    (node_low node judged.stands.sound.levelled) in
    let falls : 3 * (header_of node).level + 1 < t = omega (arith, c.decreases, high) in (
      falls,
      (
        within.0,
        (
          within.1,
          (
            c.requires.served,
            (
              rw c.in_ok-node.ensures.size c.requires.inside,
              (
                c.visit.auto.buffer
                    ∙ c.requires.buffer,
                judged,
              ),
            ),
          ),
        ),
      ),
    )

pub walk-returns-clause-failure : goal.walk-returns-clause-failure
walk-returns-clause-failure g t c events kept depth told remembers deep =
    let well = c.in_ok-below.ensures.walks events kept (c.in_ok-node.ensures.history ∙ told)
    (c.in_ok-node.ensures.found events told) remembers in
    c.settle.ensures.failure events well.now depth well.remembers deep

pub walk_under-walk_pointers-requires : goal.walk_under-walk_pointers-requires
walk_under-walk_pointers-requires g t c κs within =
    let judged = rw c.in-Inner.is at c.requires.judged in
    let formed = IsFormed-form Files c.args.superblock.now c.args.expected.now c.args.address
    (Inner c.in-Inner.header c.in-Inner.pointers) judged.formed in
    let from = c.args.expected.now.from in
    let to = c.args.expected.now.to in
    let same : (header_of c.args.node.now).level ≡ c.in-Inner.header.level = rw c.in-Inner.is refl in
    let falls : 3 * ((c.in-Inner.header.level - 1) + 1) < t =
    omega (arith, c.decreases, same, judged.stands.sound.levelled.0) in
    let spaced = AreSpaced-within from to c.in-Inner.pointers
    (AreWithin-own from to (map (λ pointer. pointer.key) c.in-Inner.pointers) judged.stands.sound.ascending
    formed.begins formed.ends) in (
      falls,
      (
        within.0,
        (
          within.1,
          (c.requires.served, (c.requires.inside, (c.requires.buffer, rw c.as_slice-in-Inner.ensures spaced))),
        ),
      ),
    )

pub walk_under-returns-in-Leaf-clause-failure : goal.walk_under-returns-in-Leaf-clause-failure
walk_under-returns-in-Leaf-clause-failure g t c events kept depth told found remembers deep =
    let judged = rw c.in-Leaf.is at c.requires.judged in
    refuses_leaf c.args.superblock.now events depth c.args.expected.now c.args.address c.in-Leaf.header c.in-Leaf.items
    c.read_leaf.result
    (rw c.in-Leaf.is at found) judged.formed (rw c.as_slice.ensures at c.read_leaf.ensures.failure)

pub walk_under-returns-in-Leaf-clause-walks : goal.walk_under-returns-in-Leaf-clause-walks
walk_under-returns-in-Leaf-clause-walks g t c events kept told found remembers =
    rw c.in-Leaf.is
    (below_leaf_read c.args.superblock.now events g.N.NodeList.keeps kept c.args.memo.now.digests.entries
    c.args.memo.now.nodes c.args.expected.now c.args.address c.in-Leaf.header c.in-Leaf.items
    c.read_leaf.result remembers (rw c.in-Leaf.is at found) (rw c.in-Leaf.is at c.requires.judged)
    (rw c.as_slice.ensures at c.read_leaf.ensures.read))

pub walk_under-returns-in-Inner-clause-failure : goal.walk_under-returns-in-Inner-clause-failure
walk_under-returns-in-Inner-clause-failure g t c events kept depth told found remembers deep =
    refuses_inner c.args.superblock.now events depth c.args.expected.now c.args.address c.in-Inner.header
    c.in-Inner.pointers c.walk_pointers.result
    (rw c.in-Inner.is at found) (rw c.in-Inner.is at c.requires.judged) deep
    (λ less low. rw c.as_slice-in-Inner.ensures at
    (c.walk_pointers.ensures.failure events kept less told remembers low))

pub walk_under-returns-in-Inner-clause-walks : goal.walk_under-returns-in-Inner-clause-walks
walk_under-returns-in-Inner-clause-walks g t c events kept told found remembers =
    rw c.in-Inner.is
    (below_inner_read c.args.superblock.now events g.N.NodeList.keeps kept c.walk_pointers.new.memo.digests.entries
    c.walk_pointers.new.memo.nodes c.args.expected.now c.args.address
    c.in-Inner.header c.in-Inner.pointers c.walk_pointers.result (rw c.in-Inner.is at found)
    (rw c.in-Inner.is at c.requires.judged)
    (rw c.as_slice-in-Inner.ensures at (c.walk_pointers.ensures.walks events kept told remembers)))

pub walk_pointers-pointers-init : goal.walk_pointers-pointers-init
walk_pointers-pointers-init g t c = record {
  history = refl;
  size = refl;
  count = omega arith;
  slots = λ slots. slots;
  passes = λ events depth told low none. none;
  walks = λ events kept told remembers.
      below_none c.args.superblock.now events g.N.NodeList.keeps kept c.args.memo.now.digests.entries
      c.args.memo.now.nodes c.args.expected.now.to c.args.level c.args.pointers.now
      (record { last = None; row = c.empty.result }) refl c.empty.ensures remembers;
}

pub walk_pointers-pointers-preserved : goal.walk_pointers-pointers-preserved
walk_pointers-pointers-preserved g t c =
    let super = c.args.superblock.now in
    let keeps = g.N.NodeList.keeps in
    let level = c.args.level in
    let to = c.args.expected.now.to in
    let pointer = c.in-Some.pointer.now in
    let others = c.in-Some.others.now in
    let rest = c.in-Some.ensures.cases.0 in
    record {
      history = c.in_ok-digest.ensures.history ∙ c.pointers.invariant.history;
      size = c.in_ok-digest.ensures.size ∙ c.pointers.invariant.size;
      count = omega (arith, c.in_ok-digest.ensures.cause.fine, c.pointers.invariant.count);
      slots = λ slots. c.in_ok-digest.ensures.slots (c.pointers.invariant.slots slots);
      passes = λ events depth told low none.
          (first_passes (walk_failure (node_failure Files super) (node_found super (content events)) depth) level to
          pointer others
          (rw rest at (c.pointers.invariant.passes events depth told low none))).1;
      walks = λ events kept told remembers.
          let before : WalksBelow super events keeps kept c.pointers.memo.digests.entries c.pointers.memo.nodes to level
          c.args.pointers.now (pointer ∷ others) c.pointers.below =
          rw rest at (c.pointers.invariant.walks events kept told remembers) in
          let one : Walks super events keeps before.now c.walk.new.memo.digests.entries c.walk.new.memo.nodes
          (expected_below level to pointer others) pointer.child c.in_ok-digest.digest =
          rw c.expected_below-told.ensures at
          (c.in_ok-digest.ensures.walks events before.now (c.pointers.invariant.history ∙ told) before.remembers) in
          below_more super events keeps kept c.pointers.memo.digests.entries c.walk.new.memo.digests.entries
          c.pointers.memo.nodes c.walk.new.memo.nodes
          c.args.expected.now.from to level c.args.pointers.now pointer others c.pointers.below c.with-below.result
          c.in_ok-digest.digest before one c.requires.spaced c.with-below.ensures;
    }

pub walk_pointers-returns-in_err-digest-clause-failure : goal.walk_pointers-returns-in_err-digest-clause-failure
walk_pointers-returns-in_err-digest-clause-failure g t c events kept depth told remembers low =
    let super = c.args.superblock.now in
    let level = c.args.level in
    let to = c.args.expected.now.to in
    let pointer = c.in-Some.pointer.now in
    let others = c.in-Some.others.now in
    let rest = c.in-Some.ensures.cases.0 in
    let before = rw rest at (c.pointers.invariant.walks events kept told remembers) in
    let is = err_from_is_err_and c.from_residual.result c.from_residual.ensures.1 in
    rw (is.1, is.2)
    (denies_if c.in_err-digest.field-0.0
    (all_failure super events depth (expected_below level to pointer others) pointer.child)
    (below_failure super events depth level to c.args.pointers.now)
    (λ none. (first_passes (walk_failure (node_failure Files super) (node_found super (content events)) depth) level to
    pointer others
    (rw rest at (c.pointers.invariant.passes events depth told low none))).0)
    (rw c.expected_below-told.ensures at
    (c.in_err-digest.ensures.failure events before.now depth (c.pointers.invariant.history ∙ told) before.remembers
    (rw c.expected_below-told.ensures (levels_low level depth low)))))
