use Rattle.std.proofs.Common.{◌≡◌, ℕ, ◌+◌, List, [], ◌∷◌, ◌++◌, take, None, arith, refl, sym, subst, ◌∙◌}
use Rattle.std.specs.List.{Contains}
use Rattle.std.proofs.lemmas.Result.{err_from_is_err_and}
use Rattle.qg_device.specs.History.{content}
use Rattle.qg_items.specs.declared.root.RootItem.{RootItem}
use Rattle.qg_image.proofs.Contained.{none_contained}
use Rattle.qg_image.specs.Verdict.{subvolume_failure}
use Rattle.qg_shared_walk.specs.Found.{HasTrees}
use Rattle.qg_shared_walk.proofs.Remembered.{nothing_remembered}
use Rattle.qg_shared_walk.proofs.AllTrees.{all_found, all_taken, no_trees, none_failed, of_more, one_more_tree}
use Rattle.qg_shared_walk.proofs.AllTrees.{one_taken}
use Rattle.qg_shared_walk.proofs.AllTrees.{one_tells}
use Rattle.qg_shared_walk.proofs.subvolumes.read_subvolumes.Goals as goal

pub roots-init : goal.roots-init
roots-init g c =
    let memo = c.new-memo.result in
    let kept : g.N.NodeList.keeps memo.nodes [] = rw c.new-memo.ensures.nodes c.requires.none in
    record {
      history = refl;
      size = refl;
      count = omega arith;
      slots = record { nodes = []; kept = kept; slots = refl };
      passes = λ events told entry has. absurd (none_contained entry has);
      read = λ events told.
          no_trees c.args.superblock.now events g.N.NodeList.keeps memo.digests.entries memo.nodes
          (nothing_remembered c.args.superblock.now events g.N.NodeList.keeps memo.digests.entries memo.nodes
          c.new-memo.ensures.none kept);
    }

pub returns-in_err-read_tree-clause-failure : goal.returns-in_err-read_tree-clause-failure
returns-in_err-read_tree-clause-failure g c events told =
    let super = c.args.superblock.now in
    let trees = c.roots.invariant.read events told in
    let fault = c.in_err-read_tree.field-0.0 in
    let is = err_from_is_err_and c.from_residual-in_err-read_tree.result c.from_residual-in_err-read_tree.ensures.1 in
    rw (is.1, is.2)
    (one_tells (λ entry. subvolume_failure super (content events) entry.1) c.args.roots.now c.roots.entry-index
    c.entry-item.result fault c.roots-test.true c.entry-item.is
    (c.roots.invariant.passes events told)
    (c.in_err-read_tree.ensures.failure events trees.now (c.roots.invariant.history ∙ told) trees.remembers))

pub roots-preserved : goal.roots-preserved
roots-preserved g c =
    let super = c.args.superblock.now in
    let keeps = g.N.NodeList.keeps in
    let roots = c.args.roots.now in
    let entry = c.entry-item.result in
    let front = take c.roots.entry-index roots in
    let longer : take (c.roots.entry-index + 1) roots ≡ front ++ entry ∷ [] =
    one_taken roots c.roots.entry-index entry c.roots-test.true c.entry-item.is in
    record {
      history = c.in_ok-read_tree.ensures.history ∙ c.roots.invariant.history;
      size = c.in_ok-read_tree.ensures.size ∙ c.roots.invariant.size;
      count = omega (arith, c.in_ok-read_tree.ensures.cause.fine, c.roots.invariant.count);
      slots = c.in_ok-read_tree.ensures.slots c.roots.invariant.slots;
      passes = λ events told other has.
          let trees = c.roots.invariant.read events told in
          of_more (λ (e : ℕ × RootItem). subvolume_failure super (content events) e.1 ≡ None) front entry
          (c.roots.invariant.passes events told)
          (c.in_ok-read_tree.ensures.failure events trees.now (c.roots.invariant.history ∙ told) trees.remembers) other
          (subst (λ (xs : List (ℕ × RootItem)). Contains xs other) longer has);
      read = λ events told.
          let trees = c.roots.invariant.read events told in
          subst (λ (xs : List (ℕ × RootItem)). HasTrees super events keeps xs c.read_tree.new.memo.digests.entries
          c.read_tree.new.memo.nodes) (sym longer)
          (one_more_tree super events keeps front entry c.roots.memo.digests.entries
          c.read_tree.new.memo.digests.entries c.roots.memo.nodes c.read_tree.new.memo.nodes trees
          (c.in_ok-read_tree.ensures.read events trees.now (c.roots.invariant.history ∙ told) trees.remembers));
    }

pub returns-clause-failure : goal.returns-clause-failure
returns-clause-failure g c events told =
    let roots = c.args.roots.now in
    let whole = all_taken roots c.roots.entry-index c.roots-test.false in
    none_failed (λ entry. subvolume_failure c.args.superblock.now (content events) entry.1) roots
    (λ entry has. c.roots.invariant.passes events told entry (subst (λ (xs : List (ℕ × RootItem)). Contains xs entry)
    (sym whole) has))

pub returns-clause-found : goal.returns-clause-found
returns-clause-found g c events told =
    let super = c.args.superblock.now in
    let keeps = g.N.NodeList.keeps in
    let roots = c.args.roots.now in
    let whole = all_taken roots c.roots.entry-index c.roots-test.false in
    all_found super events keeps roots c.roots.memo.digests.entries c.roots.memo.nodes
    (subst (λ (xs : List (ℕ × RootItem)). HasTrees super events keeps xs c.roots.memo.digests.entries
    c.roots.memo.nodes) whole (c.roots.invariant.read events told))
