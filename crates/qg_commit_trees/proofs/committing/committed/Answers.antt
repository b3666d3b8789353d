use Rattle.std.proofs.Common.{rules, ◌≡◌, ℕ, ◌+◌, List, map, ap, subst, ◌∙◌}
use Rattle.std.specs.Vec.{with_items}
use Rattle.qg_refs.specs.declared.kept.Kept.{Kept}
use Rattle.qg_extents.specs.Table.{IsTable}
use Rattle.qg_shared_trees.specs.Types.{FsTree}
use Rattle.qg_commit_trees.specs.Committing.{IsCommitted, for_generation}
use Rattle.qg_commit_trees.proofs.Renewed.{others-renewed}
use Rattle.qg_commit_trees.proofs.Still.{stands-read, turns-still}
use Rattle.qg_commit_trees.proofs.committing.committed.Given as given
use Rattle.qg_commit_trees.proofs.committing.committed.Goals as goal

abbrev later : (g : given.Over) → goal.After-fs-2-1 g → FsTree
later g c = record {
  tree = c.for_generation-fs.result;
  others = with_items c.args.fs.now.others c.stand_for.new.trees;
  land = record { blocks = c.written.new.self; space = c.hold_besides.new.space };
  refs = c.recorded.new.self;
}

is_committed : (g : given.Over) (c : goal.After-fs-2-1 g) → IsCommitted c.args.fs.now (later g c) c.args.others.now
is_committed g c =
    let old = c.args.fs.now in
    let next_is : c.new-next.result ≡ old.tree.next + 1 = search rules in
    let tree_is : (later g c).tree ≡ for_generation (old.tree.next + 1) old.tree =
    c.for_generation-fs.ensures ∙ ap (λ (n : ℕ). for_generation n old.tree) next_is in
    let others_are : (later g c).others.items ≡ map (for_generation (old.tree.next + 1)) old.others.items =
    others-renewed old old.others.len c.new-next.result c.as_mut_slice.result.now c.stand_for.new.trees
    c.as_mut_slice.ensures.value c.as_mut_slice.ensures.len c.stand_for.ensures next_is in
    let refs_are : (later g c).refs ≡ record old.refs { held = old.refs.refs; next = old.tree.next + 1 } =
    search rules in
    search rules

pub returns-clause-turns : goal.returns-clause-turns
returns-clause-turns g c can = turns-still c.args.fs.now (later g c) c.args.others.now can (is_committed g c)

pub returns-clause-stands : goal.returns-clause-stands
returns-clause-stands g c = λ events bytes items names subvolume stands writes shown told.
    let table = subst (λ (t : List (ℕ × Kept)). IsTable t) c.refs.ensures c.len-ascending.ensures.table in
    stands-read c.args.fs.now (later g c) c.args.others.now events (g.D.Disk.history c.args.disk.now) bytes items names
    table subvolume stands (is_committed g c) writes shown told
