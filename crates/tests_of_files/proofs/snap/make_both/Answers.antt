use Rattle.std.proofs.Common.{ℕ, ◌≤◌, ap, subst, sym}
use Rattle.qg_super.specs.Places.{second_place}
use Rattle.qg_node_alloc.specs.Land.{IsDrafted}
use Rattle.qg_tree_read.specs.Tree.{Root}
use Rattle.tests_of_files.proofs.snap.make_both.Goals as goal

pub snapshot-requires-clause-editable : goal.snapshot-requires-clause-editable
snapshot-requires-clause-editable g c =
    let left = c.create.ensures.rests in
    let next = ap (λ (tree : Root). tree.next) c.in_ok-tree.ensures.begun.is in
    record {
      backed = left.rests.backed;
      drafted = subst (λ (generation : ℕ). IsDrafted c.create.new.land generation) (sym next) left.rests.drafted;
      room = subst (λ (bytes : ℕ). second_place ≤ bytes) (sym left.size) c.requires.editable.room;
    }
