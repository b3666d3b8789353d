use Rattle.std.proofs.Common.{ℕ, ◌≤◌, arith, lit<}
use Rattle.std.specs.List.{All}
use Rattle.std.proofs.lemmas.List.Elements.{All-from_recursion}
use Rattle.qg_super.specs.Places.{slot_at}
use Rattle.qg_refs.specs.declared.kept.Kept.{Kept}
use Rattle.qg_extents.specs.Fresh.{fresh_table}
use Rattle.qg_commit.proofs.FreshTrees.{fresh-enough, fresh_groups, fresh_slots-IsDistinct, fresh_subvolumes, nodes_are}
use Rattle.qg_commit.proofs.FreshTrees.{superblock_is}
use Rattle.qg_commit.proofs.fresh.lay_fresh.Goals as goal

-- what is known is of generation 1
known : (nodesize root : ℕ) → All (λ (entry : ℕ × Kept). entry.1.what.generation ≤ 1) (fresh_table nodesize root)
known nodesize root =
    All-from_recursion (λ (entry : ℕ × Kept). entry.1.what.generation ≤ 1) (fresh_table nodesize root) (omega arith, tt)

pub lay_other_trees-requires : goal.lay_other_trees-requires
lay_other_trees-requires c =
    let sizes = c.args.sizes in
    rw (
      c.slots.ensures,
      c.in_ok-book.ensures.exact,
      c.in_ok-group.ensures,
      c.slot.ensures,
      c.slot-2.ensures,
      c.new.ensures,
      c.new-2.ensures,
      c.new-3.ensures,
      c.new-4.ensures,
    ) (record {
      served = c.requires;
      some = omega arith;
      early = lit< tt;
      subvolumes = fresh_subvolumes (slot_at sizes 2);
      groups = fresh_groups sizes.nodesize;
      known = known sizes.nodesize (slot_at sizes 2);
      room = record {
        apart = fresh_slots-IsDistinct sizes c.requires;
        few = omega arith;
        enough = fresh-enough sizes c.requires;
      };
    })

pub returns-clause-trees : goal.returns-clause-trees
returns-clause-trees c =
    rw (
      c.slots.ensures,
      c.in_ok-book.ensures.exact,
      c.in_ok-group.ensures,
      c.slot.ensures,
      c.slot-2.ensures,
      c.new.ensures,
      c.new-2.ensures,
      c.new-3.ensures,
      c.new-4.ensures,
    ) at c.in_ok-trees.ensures.trees

pub returns-clause-table : goal.returns-clause-table
returns-clause-table c = rw (c.in_ok-book.ensures.exact, c.slot.ensures) at c.len-len.ensures.table

pub returns-clause-superblock : goal.returns-clause-superblock
returns-clause-superblock c = superblock_is c.args.sizes c.in_ok-trees.trees c.requires (returns-clause-trees c)

pub returns-clause-nodes : goal.returns-clause-nodes
returns-clause-nodes c = nodes_are c.args.sizes c.in_ok-trees.trees c.requires (returns-clause-trees c)
