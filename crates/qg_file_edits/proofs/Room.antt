-- The slots that a command leaves for the next commit.
use Rattle.std.proofs.Common.{ℕ, ◌+◌, ◌*◌, ◌≤◌, List, arith}
use Rattle.qg_device.specs.History.{History}
use Rattle.qg_image.specs.declared.file.File.{File}
use Rattle.qg_image.specs.Need.{file_copies, nodes_filled}
use Rattle.qg_space.specs.Holding.{free_slots}
use Rattle.qg_weighed.specs.Weight.{weight_of}
use Rattle.qg_shared_trees.specs.Heavier.{edit_bytes, name_new_bytes}
use Rattle.qg_shared_trees.specs.Need.{GetsHeavierBy}
use Rattle.qg_shared_trees.proofs.Covered.{leaves-need}
use Rattle.qg_shared_trees.proofs.Sums.{held-heavier}
use Rattle.qg_shared_trees.specs.Types.{FsTree}
use Rattle.qg_file_edits.specs.Files.{LeavesFiles}

weighs_besides : (before besides after edits names : ℕ) → after ≤ before + (edits + names)
    → after ≤ before + besides + edits + names
weighs_besides before besides after edits names most = omega (arith, most)

module _ (old new : FsTree) (history : History) (files : List (ℕ × File)) (pieces besides : ℕ)
    (wide : 4096 ≤ old.land.space.sizes.nodesize) (leaves : LeavesFiles old new history files pieces) where
  abbrev before : ℕ
  before = weight_of old.refs.held old.refs.refs

  abbrev after : ℕ
  after = weight_of new.refs.held new.refs.refs

  gets_heavier : GetsHeavierBy old.land.space.sizes.nodesize old.tree.height pieces 3 (pieces + 3) (2 * (pieces + 3))
      (weight_of old.refs.held old.refs.refs + besides) (weight_of new.refs.held new.refs.refs)
  gets_heavier =
      let edits = (pieces + 3) * edit_bytes old.land.space.sizes.nodesize 3 in
      let names = 2 * (pieces + 3) * name_new_bytes in
      record {
        size = wide;
        low = omega arith;
        few_edits = omega arith;
        few_names = omega arith;
        after_most = weighs_besides before besides after edits names
            (held-heavier old.refs new.refs (edits + names) leaves.heavier);
      }

  pub leaves-room : 10 * file_copies old.tree.height pieces
      + 8 * nodes_filled old.land.space.sizes.nodesize (weight_of old.refs.held old.refs.refs + besides) + 40
      ≤ free_slots old.land.space
      → 5 * nodes_filled old.land.space.sizes.nodesize (weight_of new.refs.held new.refs.refs) + 40
      ≤ free_slots new.land.space
  leaves-room enough =
      leaves-need old.land.space.sizes.nodesize old.tree.height pieces 3 (pieces + 3) (2 * (pieces + 3))
      (before + besides) after (free_slots old.land.space) (free_slots new.land.space) gets_heavier enough leaves.free
