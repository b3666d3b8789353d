use Rattle.std.proofs.Common.{refl}
use Rattle.qg_tree_items.proofs.Rows.{HasEnds-file}
use Rattle.qg_tree_items.proofs.row.Ends.of.Goals as goal

pub returns-in-Inode : goal.returns-in-Inode
returns-in-Inode c = rw c.in-Inode.is (HasEnds-file _ c.of.result _ c.of.ensures refl refl)
