use Rattle.qg_fs_tree.proofs.Ordered.{stands-ordered}
use Rattle.qg_fs_tree.proofs.laws.names_in_another_order.Goals as goal

pub returns : goal.returns
returns c = stands-ordered
