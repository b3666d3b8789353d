use Rattle.std.proofs.Common.{refl}
use Rattle.qg_tree_items.proofs.Rows.{IsLast-one}
use Rattle.qg_tree_items.proofs.last.LastFile.of.Goals as goal

pub returns : goal.returns
returns c = IsLast-one _ c.args.inode.now refl refl refl refl
