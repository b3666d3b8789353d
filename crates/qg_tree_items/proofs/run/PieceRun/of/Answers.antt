use Rattle.std.proofs.Common.{sym, ◌∙◌, refl}
use Rattle.qg_tree_items.proofs.Neighbours.{one_none}
use Rattle.qg_tree_items.proofs.Rows.{IsRun-between}
use Rattle.qg_tree_items.proofs.run.PieceRun.of.Goals as goal

pub returns-then-is_between : goal.returns-then-is_between
returns-then-is_between c =
    IsRun-between _ c.args.piece.now (sym c.is_between.ensures ∙ c.if-is_between.true) refl refl refl

pub returns-else-is_between : goal.returns-else-is_between
returns-else-is_between c = one_none c.args.ino c.args.piece.now (sym c.is_between.ensures ∙ c.if-is_between.false)
