use Rattle.std.proofs.Common.{sym, ◌∙◌}
use Rattle.std.proofs.lemmas.Bool.{eq-eqb, ne_eqb}
use Rattle.qg_items.specs.declared.kind.TheConstants.{EXTENT_DATA}
use Rattle.qg_tree_items.proofs.PieceOfItem.{piece_is, piece_none}
use Rattle.qg_tree_items.proofs.piece.piece_in.Goals as goal

pub returns-then-item-eq-EXTENT_DATA : goal.returns-then-item-eq-EXTENT_DATA
returns-then-item-eq-EXTENT_DATA c =
    c.piece_of.ensures
    ∙ sym (piece_is c.args.item.now (eq-eqb c.args.item.now.key.kind EXTENT_DATA c.if-item-eq-EXTENT_DATA.true))

pub returns-else-item-eq-EXTENT_DATA : goal.returns-else-item-eq-EXTENT_DATA
returns-else-item-eq-EXTENT_DATA c =
    sym (piece_none c.args.item.now (ne_eqb c.args.item.now.key.kind EXTENT_DATA c.if-item-eq-EXTENT_DATA.false))
