use Rattle.std.proofs.Common.{sym, ap, ◌∙◌}
use Rattle.std.specs.Prelude.{Some}
use Rattle.std.specs.Option.{option_map}
use Rattle.std.proofs.lemmas.Bool.{eq-eqb, ne_eqb}
use Rattle.qg_items.specs.declared.kind.TheConstants.{EXTENT_DATA}
use Rattle.qg_image.specs.declared.part.FilePart.TheVariants.{PieceOf}
use Rattle.qg_image.specs.Owed.{owed_by_part}
use Rattle.qg_backref_rule.proofs.Collecting.{other_owes, piece_owes}
use Rattle.qg_backref_rule.proofs.collect.owed_by_item.Goals as goal

pub returns-then-item-ne-EXTENT_DATA : goal.returns-then-item-ne-EXTENT_DATA
returns-then-item-ne-EXTENT_DATA c =
    sym (other_owes c.args.header.now c.args.full c.args.item.now
    (ne_eqb c.args.item.now.key.kind EXTENT_DATA c.if-item-ne-EXTENT_DATA.true))

pub returns-in_default : goal.returns-in_default
returns-in_default c =
    sym (piece_owes c.args.header.now c.args.full c.args.item.now
    (eq-eqb c.args.item.now.key.kind EXTENT_DATA c.if-item-ne-EXTENT_DATA.false)
    ∙ ap (λ given. owed_by_part c.args.header.now c.args.full (option_map (PieceOf c.args.item.now.key.objectid) given))
    (sym c.piece_of.ensures ∙ c.in_default.is))

pub returns : goal.returns
returns c =
    sym (piece_owes c.args.header.now c.args.full c.args.item.now
    (eq-eqb c.args.item.now.key.kind EXTENT_DATA c.if-item-ne-EXTENT_DATA.false)
    ∙ ap (λ given. owed_by_part c.args.header.now c.args.full (option_map (PieceOf c.args.item.now.key.objectid) given))
    (sym c.piece_of.ensures ∙ c.in-Some.is)
    ∙ ap (λ ino. owed_by_part c.args.header.now c.args.full (Some (PieceOf ino c.in-Some.piece)))
    (sym c.new-ino.ensures) ∙ c.reference_of_piece.ensures)
