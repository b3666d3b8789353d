use Rattle.std.proofs.Common.{◌+◌, ◌≤◌, [], ◌∷◌, sym, subst}
use Rattle.std.specs.List.{All}
use Rattle.qg_num.specs.declared.piece.Piece.{Piece}
use Rattle.qg_image.specs.FilesOf.{piece_end}
use Rattle.qg_files.specs.Apart.{AreApartFrom}
use Rattle.qg_file_edits.proofs.Given.{one-apart, one-ends, written-so}
use Rattle.qg_file_edits.proofs.changes.write_change.Goals as goal

pub range_change-requires-clause-given : goal.range_change-requires-clause-given
range_change-requires-clause-given c =
    subst (λ (p : Piece). AreApartFrom c.args.off (p ∷ [])) (sym c.new_piece-piece.ensures)
    (one-apart c.args.generation c.args.off c.args.len c.args.run c.requires.some c.requires.near)

pub range_change-requires-clause-ends : goal.range_change-requires-clause-ends
range_change-requires-clause-ends c =
    let end = c.args.off + c.args.len in
    subst (λ (p : Piece). All (λ piece. piece_end piece ≤ end) (p ∷ [])) (sym c.new_piece-piece.ensures)
    (one-ends c.args.generation c.args.off c.args.len c.args.run)

pub returns : goal.returns
returns c =
    written-so c.args.generation c.args.off c.args.len c.args.run c.new_piece-piece.result c.new_piece.result
    c.in_ok-named.named c.args.found c.range_change.result c.new_piece-piece.ensures c.new_piece.ensures
    c.in_ok-named.ensures c.range_change.ensures
