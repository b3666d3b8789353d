use Rattle.std.proofs.Common.{◌≡◌, ◌≤◌, [], sym, subst, arith}
use Rattle.qg_num.specs.declared.piece.Piece.{Piece}
use Rattle.qg_image.specs.FilesOf.{piece_end}
use Rattle.qg_machine.specs.FileChange.{pieces_meeting}
use Rattle.qg_files.proofs.Puts.{hole_behind}
use Rattle.calls.proofs.files.write_over.Goals as goal

pub put_piece-requires-clause-hole : goal.put_piece-requires-clause-hole
put_piece-requires-clause-hole c =
    let from = c.args.piece.position in
    let to = piece_end c.args.piece in
    let cut = hole_behind from to from to [] c.args.pieces.now c.requires (omega arith) (omega arith) tt in
    subst (λ pieces. pieces_meeting from to pieces ≡ 0) (sym c.in_ok-cut_range.ensures.ok) cut
