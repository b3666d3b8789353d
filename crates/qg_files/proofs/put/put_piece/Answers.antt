use Rattle.std.proofs.Common.{◌≡◌, ◌∷◌, [], take, drop, sym, ◌∙◌, subst, append_assoc}
use Rattle.qg_image.specs.FilesOf.{piece_end}
use Rattle.qg_machine.specs.FileChange.{with_range}
use Rattle.qg_files.specs.Apart.{AreApart}
use Rattle.qg_files.proofs.Edits.{put_hole}
use Rattle.qg_files.proofs.KeptApart.{apart-put}
use Rattle.qg_files.proofs.put.put_piece.Goals as goal

put : (c : goal.In_ok-insert) → c.insert.new.self ≡ with_range c.args.piece.position (piece_end c.args.piece)
    (c.args.piece ∷ []) c.args.pieces.now
put c =
    let xs = c.args.pieces.now in
    let i = c.first_past-index.result in
    c.in_ok-insert.ensures.ok ∙ sym (append_assoc (take i xs) (c.args.piece ∷ []) (drop i xs))
    ∙ sym (put_hole c.args.piece xs i c.requires.apart c.requires.within c.requires.hole c.first_past-index.ensures)

pub returns-clause-ok : goal.returns-clause-ok
returns-clause-ok c = put c

pub returns-clause-apart : goal.returns-clause-apart
returns-clause-apart c =
    subst AreApart (sym (put c)) (apart-put c.args.piece c.args.pieces.now c.requires.apart c.requires.within)
