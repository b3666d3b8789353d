use Rattle.std.proofs.Common.{◌≡◌, ◌++◌, take}
use Rattle.std.specs.List.{flat_map}
use Rattle.qg_grammar.specs.ReplyText.{line, piece_text}
use Rattle.qg_script.proofs.reply.write_file.Given as goal

abbrev pub invariant-loop-piece : goal.invariant-loop-piece
invariant-loop-piece l = l.text ≡ l.initial.text ++ flat_map (λ piece. line (piece_text piece))
    (take l.piece-index l.pieces)
