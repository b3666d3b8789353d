use Rattle.std.proofs.Common.{◌≡◌, ◌++◌, take}
use Rattle.std.specs.List.{flat_map}
use Rattle.qg_grammar.specs.ReplyText.{line, row_text}
use Rattle.qg_script.proofs.reply.write_shown.Given as goal

abbrev pub invariant-loop-row : goal.invariant-loop-row
invariant-loop-row l = l.text ≡ l.initial.text ++ flat_map (λ row. line (row_text row)) (take l.row-index l.rows)
