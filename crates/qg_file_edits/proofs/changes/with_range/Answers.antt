use Rattle.std.proofs.Common.{List, sym, ap, subst, ◌∙◌}
use Rattle.qg_num.specs.declared.piece.Piece.{Piece}
use Rattle.qg_machine.specs.FileChange.{with_range}
use Rattle.qg_files.specs.Apart.{AreApart}
use Rattle.qg_file_edits.proofs.changes.with_range.Goals as goal

pub replace_range-requires-clause-apart : goal.replace_range-requires-clause-apart
replace_range-requires-clause-apart c =
    subst (λ (xs : List Piece). AreApart xs) (sym (c.in_ok-put.ensures ∙ c.as_slice.ensures)) c.requires.apart

pub returns-clause-put : goal.returns-clause-put
returns-clause-put c =
    c.in_ok-replace_range.ensures.ok
    ∙ ap (λ (xs : List Piece). with_range c.args.from c.args.to c.args.given.now xs)
    (c.in_ok-put.ensures ∙ c.as_slice.ensures)
