use Rattle.std.proofs.Common.{List, [], sym, ap, subst, ◌∙◌}
use Rattle.qg_num.specs.declared.piece.Piece.{Piece}
use Rattle.qg_machine.specs.FileChange.{with_range}
use Rattle.qg_files.specs.Apart.{AreApart}
use Rattle.qg_file_edits.proofs.changes.without_range.Goals as goal

pub cut_range-requires-clause-apart : goal.cut_range-requires-clause-apart
cut_range-requires-clause-apart c =
    subst (λ (xs : List Piece). AreApart xs) (sym (c.in_ok-rests.ensures ∙ c.as_slice.ensures)) c.requires.apart

pub returns : goal.returns
returns c =
    c.in_ok-cut_range.ensures.ok
    ∙ ap (λ (xs : List Piece). with_range c.args.from c.args.to [] xs) (c.in_ok-rests.ensures ∙ c.as_slice.ensures)
