use Rattle.std.proofs.Common.{◌≡◌, ◌++◌, get_or, take, sym, ap, ◌∙◌, subst, arith}
use Rattle.std.specs.Option.{option_to_list}
use Rattle.std.proofs.lemmas.List.{append-nil, drop_all}
use Rattle.qg_machine.specs.FileChange.{before}
use Rattle.qg_files.specs.Apart.{AreApart}
use Rattle.qg_files.proofs.Edits.{cut_behind, keep_before}
use Rattle.qg_files.proofs.KeptApart.{apart-before}
use Rattle.qg_files.proofs.cut.truncate.Goals as goal

cut : (c : goal.After-replace_by) → c.replace_by.new.pieces ≡ before c.args.size c.args.pieces.now
cut c =
    let xs = c.args.pieces.now in
    let size = c.args.size in
    let first = c.first_past-first.result in
    let x = c.index-as_slice-first.result in
    let is = c.index-as_slice-first.is ∙ ap (λ zs. get_or zs first x) c.as_slice.ensures in
    c.replace_by.ensures
    ∙ ap (λ zs. take first xs ++ option_to_list c.part_before-front.result ++ zs)
    (drop_all c.len-end.result xs (omega arith))
    ∙ append-nil (take first xs ++ option_to_list c.part_before-front.result)
    ∙ ap (λ part. take first xs ++ option_to_list part) c.part_before-front.ensures
    ∙ sym (cut_behind size xs first x c.requires c.first_past-first.ensures (omega arith) is)

pub returns-then-first-end-clause-cut : goal.returns-then-first-end-clause-cut
returns-then-first-end-clause-cut c = cut c

pub returns-then-first-end-clause-apart : goal.returns-then-first-end-clause-apart
returns-then-first-end-clause-apart c =
    subst AreApart (sym (cut c)) (apart-before 0 c.args.size c.args.pieces.now c.requires)

pub returns-else-first-end-clause-cut : goal.returns-else-first-end-clause-cut
returns-else-first-end-clause-cut c =
    keep_before c.args.size c.args.pieces.now c.first_past-first.result c.requires c.first_past-first.ensures
    (omega arith)
