use Rattle.std.proofs.Common.{◌-◌, ◌++◌, length, take, drop, ap, ◌∙◌, arith}
use Rattle.std.proofs.lemmas.List.{take_all, length-drop}
use Rattle.qg_files.proofs.Splices.{spliced_more}
use Rattle.qg_files.proofs.splice.splice.Goals as goal

pub returns-in_ok-insert_slice-clause-ok : goal.returns-in_ok-insert_slice-clause-ok
returns-in_ok-insert_slice-clause-ok c =
    let xs = c.args.pieces.now in
    let items = c.args.items.now in
    let first = c.args.first in
    let end = c.args.end in
    let room = end - first in
    let over = take_all (length items - room) (drop room items) (omega (arith, length-drop room items)) in
    c.write_over.ensures
    ∙ ap (λ zs. take first zs ++ take room items ++ drop end zs) (c.in_ok-insert_slice.ensures.ok
    ∙ ap (λ zs. take end xs ++ zs ++ drop end xs) over)
    ∙ spliced_more xs items first end c.requires.order c.requires.bound
