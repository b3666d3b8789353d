use Rattle.std.proofs.Common.{◌≡◌, ◌<◌, ◌++◌, [], length, take, drop, sym, ap, ◌∙◌, subst, arith}
use Rattle.std.specs.Option.{option_to_list}
use Rattle.std.proofs.lemmas.Result.{on_ok_weaker, on_err_weaker}
use Rattle.qg_machine.specs.FileChange.{part_before, with_range}
use Rattle.qg_files.specs.Apart.{AreApart}
use Rattle.qg_files.specs.Meeting.{AreMeeting}
use Rattle.qg_files.proofs.Edits.{last_sizes, cut_nothing, cut_meeting}
use Rattle.qg_files.proofs.KeptApart.{apart-cut}
use Rattle.qg_files.proofs.Outcome.{either_way}
use Rattle.qg_files.proofs.cut.cut_range.Goals as goal

pub returns-then-first-end-clause-ok : goal.returns-then-first-end-clause-ok
returns-then-first-end-clause-ok c =
    let xs = c.args.pieces.now in
    let first = c.meeting-first.result.0 in
    let meeting = subst (λ end. AreMeeting c.args.from c.args.to xs first end)
    (sym c.if-first-end.true) c.meeting-first.ensures in
    cut_nothing c.args.from c.args.to xs first c.requires.apart c.requires.order meeting

pub part_after-rest-requires : goal.part_after-rest-requires
part_after-rest-requires c =
    last_sizes c.args.from c.args.to c.args.pieces.now c.as_slice-items.result.now c.meeting-first.result.0
    c.meeting-first.result.1 c.index-items-end.result c.requires.apart c.meeting-first.ensures
    (omega (arith, c.meeting-first.ensures.order)) c.as_slice-items.ensures c.index-items-end.is

-- what stands in the list once the rests are put
left : (c : goal.After-replace) → take c.meeting-first.result.0 c.args.pieces.now
    ++ option_to_list c.part_before-front.result ++ option_to_list c.part_after-rest.result
    ++ drop c.meeting-first.result.1 c.args.pieces.now ≡ with_range c.args.from c.args.to [] c.args.pieces.now
left c =
    let xs = c.args.pieces.now in
    let first = c.meeting-first.result.0 in
    let end = c.meeting-first.result.1 in
    let x = c.index-items-first.result in
    ap (λ front. take first xs ++ option_to_list front ++ option_to_list c.part_after-rest.result ++ drop end xs)
    c.part_before-front.ensures
    ∙ ap (λ rest. take first xs ++ option_to_list (part_before c.args.from x) ++ option_to_list rest ++ drop end xs)
    c.part_after-rest.ensures
    ∙ sym (cut_meeting c.args.from c.args.to xs c.as_slice-items.result.now first end x c.index-items-end.result
    c.requires.apart c.meeting-first.ensures (omega (arith, c.meeting-first.ensures.order)) c.as_slice-items.ensures
    c.index-items-first.is c.index-items-end.is)

pub returns-clause-ok : goal.returns-clause-ok
returns-clause-ok c = on_ok_weaker c.replace.result (λ is. is ∙ left c) c.replace.ensures.ok

pub returns-clause-grows : goal.returns-clause-grows
returns-clause-grows c = on_err_weaker c.replace.result (subst (λ zs. length c.args.pieces.now < length zs) (left c))
    c.replace.ensures.grows

pub returns-clause-apart : goal.returns-clause-apart
returns-clause-apart c =
    let xs = c.args.pieces.now in
    either_way AreApart c.replace.new.pieces _ xs c.replace.result c.replace.ensures.ok c.replace.ensures.err
    (subst AreApart (sym (left c)) (apart-cut c.args.from c.args.to xs c.requires.apart c.requires.order))
    c.requires.apart
