use Rattle.std.proofs.Common.{◌-◌, ◌++◌, take, drop, sym, ap, subst, ◌∙◌, arith}
use Rattle.std.specs.Option.{option_to_list}
use Rattle.qg_machine.specs.FileChange.{part_before}
use Rattle.qg_files.specs.Meeting.{AreMeeting}
use Rattle.qg_files.specs.Split.{IsSplit}
use Rattle.qg_files.proofs.Edits.{last_sizes}
use Rattle.qg_files.proofs.Splits.{split_meeting, split_nothing}
use Rattle.qg_files.proofs.split.split_range.Goals as goal

pub part_after-requires : goal.part_after-requires
part_after-requires c =
    last_sizes c.args.from c.args.to c.args.pieces.now c.as_slice-items.result.now c.meeting-first.result.0
    c.meeting-first.result.1 c.index-items-end.result c.requires.apart c.meeting-first.ensures
    (omega (arith, c.meeting-first.ensures.order)) c.as_slice-items.ensures c.index-items-end.is

pub returns-then-first-end : goal.returns-then-first-end
returns-then-first-end c =
    let from = c.args.from in
    let to = c.args.to in
    let xs = c.args.pieces.now in
    let first = c.meeting-first.result.0 in
    let end = c.meeting-first.result.1 in
    let meeting = subst (λ n. AreMeeting from to xs first n) (sym c.if-first-end.true) c.meeting-first.ensures in
    let gone = c.in_ok-gone.ensures ∙ ap (λ zs. take (end - first) (drop first zs)) c.as_slice-items.ensures
    ∙ ap (λ n. take (n - first) (drop first xs)) (sym c.if-first-end.true) in
    subst (λ zs. IsSplit from to xs zs c.new-rests.result) (sym gone)
    (subst (λ zs. IsSplit from to xs (take (first - first) (drop first xs)) zs) (sym c.new-rests.ensures)
    (split_nothing from to xs first c.requires.apart c.requires.order meeting))

pub returns : goal.returns
returns c =
    let from = c.args.from in
    let to = c.args.to in
    let xs = c.args.pieces.now in
    let first = c.meeting-first.result.0 in
    let end = c.meeting-first.result.1 in
    let x = c.index-items-first.result in
    let gone = c.in_ok-gone.ensures ∙ ap (λ zs. take (end - first) (drop first zs)) c.as_slice-items.ensures in
    let front = c.in_ok-push_part.ensures.ok ∙ ap (λ zs. zs ++ option_to_list c.part_before.result) c.new-rests.ensures
    ∙ ap option_to_list c.part_before.ensures in
    let rests = c.in_ok-push_part-2.ensures.ok ∙ ap (λ zs. zs ++ option_to_list c.part_after.result) front
    ∙ ap (λ part. option_to_list (part_before from x) ++ option_to_list part) c.part_after.ensures in
    subst (λ zs. IsSplit from to xs zs c.push_part-2.new.parts) (sym gone)
    (subst (λ zs. IsSplit from to xs (take (end - first) (drop first xs)) zs) (sym rests)
    (split_meeting from to xs c.as_slice-items.result.now first end x c.index-items-end.result c.requires.apart
    c.meeting-first.ensures (omega (arith, c.meeting-first.ensures.order)) c.as_slice-items.ensures
    c.index-items-first.is c.index-items-end.is))
