use Rattle.std.proofs.Common.{◌≡◌, ◌-◌, ◌++◌, take, drop, sym, ap, ◌∙◌, subst}
use Rattle.std.specs.List.{filter_map}
use Rattle.std.specs.Option.{option_and_then, option_to_list}
use Rattle.std.proofs.lemmas.List.{append-nil, take_all}
use Rattle.qg_num.specs.declared.piece.Piece.{Piece}
use Rattle.qg_machine.specs.FileChange.{part_before, part_after, within}
use Rattle.qg_files.specs.Apart.{AreApart}
use Rattle.qg_files.proofs.Edits.{sizes_in, within_meeting, filter_map_more}
use Rattle.qg_files.proofs.KeptApart.{apart-within}
use Rattle.qg_files.proofs.take.take_range.Goals as goal
use Rattle.qg_files.proofs.take.take_range.Goals.{in-Some+in_ok-push, in_default}

pub part_within-requires : goal.part_within-requires
part_within-requires c =
    let apart = subst AreApart (sym c.as_slice.ensures) c.requires.apart in
    sizes_in c.as_slice.result.now c.meeting-first.result.0 (c.meeting-first.result.1 - c.meeting-first.result.0)
    c.loop-piece.piece-index c.piece-item.result apart c.loop-piece-test.true c.piece-item.is

pub loop-piece-preserved : goal.loop-piece-preserved
loop-piece-preserved c =
    let items = take (c.meeting-first.result.1 - c.meeting-first.result.0)
    (drop c.meeting-first.result.0 c.as_slice.result.now) in
    let part = λ (piece : Piece). option_and_then (part_before c.args.to) (part_after c.args.from piece) in
    let more = filter_map_more part items c.loop-piece.piece-index c.piece-item.result c.loop-piece-test.true
    c.piece-item.is in
    let before = ap (λ zs. zs ++ option_to_list (part c.piece-item.result)) c.loop-piece.invariant in
    let pushed : c.match-part_within.taken ≡ c.loop-piece.taken ++ option_to_list c.part_within.result =
    elim c.match-part_within.branch [
      | in-Some+in_ok-push w ↦ w.taken-is ∙ w.in_ok-push.ensures.ok
          ∙ ap (λ found. c.loop-piece.taken ++ option_to_list found) (sym w.in-Some.is)
      | in_default w ↦ w.taken-is ∙ sym (append-nil c.loop-piece.taken)
          ∙ ap (λ found. c.loop-piece.taken ++ option_to_list found) (sym w.in_default.is)
    ] in
    pushed ∙ ap (λ found. c.loop-piece.taken ++ option_to_list found) c.part_within.ensures ∙ before ∙ sym more

-- what was taken once all pieces of the range were looked at
all : (c : goal.After-loop-piece) → c.loop-piece.taken ≡ within c.args.from c.args.to c.args.pieces.now
all c =
    let first = c.meeting-first.result.0 in
    let end = c.meeting-first.result.1 in
    let items = take (end - first) (drop first c.as_slice.result.now) in
    let part = λ (piece : Piece). option_and_then (part_before c.args.to) (part_after c.args.from piece) in
    c.loop-piece.invariant ∙ ap (filter_map part) (take_all c.loop-piece.piece-index items c.loop-piece-test.false)
    ∙ ap (λ zs. filter_map part (take (end - first) (drop first zs))) c.as_slice.ensures
    ∙ sym (within_meeting c.args.from c.args.to c.args.pieces.now first end c.requires.apart c.requires.order
    c.meeting-first.ensures)

pub returns-clause-value : goal.returns-clause-value
returns-clause-value c = all c

pub returns-clause-apart : goal.returns-clause-apart
returns-clause-apart c =
    subst AreApart (sym (all c)) (apart-within c.args.from c.args.to c.args.pieces.now c.requires.apart)
