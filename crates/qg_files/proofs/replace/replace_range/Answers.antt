use Rattle.std.proofs.Common.{ℕ, ◌≤◌, List, ◌++◌, take, drop, sym, ap, subst, ◌∙◌, arith}
use Rattle.std.specs.List.{All}
use Rattle.std.specs.Option.{option_to_list}
use Rattle.std.proofs.lemmas.Result.{on_ok_weaker}
use Rattle.std.proofs.lemmas.List.Elements.{recursion_from_All}
use Rattle.qg_num.specs.declared.piece.Piece.{Piece}
use Rattle.qg_image.specs.FilesOf.{piece_end}
use Rattle.qg_machine.specs.FileChange.{part_before, with_range}
use Rattle.qg_files.specs.Apart.{AreApart, AreApartFrom}
use Rattle.qg_files.specs.Meeting.{AreMeeting}
use Rattle.qg_files.proofs.Edits.{last_sizes, put_between, put_meeting}
use Rattle.qg_files.proofs.KeptApart.{apart-with_range}
use Rattle.qg_files.proofs.Outcome.{either_way}
use Rattle.qg_files.proofs.replace.replace_range.Goals as goal

-- the list that is asked for is apart
apart : (from to : ℕ) (given xs : List Piece) → AreApart xs → from ≤ to → AreApartFrom from given
    → All (λ piece. piece_end piece ≤ to) given → AreApart (with_range from to given xs)
apart from to given xs old order given_apart ends = apart-with_range from to given xs old order given_apart
    (recursion_from_All (λ piece. piece_end piece ≤ to) given ends)

pub returns-then-first-end-clause-ok : goal.returns-then-first-end-clause-ok
returns-then-first-end-clause-ok c =
    let xs = c.args.pieces.now in
    let first = c.meeting-first.result.0 in
    let meeting = subst (λ end. AreMeeting c.args.from c.args.to xs first end)
    (sym c.if-first-end.true) c.meeting-first.ensures in
    c.in_ok-insert_slice.ensures.ok
    ∙ sym (put_between c.args.from c.args.to c.args.given.now xs first c.requires.apart c.requires.order
    meeting.begin.front meeting.finish.back)

pub returns-then-first-end-clause-apart : goal.returns-then-first-end-clause-apart
returns-then-first-end-clause-apart c =
    subst AreApart (sym (returns-then-first-end-clause-ok c))
    (apart c.args.from c.args.to c.args.given.now c.args.pieces.now c.requires.apart c.requires.order
    c.requires.given c.requires.ends)

pub part_after-rest-requires : goal.part_after-rest-requires
part_after-rest-requires c =
    last_sizes c.args.from c.args.to c.args.pieces.now c.as_slice-items.result.now c.meeting-first.result.0
    c.meeting-first.result.1 c.index-items-end.result c.requires.apart c.meeting-first.ensures
    (omega (arith, c.meeting-first.ensures.order)) c.as_slice-items.ensures c.index-items-end.is

pub returns-clause-ok : goal.returns-clause-ok
returns-clause-ok c =
    let xs = c.args.pieces.now in
    let given = c.args.given.now in
    let first = c.meeting-first.result.0 in
    let end = c.meeting-first.result.1 in
    let x = c.index-items-first.result in
    let items =
    c.as_slice.ensures ∙ c.in_ok-put.ensures
    ∙ ap (λ front. option_to_list front ++ given ++ option_to_list c.part_after-rest.result) c.part_before-front.ensures
    ∙ ap (λ rest. option_to_list (part_before c.args.from x) ++ given ++ option_to_list rest)
    c.part_after-rest.ensures in
    let left = put_meeting c.args.from c.args.to given xs c.as_slice-items.result.now first end x
    c.index-items-end.result c.requires.apart c.meeting-first.ensures (omega (arith, c.meeting-first.ensures.order))
    c.as_slice-items.ensures c.index-items-first.is c.index-items-end.is in
    on_ok_weaker c.splice.result (λ is. is ∙ ap (λ zs. take first xs ++ zs ++ drop end xs) items
    ∙ sym left) c.splice.ensures.ok

pub returns-clause-apart : goal.returns-clause-apart
returns-clause-apart c =
    let xs = c.args.pieces.now in
    either_way AreApart c.splice.new.pieces _ xs c.splice.result (returns-clause-ok c) c.splice.ensures.err
    (apart c.args.from c.args.to c.args.given.now xs c.requires.apart c.requires.order c.requires.given c.requires.ends)
    c.requires.apart
