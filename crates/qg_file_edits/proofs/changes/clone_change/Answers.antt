use Rattle.std.proofs.Common.{◌+◌, ◌-◌, ◌^◌, ◌<◌, ◌≤◌, List, map, sym, ap, subst, ◌∙◌}
use Rattle.std.specs.List.{All}
use Rattle.qg_num.specs.declared.piece.Piece.{Piece}
use Rattle.qg_image.specs.FilesOf.{piece_end}
use Rattle.qg_machine.specs.FileChange.{moved, within}
use Rattle.qg_files.specs.Apart.{AreApartFrom}
use Rattle.qg_file_edits.proofs.Given.{cloned-so}
use Rattle.qg_file_edits.proofs.Taken.{given-apart, given-ends, taken-begins, taken-near}
use Rattle.qg_file_edits.proofs.changes.clone_change.Goals as goal

pub moved_pieces-requires-clause-begins : goal.moved_pieces-requires-clause-begins
moved_pieces-requires-clause-begins c =
    subst (λ (xs : List Piece). All (λ piece. c.args.from ≤ piece.position) xs) (sym c.in_ok-taken.ensures.value)
    (taken-begins c.args.from c.args.len c.args.off c.args.source.now c.requires.source_apart c.requires.near)

pub moved_pieces-requires-clause-near : goal.moved_pieces-requires-clause-near
moved_pieces-requires-clause-near c =
    subst (λ (xs : List Piece). All (λ piece. piece.position - c.args.from + c.args.off < 2 ^ 64) xs)
    (sym c.in_ok-taken.ensures.value)
    (taken-near c.args.from c.args.len c.args.off c.args.source.now c.requires.source_apart c.requires.near)

pub with_range-requires-clause-given : goal.with_range-requires-clause-given
with_range-requires-clause-given c =
    let same = c.as_slice.ensures ∙ c.in_ok-given.ensures
    ∙ ap (λ (xs : List Piece). map (moved c.args.from c.args.off) xs) c.in_ok-taken.ensures.value in
    subst (λ (xs : List Piece). AreApartFrom c.args.off xs) (sym same)
    (given-apart c.args.from c.args.len c.args.off c.args.source.now c.requires.source_apart c.requires.near)

pub with_range-requires-clause-ends : goal.with_range-requires-clause-ends
with_range-requires-clause-ends c =
    let same = c.as_slice.ensures ∙ c.in_ok-given.ensures
    ∙ ap (λ (xs : List Piece). map (moved c.args.from c.args.off) xs) c.in_ok-taken.ensures.value in
    let end = c.args.off + c.args.len in
    subst (λ (xs : List Piece). All (λ piece. piece_end piece ≤ end) xs) (sym same)
    (given-ends c.args.from c.args.len c.args.off c.args.source.now c.requires.source_apart c.requires.near)

pub range_change-requires-clause-given : goal.range_change-requires-clause-given
range_change-requires-clause-given c =
    let same = c.as_slice-2.ensures ∙ c.in_ok-given.ensures
    ∙ ap (λ (xs : List Piece). map (moved c.args.from c.args.off) xs) c.in_ok-taken.ensures.value in
    subst (λ (xs : List Piece). AreApartFrom c.args.off xs) (sym same)
    (given-apart c.args.from c.args.len c.args.off c.args.source.now c.requires.source_apart c.requires.near)

pub range_change-requires-clause-ends : goal.range_change-requires-clause-ends
range_change-requires-clause-ends c =
    let same = c.as_slice-2.ensures ∙ c.in_ok-given.ensures
    ∙ ap (λ (xs : List Piece). map (moved c.args.from c.args.off) xs) c.in_ok-taken.ensures.value in
    let end = c.args.off + c.args.len in
    subst (λ (xs : List Piece). All (λ piece. piece_end piece ≤ end) xs) (sym same)
    (given-ends c.args.from c.args.len c.args.off c.args.source.now c.requires.source_apart c.requires.near)

pub returns : goal.returns
returns c =
    let given = map (moved c.args.from c.args.off) (within c.args.from (c.args.from + c.args.len) c.args.source.now) in
    let moved_so = c.in_ok-given.ensures
    ∙ ap (λ (xs : List Piece). map (moved c.args.from c.args.off) xs) c.in_ok-taken.ensures.value in
    let first = c.as_slice.ensures ∙ moved_so in
    let second = c.as_slice-2.ensures ∙ moved_so in
    cloned-so c.args.generation c.args.off (c.args.off + c.args.len) given c.as_slice-2.result.now c.as_slice.result.now
    c.in_ok-named.named c.args.found c.range_change.result second first c.in_ok-named.ensures.put c.range_change.ensures
