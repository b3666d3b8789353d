use Rattle.std.proofs.Common.{◌++◌, List, ℕ, rules, ap, ◌∙◌}
use Rattle.qg_crc32c.specs.Crc32c.{remainder}
use Rattle.qg_crc32c.specs.Rows.{IsRow}
use Rattle.qg_crc32c.proofs.Lanes.{row-xor}
use Rattle.qg_crc32c.proofs.Spread.{remainder-five_rows}
use Rattle.qg_crc32c.proofs.HalfTables.{tables_move}
use Rattle.qg_crc32c.proofs.rows.Rows.with_row.Goals as goal

pub invariant_of-result : goal.invariant_of-result
invariant_of-result c =
    let rows = c.self.inside in
    let are = c.self.invariant in
    let next : IsRow c.args.row.now = record { len = search rules; bytes = search rules } in (
      row-xor rows.second c.moved.result are.1 c.moved.ensures.row,
      row-xor rows.third c.moved-2.result are.2 c.moved-2.ensures.row,
      row-xor rows.fourth c.moved-3.result are.3 c.moved-3.ensures.row,
      row-xor c.args.row.now c.moved-4.result next c.moved-4.ensures.row,
    )

pub returns : goal.returns
returns c =
    let rows = c.self.inside in
    let are = c.self.invariant in
    let next : IsRow c.args.row.now = record { len = search rules; bytes = search rules } in
    rw (c.moved.ensures.bytes, c.moved-2.ensures.bytes, c.moved-3.ensures.bytes, c.moved-4.ensures.bytes)
    (remainder-five_rows _ _ _ _ tables_move rows.first rows.second rows.third rows.fourth c.args.row.now are.0 are.1
    are.2 are.3 next ∙ ap (λ (l : List ℕ). remainder 0 (l ++ c.args.row.now)) c.self.view_is)
