use Rattle.std.proofs.Common.{ℕ, ◌<◌, get_or, arith}
use Rattle.std.specs.Simd.Lanes.{chunk}
use Rattle.qg_crc32c.specs.Rows.{row_of_register}
use Rattle.qg_crc32c.proofs.Lanes.{row-xor}
use Rattle.qg_crc32c.proofs.FirstRows.{row-chunk, row_of_register_is, remainder-row_of_register, remainder-first_rows}
use Rattle.qg_crc32c.proofs.rows.Rows.begin.Goals as goal

pub invariant_of-result : goal.invariant_of-result
invariant_of-result c =
    let front = c.args.front.now in
    let fits : (k : ℕ) → get_or front k 0 < 256 = λ k. omega (arith, c.type_inv.front k) in
    rw c.register_row.ensures (
      row-xor (row_of_register c.args.register) (chunk 0 32 front) (row_of_register_is c.args.register)
          (row-chunk 0 front fits (omega arith)),
      row-chunk 32 front fits (omega arith),
      row-chunk 64 front fits (omega arith),
      row-chunk 96 front fits (omega arith),
    )

pub returns : goal.returns
returns c =
    let register = c.args.register in
    let front = c.args.front.now in
    let fits : (k : ℕ) → get_or front k 0 < 256 = λ k. omega (arith, c.type_inv.front k) in
    rw c.register_row.ensures (remainder-first_rows register (row_of_register register) front
    (row_of_register_is register) (remainder-row_of_register register (omega arith)) fits c.requires)
