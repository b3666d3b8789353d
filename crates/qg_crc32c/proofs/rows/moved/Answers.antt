use Rattle.std.proofs.Common.{ℕ, ◌<◌, ◌/◌, ◌%◌, map, get_or, rules}
use Rattle.std.specs.Prelude.{bit_xor}
use Rattle.std.proofs.lemmas.Simd.{zip2_of_maps}
use Rattle.qg_crc32c.proofs.Lanes.{row_of, row-map, row-xor, low_halves_in_range, high_halves_in_range, by_low_halves}
use Rattle.qg_crc32c.proofs.Lanes.{by_high_halves}
use Rattle.qg_crc32c.proofs.rows.moved.Goals as goal

pub swizzle-by_low : goal.swizzle-by_low
swizzle-by_low c = low_halves_in_range c.args.row c.fits-row

pub swizzle-by_high : goal.swizzle-by_high
swizzle-by_high c = high_halves_in_range c.args.row c.fits-row

pub returns-clause-bytes : goal.returns-clause-bytes
returns-clause-bytes c =
    let low = c.args.low in
    let high = c.args.high in
    zip2_of_maps bit_xor (λ x. get_or low (x % 16) 0) (λ x. get_or high (x / 16) 0) c.args.row
    (by_low_halves low c.args.row c.fits-row c.requires.low_twice)
    (by_high_halves high c.args.row c.fits-row c.requires.high_twice)

pub returns-clause-row : goal.returns-clause-row
returns-clause-row c =
    let low = c.args.low in
    let high = c.args.high in
    let low_fits : (k : ℕ) → get_or low k 0 < 256 = search rules in
    let high_fits : (k : ℕ) → get_or high k 0 < 256 = search rules in
    let is = row_of c.args.row c.fits-row in
    rw (
      by_low_halves low c.args.row c.fits-row c.requires.low_twice,
      by_high_halves high c.args.row c.fits-row
          c.requires.high_twice,
    )
    (row-xor (map (λ x. get_or low (x % 16) 0) c.args.row) (map (λ x. get_or high (x / 16) 0) c.args.row)
    (row-map (λ x. get_or low (x % 16) 0) c.args.row (λ x. low_fits (x % 16)) is)
    (row-map (λ x. get_or high (x / 16) 0) c.args.row (λ x. high_fits (x / 16)) is))
