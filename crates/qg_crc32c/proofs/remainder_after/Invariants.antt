use Rattle.std.proofs.Common.{◌≡◌, ◌++◌, drop}
use Rattle.std.specs.List.{concat}
use Rattle.qg_crc32c.specs.Crc32c.{remainder}
use Rattle.qg_crc32c.proofs.remainder_after.Given as goal

abbrev pub invariant-loop-row : goal.invariant-loop-row
invariant-loop-row l = remainder (remainder 0 l.rows) (concat (drop l.row-index l.whole) ++ l.end)
    ≡ remainder l.fn.register l.bytes
