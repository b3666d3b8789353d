use Rattle.std.proofs.Common.{◌≡◌, ◌-◌, ◌*◌, ◌/◌, ◌^◌}
use Rattle.qg_crc32c.specs.Crc32c.{shifts}
use Rattle.qg_crc32c.proofs.words.after_word.Given as goal

abbrev pub invariant-loop-place : goal.invariant-loop-place
invariant-loop-place l = l.result ≡ shifts (8 * l.place) (l.word / 2 ^ (64 - 8 * l.place))
