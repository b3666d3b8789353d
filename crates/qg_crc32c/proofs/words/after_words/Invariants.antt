use Rattle.std.proofs.Common.{◌≡◌, ◌++◌, drop}
use Rattle.std.specs.List.{concat}
use Rattle.qg_crc32c.specs.Crc32c.{remainder}
use Rattle.qg_crc32c.proofs.words.after_words.Given as goal

abbrev pub invariant-loop-word : goal.invariant-loop-word
invariant-loop-word l = remainder l.register (concat (drop l.word-index l.words) ++ l.end)
    ≡ remainder l.fn.register l.bytes

abbrev pub invariant-loop-byte : goal.invariant-loop-byte
invariant-loop-byte l = remainder l.register (drop l.byte-index l.end) ≡ remainder l.fn.register l.bytes
