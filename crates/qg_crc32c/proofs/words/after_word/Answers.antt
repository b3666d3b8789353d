use Rattle.std.proofs.Common.{◌≡◌, ◌<◌, arith, length, rules, ℕ, get_or, sym, ◌∙◌}
use Rattle.std.specs.Prelude.{bit_xor}
use Rattle.std.proofs.lemmas.Nat.{xor_lt}
use Rattle.qg_crc32c.proofs.WordLaws.{no_byte, one_more_byte, all_bytes, remainder-word}
use Rattle.qg_crc32c.proofs.words.after_word.Goals as goal

pub loop-place-init : goal.loop-place-init
loop-place-init c = no_byte (bit_xor c.args.register c.from_le_bytes.result)
    (xor_lt 64 c.args.register c.from_le_bytes.result (omega arith) (omega arith))

pub loop-place-preserved : goal.loop-place-preserved
loop-place-preserved c = one_more_byte (bit_xor c.args.register c.from_le_bytes.result) c.loop-place.place _ _
    c.loop-place-test.true c.loop-place.invariant

pub returns : goal.returns
returns c =
    let long : length c.args.word ≡ 8 = search rules in
    let fits : (k : ℕ) → get_or c.args.word k 0 < 256 = search rules in
    all_bytes (bit_xor c.args.register c.from_le_bytes.result) c.loop-place.place c.loop-place.result
    (omega arith) c.loop-place.invariant
    ∙ sym (remainder-word c.args.register c.from_le_bytes.result c.args.word long fits c.from_le_bytes.ensures)
