use Rattle.std.proofs.Common.{◌/◌, length, ap, sym, ◌∙◌}
use Rattle.qg_crc32c.specs.Crc32c.{remainder}
use Rattle.qg_crc32c.proofs.Chunks.{chunks-append-rest, remainder-next_chunk, remainder-no_chunk, remainder-next_byte}
use Rattle.qg_crc32c.proofs.Chunks.{remainder-no_byte}
use Rattle.qg_crc32c.proofs.words.after_words.Goals as goal

pub loop-word-init : goal.loop-word-init
loop-word-init c =
    let bytes = c.args.bytes.now in
    rw (c.as_chunks.ensures.front, c.as_chunks.ensures.back)
    (ap (remainder c.args.register) (chunks-append-rest 8 (length bytes / 8) bytes))

pub loop-word-preserved : goal.loop-word-preserved
loop-word-preserved c =
    rw c.after_word-register.ensures
    (sym (remainder-next_chunk c.loop-word.register c.loop-word.word-index c.as_chunks.result.0.now
    c.as_chunks.result.1.now _ c.loop-word-test.true) ∙ c.loop-word.invariant)

pub loop-byte-init : goal.loop-byte-init
loop-byte-init c = sym (remainder-no_chunk c.loop-word.register c.loop-word.word-index c.as_chunks.result.0.now
    c.as_chunks.result.1.now c.loop-word-test.false) ∙ c.loop-word.invariant

pub loop-byte-preserved : goal.loop-byte-preserved
loop-byte-preserved c =
    rw c.after_byte-register.ensures
    (sym (remainder-next_byte c.loop-byte.register c.loop-byte.byte-index c.as_chunks.result.1.now
    c.loop-byte-test.true) ∙ c.loop-byte.invariant)

pub returns : goal.returns
returns c = sym (remainder-no_byte c.loop-byte.register c.loop-byte.byte-index c.as_chunks.result.1.now
    c.loop-byte-test.false) ∙ c.loop-byte.invariant
