use Rattle.std.proofs.Common.{ℕ, ◌+◌, ◌++◌, ◌/◌, [], get_or, take, drop, length, ap, sym, ◌∙◌}
use Rattle.std.proofs.lemmas.List.{take-append-drop}
use Rattle.qg_crc32c.specs.Crc32c.{remainder}
use Rattle.std.specs.List.{concat}
use Rattle.qg_crc32c.proofs.Remainders.{remainder-append}
use Rattle.qg_crc32c.proofs.Chunks.{chunks-append-rest, remainder-next_chunk, remainder-no_chunk}
use Rattle.qg_crc32c.proofs.remainder_after.Goals as goal

pub loop-row-init : goal.loop-row-init
loop-row-init c =
    let bytes = c.args.bytes.now in
    let rest = drop 128 bytes in
    rw (
      c.begin-rows.ensures,
      c.as_chunks.ensures.front,
      c.as_chunks.ensures.back,
      c.split_at.ensures.back,
      c.split_at.ensures.front,
    ) (
    ap (remainder (remainder c.args.register (take 128 bytes))) (chunks-append-rest 32 (length rest / 32) rest)
    ∙ sym (remainder-append c.args.register (take 128 bytes) rest)
    ∙ ap (remainder c.args.register) (take-append-drop 128 bytes))

pub loop-row-preserved : goal.loop-row-preserved
loop-row-preserved c =
    rw c.with_row-rows.ensures (
    ap (λ (r : ℕ). remainder r (concat (drop (c.loop-row.row-index + 1) c.as_chunks.result.0.now)
    ++ c.as_chunks.result.1.now))
    (remainder-append 0 c.loop-row.rows (get_or c.as_chunks.result.0.now c.loop-row.row-index []))
    ∙ sym (remainder-next_chunk (remainder 0 c.loop-row.rows) c.loop-row.row-index c.as_chunks.result.0.now
    c.as_chunks.result.1.now [] c.loop-row-test.true) ∙ c.loop-row.invariant)

pub returns : goal.returns
returns c =
    rw (c.after_words-2.ensures, c.register.ensures)
    (sym (remainder-no_chunk (remainder 0 c.loop-row.rows) c.loop-row.row-index c.as_chunks.result.0.now
    c.as_chunks.result.1.now c.loop-row-test.false) ∙ c.loop-row.invariant)
