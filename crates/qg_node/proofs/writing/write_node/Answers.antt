use Rattle.std.proofs.Common.{◌≡◌, ◌+◌, ◌++◌, ◌∙◌, ap, arith, length, refl, rules, take}
use Rattle.std.proofs.lemmas.List.{take-replicate}
use Rattle.qg_num.specs.Fields.{u32_bytes, zeros}
use Rattle.qg_crc32c.specs.Crc32c.{crc32c_of}
use Rattle.qg_node.specs.NodeText.{covered_text, node_text}
use Rattle.qg_node.proofs.Again.{text_again}
use Rattle.qg_node.proofs.writing.write_node.Goals as goal

is_text : goal.returns-clause-text
unfolding node_text
is_text c =
    let node = c.args.node.now in
    let bytes = c.args.bytes.now in
    let long : 32 + length c.split_at_mut-checksum.result.1.now ≡ length bytes =
    omega (arith, c.split_at_mut-checksum.ensures.back_len, c.fill.ensures.len) in
    let covered : c.write_covered.new.bytes ≡ covered_text (length bytes) node =
    rw (← long) c.write_covered.ensures.text in
    let filled : c.fill.new.self ≡ zeros (length bytes) = c.fill.ensures.after (search rules) in
    let front : c.split_at_mut-checksum.result.0.now ≡ zeros 32 = c.split_at_mut-checksum.ensures.front
    ∙ ap (take 32) filled ∙ take-replicate 32 (length bytes) 0 (omega arith) in
    let checksum : c.put_u32.new.bytes ≡ u32_bytes (crc32c_of (covered_text (length bytes) node)) ++ zeros 28 =
    rw (c.put_u32.ensures, front, c.crc32c.ensures, covered) refl in
    rw (checksum, covered) refl

pub returns-clause-text : goal.returns-clause-text
returns-clause-text c = is_text c

pub returns-clause-read : goal.returns-clause-read
returns-clause-read c = rw (is_text c)
    (text_again (length c.args.bytes.now) c.args.node.now (omega arith) c.write_covered.ensures.fits c.requires.node)
