use Rattle.std.proofs.Common.{arith}
use Rattle.qg_words.proofs.FourWords.{both-hold, four_texts, image-spelled}
use Rattle.qg_words.proofs.spelling.are_mkfs_words.Goals as goal

pub returns-in-len4 : goal.returns-in-len4
returns-in-len4 c =
    let are = four_texts {a = c.name-item.result} {b = c.first-item.result} {c = c.second-item.result}
    {d = c.third-item.result}
    c.in-len4.len_at_least c.in-len4.len_below
    (record { stands = c.name-item.is; text_is = c.as_str.ensures.value })
    (record { stands = c.first-item.is; text_is = c.as_str-in-len4.ensures.value })
    (record { stands = c.second-item.is; text_is = c.as_str-in-len4-2.ensures.value })
    (record { stands = c.third-item.is; text_is = c.as_str-in-len4-3.ensures.value }) in
    image-spelled _ (record { nodesize = c.args.nodesize; slots = c.args.slots; sectors = c.args.sectors }) are
    (record {
      nodesize = omega (arith, c.ranges.nodesize.fits);
      slots = omega (arith, c.ranges.slots.fits);
      sectors = omega (arith, c.ranges.sectors.fits);
    })
    (both-hold (both-hold (both-hold c.is_text.ensures c.is_text_of.ensures) c.is_text_of-in-len4.ensures)
    c.is_text_of-in-len4-2.ensures)
