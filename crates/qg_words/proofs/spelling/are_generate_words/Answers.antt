use Rattle.std.proofs.Common.{arith}
use Rattle.qg_words.proofs.FourWords.{both-hold, lines-spelled, three_texts}
use Rattle.qg_words.proofs.spelling.are_generate_words.Goals as goal

pub returns-in-len3 : goal.returns-in-len3
returns-in-len3 c =
    let are = three_texts {a = c.name-item.result} {b = c.first-item.result} {c = c.second-item.result}
    c.in-len3.len_at_least c.in-len3.len_below
    (record { stands = c.name-item.is; text_is = c.as_str.ensures.value })
    (record { stands = c.first-item.is; text_is = c.as_str-in-len3.ensures.value })
    (record { stands = c.second-item.is; text_is = c.as_str-in-len3-2.ensures.value }) in
    lines-spelled _ c.args.seed c.args.count are
    (omega (arith, c.ranges.seed.fits)) (omega (arith, c.ranges.count.fits))
    (both-hold (both-hold c.is_text.ensures c.is_text_of.ensures) c.is_text_of-in-len3.ensures)
