use Rattle.qg_num.proofs.Written.{nothing_written, Written-u64, Written-whole, Written-zeros}
use Rattle.qg_items.specs.ItemText.{limit_text}
use Rattle.qg_items.proofs.quota.write_limit.Goals as goal

pub returns : goal.returns
unfolding limit_text
returns c =
    let limit = c.args.limit.now in
    let flags = Written-u64 limit.flags c.put_u64.new.bytes (nothing_written c.args.bytes.now) c.put_u64.ensures in
    let max_rfer = Written-u64 limit.max_rfer c.put_u64-2.new.bytes flags c.put_u64-2.ensures in
    let max_excl = Written-u64 limit.max_excl c.put_u64-3.new.bytes max_rfer c.put_u64-3.ensures in
    let rest = Written-zeros 16 c.put_zeros.new.bytes max_excl c.put_zeros.ensures in
    Written-whole rest c.requires
