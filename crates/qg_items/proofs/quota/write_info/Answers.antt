use Rattle.qg_num.proofs.Written.{nothing_written, Written-u64, Written-whole}
use Rattle.qg_items.specs.ItemText.{info_text}
use Rattle.qg_items.proofs.quota.write_info.Goals as goal

pub returns : goal.returns
unfolding info_text
returns c =
    let info = c.args.info.now in
    let generation = Written-u64 info.generation c.put_u64.new.bytes (nothing_written c.args.bytes.now)
    (rw c.value.ensures at c.put_u64.ensures) in
    let rfer = Written-u64 info.rfer c.put_u64-2.new.bytes generation c.put_u64-2.ensures in
    let rfer_cmpr = Written-u64 info.rfer_cmpr c.put_u64-3.new.bytes rfer c.put_u64-3.ensures in
    let excl = Written-u64 info.excl c.put_u64-4.new.bytes rfer_cmpr c.put_u64-4.ensures in
    let excl_cmpr = Written-u64 info.excl_cmpr c.put_u64-5.new.bytes excl c.put_u64-5.ensures in
    Written-whole excl_cmpr c.requires
