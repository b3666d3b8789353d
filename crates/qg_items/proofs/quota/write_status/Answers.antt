use Rattle.qg_num.proofs.Written.{nothing_written, Written-u64, Written-whole}
use Rattle.qg_items.specs.ItemText.{status_text}
use Rattle.qg_items.proofs.quota.write_status.Goals as goal

pub returns : goal.returns
unfolding status_text
returns c =
    let status = c.args.status.now in
    let version = Written-u64 1 c.put_u64.new.bytes (nothing_written c.args.bytes.now) c.put_u64.ensures in
    let generation = Written-u64 status.generation c.put_u64-2.new.bytes version
    (rw c.value.ensures at c.put_u64-2.ensures) in
    let flags = Written-u64 status.flags c.put_u64-3.new.bytes generation c.put_u64-3.ensures in
    let cursor = Written-u64 status.cursor c.put_u64-4.new.bytes flags c.put_u64-4.ensures in
    Written-whole cursor c.requires
