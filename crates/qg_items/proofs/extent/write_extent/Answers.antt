use Rattle.qg_num.proofs.Written.{nothing_written, Written-u64, Written-whole}
use Rattle.qg_items.specs.ItemText.{extent_text}
use Rattle.qg_items.proofs.extent.write_extent.Goals as goal

pub returns : goal.returns
unfolding extent_text
returns c =
    let extent = c.args.extent.now in
    let refs = Written-u64 extent.refs c.put_u64.new.bytes (nothing_written c.args.bytes.now) c.put_u64.ensures in
    let generation = Written-u64 extent.generation c.put_u64-2.new.bytes refs
    (rw c.value.ensures at c.put_u64-2.ensures) in
    let flags = Written-u64 extent.flags c.put_u64-3.new.bytes generation c.put_u64-3.ensures in
    Written-whole flags c.requires
