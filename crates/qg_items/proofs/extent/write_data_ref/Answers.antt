use Rattle.qg_num.proofs.Written.{nothing_written, Written-u32, Written-u64, Written-whole}
use Rattle.qg_items.specs.ItemText.{data_ref_text}
use Rattle.qg_items.proofs.extent.write_data_ref.Goals as goal

pub returns : goal.returns
unfolding data_ref_text
returns c =
    let reference = c.args.reference.now in
    let root = Written-u64 reference.root c.put_u64.new.bytes (nothing_written c.args.bytes.now)
    (rw c.value.ensures at c.put_u64.ensures) in
    let objectid = Written-u64 reference.objectid c.put_u64-2.new.bytes root
    (rw c.value-2.ensures at c.put_u64-2.ensures) in
    let offset = Written-u64 reference.offset c.put_u64-3.new.bytes objectid c.put_u64-3.ensures in
    let count = Written-u32 reference.count c.put_u32.new.bytes offset c.put_u32.ensures in
    Written-whole count c.requires
