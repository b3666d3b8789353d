use Rattle.qg_num.proofs.Written.{nothing_written, Written-u32, Written-whole}
use Rattle.qg_items.specs.ItemText.{shared_data_ref_text}
use Rattle.qg_items.proofs.extent.write_shared_data_ref.Goals as goal

pub returns : goal.returns
unfolding shared_data_ref_text
returns c =
    let reference = c.args.reference.now in
    let count = Written-u32 reference.count c.put_u32.new.bytes (nothing_written c.args.bytes.now) c.put_u32.ensures in
    Written-whole count c.requires
