use Rattle.qg_num.proofs.Written.{nothing_written, Written-u64, Written-whole, Written-zeros}
use Rattle.qg_items.specs.ItemText.{inode_text}
use Rattle.qg_items.proofs.file.write_inode.Goals as goal

pub returns : goal.returns
unfolding inode_text
returns c =
    let inode = c.args.inode.now in
    let generation = Written-u64 inode.generation c.put_u64.new.bytes (nothing_written c.args.bytes.now)
    (rw c.value.ensures at c.put_u64.ensures) in
    let transid = Written-u64 inode.transid c.put_u64-2.new.bytes generation
    (rw c.value-2.ensures at c.put_u64-2.ensures) in
    let size = Written-u64 inode.size c.put_u64-3.new.bytes transid c.put_u64-3.ensures in
    let nbytes = Written-u64 inode.nbytes c.put_u64-4.new.bytes size c.put_u64-4.ensures in
    let rest = Written-zeros 128 c.put_zeros.new.bytes nbytes c.put_zeros.ensures in
    Written-whole rest c.requires
