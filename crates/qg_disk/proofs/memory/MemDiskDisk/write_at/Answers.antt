use Rattle.qg_disk.proofs.Sizes.{write_no_longer}
use Rattle.qg_disk.proofs.memory.MemDiskDisk.write_at.Goals as goal

pub returns-clause-no_more : goal.returns-clause-no_more
returns-clause-no_more c =
    write_no_longer c.args.self.now c.make.new.self c.args.at c.args.bytes.now c.make.result
    (rw c.in_ok-bytes.ensures at c.make.ensures)
