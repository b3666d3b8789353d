use Rattle.std.proofs.Common.{◌∙◌}
use Rattle.qg_blocks.proofs.Telling.{told-written}
use Rattle.qg_blocks.proofs.blocks.Blocks.written.Goals as goal

pub returns-clause-told : goal.returns-clause-told
returns-clause-told g c events address is =
    told-written c.args.self.now.draft c.settle.new.self.draft (g.D.Disk.history c.args.disk.now) events address
    (c.settle.ensures.last c.loop-test.false)
    (c.settle.ensures.sizes ∙ c.loop.invariant.sizes) is c.requires.written
