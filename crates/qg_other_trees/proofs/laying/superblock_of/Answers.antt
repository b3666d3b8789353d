use Rattle.std.proofs.Common.{rules}
use Rattle.qg_other_trees.proofs.Enough.{is_super-laid}
use Rattle.qg_other_trees.proofs.laying.superblock_of.Goals as goal

pub returns-clause-fits : goal.returns-clause-fits
returns-clause-fits c =
    rw c.node_size.ensures.value
    (is_super-laid c.args.sizes c.args.next c.new.result c.requires.served c.requires.some c.requires.early
    (search rules))
