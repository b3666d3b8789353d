use Rattle.qg_device.specs.History.{content}
use Rattle.qg_image.specs.declared.tree.TreeKind.TheVariants.{Files}
use Rattle.qg_image.specs.Walk.{tree_failure}
use Rattle.qg_shared_walk.proofs.AllTrees.{known_tells}
use Rattle.qg_shared_walk.proofs.tree.first_fault.Goals as goal

pub returns-in-Ok-clause-first : goal.returns-in-Ok-clause-first
returns-in-Ok-clause-first g c events told denies =
    known_tells c.args.known (tree_failure Files c.args.superblock.now (content events) c.args.expected.now c.args.root)
    denies (c.in-Ok.ensures.failure events told)
