use Rattle.std.proofs.Common.{ap}
use Rattle.std.specs.Prelude.{is_some}
use Rattle.qg_blocks.proofs.Backing.{IsBacked-set}
use Rattle.tests_of_structures.proofs.blocks.set.Goals as goal

pub returns : goal.returns
returns g c history = IsBacked-set c.args.blocks.now history c.header-address.result.address c.args.node
    (ap is_some c.get_mut.ensures.value)
