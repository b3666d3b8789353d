-- How one fault becomes another (this project's own).
use Rattle.qg_num.specs.declared.fault.BlockFault.{BlockFault}
use Rattle.qg_num.specs.declared.fault.BlockFault.TheVariants as block
use Rattle.qg_num.specs.declared.fault.Stop.{Stop}
use Rattle.qg_num.specs.declared.fault.Stop.TheVariants as stop

-- why a store stops where a call on nodes could not be done: the same cause, with the same rule and address
abbrev pub stop_of : BlockFault → Stop
stop_of block.NoMemory = stop.NoMemory
stop_of block.Disk = stop.Disk
stop_of (block.Image rule address) = stop.Image rule address
