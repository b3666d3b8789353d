-- Why no image was made (this project's own).
use Rattle.qg_disk.specs.declared.fault.DiskFault.{DiskFault}
use Rattle.qg_disk.specs.declared.fault.DiskFault.TheVariants as disk
use Rattle.qg_commit.specs.declared.fault.MkfsFault.{MkfsFault}
use Rattle.qg_commit.specs.declared.fault.MkfsFault.TheVariants.{Disk, NoMemory}

-- no image was made, where the disk gave no answer
abbrev pub mkfs_fault : DiskFault → MkfsFault
mkfs_fault disk.Failed = Disk
mkfs_fault disk.NoMemory = NoMemory
