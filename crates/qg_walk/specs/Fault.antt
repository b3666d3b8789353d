-- How a call that opens an image, or a part of it, answers (this project's own).
use Rattle.std.specs.Prelude.{◌≡◌, Option, Some, None, IfSome, Result, Ok, Err}
use Rattle.qg_disk.specs.declared.fault.DiskFault.{DiskFault}
use Rattle.qg_disk.specs.declared.fault.DiskFault.TheVariants as disk
use Rattle.qg_image.specs.declared.failure.Failure.{Failure}
use Rattle.qg_image.specs.declared.failure.Failure.TheVariants as failure
use Rattle.qg_walk.specs.declared.fault.OpenFault.{OpenFault}
use Rattle.qg_walk.specs.declared.fault.OpenFault.TheVariants.{Broken, Differs, Disk, NoMemory}

-- the fault of a call whose disk answers a fault
abbrev pub fault_of_disk : DiskFault → OpenFault
fault_of_disk disk.Failed = Disk
fault_of_disk disk.NoMemory = NoMemory

-- the failure that a fault tells, where the image is not sound; none where the disk failed or memory was refused
abbrev pub failure_of : OpenFault → Option Failure
failure_of (Broken rule address) = Some (failure.Broken rule address)
failure_of (Differs group which stored counted) = Some (failure.Differs group which stored counted)
failure_of Disk = None
failure_of NoMemory = None

-- where a failure is told, it is this one
abbrev pub TellsFailure : OpenFault → Option Failure → Type 0
TellsFailure fault first = IfSome (failure_of fault) (λ told. first ≡ Some told)

-- there is no failure where the call succeeded, and the one that is told where one is told
abbrev pub FailsAs : {T : Type 0} → Result T OpenFault → Option Failure → Type 0
FailsAs (Ok _) first = first ≡ None
FailsAs (Err fault) first = TellsFailure fault first

-- what was found is found, or the failure that is told
abbrev pub FindsAs : {A : Type 0} → Result A OpenFault → Result A Failure → Type 0
FindsAs (Ok found) wanted = wanted ≡ Ok found
FindsAs (Err fault) wanted = IfSome (failure_of fault) (λ told. wanted ≡ Err told)
