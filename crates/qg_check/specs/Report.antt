-- What is told of an image that is judged whole (this project's own).
use Rattle.std.specs.Prelude.{◌≡◌, ℕ, List, Some, Result, Ok, Err}
use Rattle.qg_super.specs.declared.superblock.Super.{Super}
use Rattle.qg_image.specs.declared.failure.Failure.TheVariants as failure
use Rattle.qg_image.specs.ImageState.{super_of}
use Rattle.qg_image.specs.Verdict.{IsSound, verdict}
use Rattle.qg_walk.specs.declared.fault.OpenFault.{OpenFault}
use Rattle.qg_walk.specs.declared.fault.OpenFault.TheVariants as opening
use Rattle.qg_check.specs.declared.report.Report.{Report}
use Rattle.qg_check.specs.declared.report.Report.TheVariants.{Sound, Broken, Differs}
use Rattle.qg_check.specs.declared.report.CheckFault.{CheckFault}
use Rattle.qg_check.specs.declared.report.CheckFault.TheVariants.{Disk, NoMemory}

-- an image is sound, and this is the generation of the superblock that counts
pub record IsSoundAt (image : List ℕ) (generation : ℕ) : Type 0 where
  pub sound : IsSound image
  pub super : Super
  pub chosen : super_of image ≡ Some super
  pub at : super.generation ≡ generation

-- a report tells the verdict of an image
abbrev pub IsReportOn : List ℕ → Report → Type 0
IsReportOn image (Sound generation) = IsSoundAt image generation
IsReportOn image (Broken rule address) = verdict image ≡ Some (failure.Broken rule address)
IsReportOn image (Differs group which stored counted) =
    verdict image ≡ Some (failure.Differs group which stored counted)

-- what is told of an image that could not be opened
abbrev pub report_of : OpenFault → Result Report CheckFault
report_of (opening.Broken rule address) = Ok (Broken rule address)
report_of (opening.Differs group which stored counted) = Ok (Differs group which stored counted)
report_of opening.Disk = Err Disk
report_of opening.NoMemory = Err NoMemory
