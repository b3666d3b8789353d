-- A run of whole sectors, and what holds it (this project's own). Addresses and lengths are in bytes.
use Rattle.std.specs.Prelude.{◌≡◌, ◌-◌, ◌/◌, ◌%◌, ◌^◌, ◌<◌, ◌≤◌, Bool}
use Rattle.qg_super.specs.Places.{data_begin, sector}
use Rattle.qg_image.specs.declared.element.Element.{Element}

-- where a run lies, and whether the present state and the last commit hold it
pub record Run : Type 0 where
  pub extent : Element
  pub present : Bool
  pub held : Bool

-- an extent is of whole sectors of the data area, whose numbers have 32 bits
pub record FitsRun (extent : Element) : Type 0 where
  pub begin : data_begin ≤ extent.address
  pub aligned : (extent.address - data_begin) % sector ≡ 0
  pub whole : extent.bytes % sector ≡ 0
  pub first : (extent.address - data_begin) / sector < 2 ^ 32
  pub sectors : extent.bytes / sector < 2 ^ 32
