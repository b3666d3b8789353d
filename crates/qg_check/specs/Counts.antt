-- Counts of references (this project's own).
use Rattle.std.specs.Prelude.{◌<◌, ◌^◌, ⊤}
use Rattle.qg_image.specs.declared.part.ExtentPart.{ExtentPart}
use Rattle.qg_image.specs.declared.part.ExtentPart.TheVariants.{DataRecord, NodeRecord, Referenced}

-- a count that an item of the extent tree tells fits its field
abbrev pub CountFits : ExtentPart → Type 0
CountFits (DataRecord address bytes extent) = ⊤
CountFits (NodeRecord address level extent) = ⊤
CountFits (Referenced address reference count) = count < 2 ^ 32
