-- How the two rules are judged (this project's own).
use Rattle.std.specs.Prelude.{List, Option, Some, None}
use Rattle.qg_image.specs.declared.failure.Failure.{Failure}
use Rattle.qg_qgroup_counts.specs.declared.surveyed.Surveyed.{Surveyed}
use Rattle.qg_shared_walk.specs.declared.judging.ReferenceVerdict.{ReferenceVerdict}
use Rattle.qg_shared_walk.specs.declared.judging.ReferenceVerdict.TheVariants.{Breaks, Keeps}

-- the failure that is told, if one is
abbrev pub failure_in : ReferenceVerdict → Option Failure
failure_in (Breaks failure) = Some failure
failure_in (Keeps nodes) = None

-- what holds of the nodes, where no rule is broken
abbrev pub IfKept : ReferenceVerdict → (List Surveyed → Type 0) → Type 0
IfKept (Breaks failure) P = Unit {0}
IfKept (Keeps nodes) P = P nodes.items
