-- Why an image is not sound (this project's own).
use Rattle.std.specs.Prelude.{ℕ, Bool, List, Option, Some, None, if◌then◌else◌}
use Rattle.qg_num.specs.declared.rule.Rule.{Rule}
use Rattle.qg_image.specs.ItemMeaning.{first_some}
use Rattle.qg_image.specs.declared.failure.Failure.{Failure}
use Rattle.qg_image.specs.declared.failure.Failure.TheVariants.{Broken}

-- nothing where the test passes, else that this rule is broken at this address
abbrev pub unless : Bool → Rule → ℕ → Option Failure
unless test broken address = if test then None else Some (Broken broken address)

-- the first failure of several, in their order
abbrev pub first_failure : List (Option Failure) → Option Failure
first_failure failures = first_some failures
