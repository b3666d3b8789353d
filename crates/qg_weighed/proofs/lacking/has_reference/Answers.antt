use Rattle.std.proofs.Common.{ap, sym, ◌∙◌, Option}
use Rattle.std.specs.Option.{option_copied}
use Rattle.qg_extents.specs.Types.{Kept}
use Rattle.qg_weighed.specs.Weight.{has_reference}
use Rattle.qg_weighed.proofs.Known.{nothing-there}
use Rattle.qg_weighed.proofs.lacking.has_reference.Goals as goal

pub returns-in-None : goal.returns-in-None
returns-in-None c =
    nothing-there c.args.reference.now
    ∙ sym (ap (λ (kept : Option Kept). has_reference kept c.args.reference.now) (ap option_copied c.in-None.is))
