use Rattle.std.proofs.Common.{ap, subst}
use Rattle.std.specs.Option.{option_map}
use Rattle.qg_num.specs.declared.rule.Rule.TheVariants as rule
use Rattle.qg_image.specs.declared.failure.Failure.TheVariants.{Broken}
use Rattle.qg_extents.specs.declared.fault.RefsFault.{RefsFault}
use Rattle.qg_extents.specs.BookRecords.{IsFault}
use Rattle.qg_check.proofs.references.opening_fault.Goals as goal

pub returns-in-Broken-clause-told : goal.returns-in-Broken-clause-told
returns-in-Broken-clause-told c =
    λ first is. ap (option_map (Broken rule.Refs))
    (subst (λ (fault : RefsFault). IsFault first fault) c.in-Broken.is is)
