use Rattle.std.proofs.Common.{ap}
use Rattle.std.specs.Option.{option_map}
use Rattle.qg_num.specs.declared.rule.Rule.TheVariants as rule
use Rattle.qg_image.specs.declared.failure.Failure.TheVariants.{Broken}
use Rattle.qg_extents.specs.BookRecords.{records_failure}
use Rattle.qg_check.proofs.Recorded.{in_order}
use Rattle.qg_check.proofs.references.read_book.Goals as goal

pub read-requires : goal.read-requires
read-requires c = in_order c.args.parts.now c.requires

pub returns-in-Ok-clause-failure : goal.returns-in-Ok-clause-failure
returns-in-Ok-clause-failure c = ap (option_map (Broken rule.Refs)) c.in-Ok.ensures.sound

pub returns-in-Err-clause-failure : goal.returns-in-Err-clause-failure
returns-in-Err-clause-failure c = c.opening_fault.ensures.told (records_failure c.args.parts.now) c.in-Err.ensures.fault
