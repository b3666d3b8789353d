use Rattle.std.proofs.Common.{rules}
use Rattle.qg_image.specs.declared.failure.Failure.TheVariants.{Broken, Differs}
use Rattle.qg_program.proofs.Replied.{failure-said}
use Rattle.qg_program.proofs.refuse.refuse.Goals as goal
use Rattle.qg_program.proofs.refuse.refuse.Goals.{in-Broken, in-Differs}

pub returns-in-Ok-clause-told : goal.returns-in-Ok-clause-told
returns-in-Ok-clause-told g c = elim c.match-fault.branch [
  | in-Broken w ↦ λ is. failure-said _ _ (Broken w.in-Broken.rule w.in-Broken.address) (search rules)
  | in-Differs w ↦ λ is. failure-said _ _
      (Differs w.in-Differs.group w.in-Differs.which w.in-Differs.stored w.in-Differs.counted) (search rules)
]
