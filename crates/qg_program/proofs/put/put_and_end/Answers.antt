use Rattle.std.proofs.Common.{inl, inr, refl}
use Rattle.qg_program.proofs.put.put_and_end.Goals as goal

pub returns-in-Ok-clause-put : goal.returns-in-Ok-clause-put
returns-in-Ok-clause-put g c = inl (refl, c.in-Ok.ensures.ok)

pub returns-in-Err-clause-put : goal.returns-in-Err-clause-put
returns-in-Err-clause-put g c = inr c.in-Err.ensures.err
