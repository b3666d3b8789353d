use Rattle.qg_crashes.proofs.LastWrites.{IsRewriting-newest}
use Rattle.qg_crashes.proofs.crashes.last_write_to_a_place.Goals as goal

pub returns : goal.returns
returns c = IsRewriting-newest
