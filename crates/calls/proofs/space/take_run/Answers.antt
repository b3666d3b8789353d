use Rattle.std.proofs.Common.{◌*◌, sym}
use Rattle.qg_super.specs.Places.{sector}
use Rattle.qg_space.proofs.Firsts.{is_free_run-first}
use Rattle.calls.proofs.space.take_run.Goals as goal

pub take_run-requires : goal.take_run-requires
take_run-requires c = is_free_run-first c.args.space.now (c.args.sectors * sector) c.in-Some.at (sym c.in-Some.ensures)
