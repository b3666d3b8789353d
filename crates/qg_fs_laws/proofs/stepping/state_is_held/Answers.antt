use Rattle.qg_fs_laws.proofs.Runs.{state-held}
use Rattle.qg_fs_laws.proofs.stepping.state_is_held.Goals as goal

pub returns : goal.returns
returns c = record { held = state-held }
