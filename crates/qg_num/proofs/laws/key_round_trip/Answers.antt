use Rattle.qg_num.proofs.KeyBytes.{key_at-key_bytes, key_bytes_cancel}
use Rattle.qg_num.proofs.laws.key_round_trip.Goals as goal

pub returns-clause-same : goal.returns-clause-same
returns-clause-same c = key_bytes_cancel

pub returns-clause-again : goal.returns-clause-again
returns-clause-again c = key_at-key_bytes
