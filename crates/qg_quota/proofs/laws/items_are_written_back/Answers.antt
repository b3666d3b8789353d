use Rattle.qg_quota.proofs.WrittenBack.{items-written}
use Rattle.qg_quota.proofs.laws.items_are_written_back.Goals as goal

pub returns : goal.returns
returns c = items-written
