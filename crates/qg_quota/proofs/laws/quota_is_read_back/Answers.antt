use Rattle.qg_quota.proofs.ReadBack.{quota-back}
use Rattle.qg_quota.proofs.Taken.{quota-taken}
use Rattle.qg_quota.proofs.laws.quota_is_read_back.Goals as goal

pub returns-clause-told : goal.returns-clause-told
returns-clause-told c = quota-back

pub returns-clause-taken : goal.returns-clause-taken
returns-clause-taken c = quota-taken
