use Rattle.qg_num.proofs.KeyOrder.{key_cmp_total}
use Rattle.qg_num.proofs.laws.key_order.Goals as goal

pub returns-clause-total : goal.returns-clause-total
returns-clause-total c = key_cmp_total
