use Rattle.std.proofs.Common.{rules}
use Rattle.bench.proofs.Ascending.{rising_from}
use Rattle.bench.proofs.order.do_roots_ascend.Goals as goal

pub returns : goal.returns
returns c = rising_from (λ root. root.0) _ _ c.is_sorted_by.ensures.cases (λ a b f called. search rules)
