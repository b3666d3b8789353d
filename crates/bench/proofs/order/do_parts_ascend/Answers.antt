use Rattle.std.proofs.Common.{rules}
use Rattle.qg_image.specs.Owed.{part_address}
use Rattle.bench.proofs.Ascending.{not_falling_from}
use Rattle.bench.proofs.order.do_parts_ascend.Goals as goal

pub returns : goal.returns
returns c = not_falling_from part_address _ _ c.is_sorted_by.ensures.cases (λ a b f called. search rules)
