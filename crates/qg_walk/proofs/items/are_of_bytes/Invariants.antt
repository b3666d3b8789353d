use Rattle.std.proofs.Common.{take}
use Rattle.std.specs.Prelude.{All}
use Rattle.qg_num.specs.Fields.{IsBytes}
use Rattle.qg_walk.proofs.items.are_of_bytes.Given as goal

abbrev pub invariant-loop-item : goal.invariant-loop-item
invariant-loop-item l = All (λ item. IsBytes item.body) (take l.item-index l.items)
