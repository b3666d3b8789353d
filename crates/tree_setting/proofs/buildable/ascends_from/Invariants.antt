use Rattle.std.proofs.Common.{◌≡◌, drop, map}
use Rattle.qg_node.specs.Nodes.{ascends_from}
use Rattle.tree_setting.proofs.buildable.ascends_from.Given as goal

-- what is left to compare decides
abbrev pub invariant-loop-other : goal.invariant-loop-other
invariant-loop-other l =
    ascends_from l.before (map (λ item. item.key) (drop l.other-index l.others))
    ≡ ascends_from l.fn.first (map (λ item. item.key) l.others)
