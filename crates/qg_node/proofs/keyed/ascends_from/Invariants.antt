use Rattle.std.proofs.Common.{◌≡◌, drop, map}
use Rattle.qg_node.specs.Nodes.{ascends_from}
use Rattle.qg_node.proofs.keyed.ascends_from.Given as goal

-- what is left to compare decides
abbrev pub invariant-loop-other : goal.invariant-loop-other
invariant-loop-other g l =
    ascends_from l.before (map g.T.Keyed.key_of (drop l.other-index l.others)) ≡ ascends_from l.fn.first
    (map g.T.Keyed.key_of l.others)
