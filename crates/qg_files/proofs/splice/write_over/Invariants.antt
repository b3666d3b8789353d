use Rattle.std.proofs.Common.{◌≡◌, ◌-◌, ◌++◌, take, drop}
use Rattle.qg_files.proofs.splice.write_over.Given as goal

abbrev pub invariant-loop-index : goal.invariant-loop-index
invariant-loop-index l = l.pieces ≡ take l.first l.fn.pieces ++ take (l.index - l.first) l.items
    ++ drop l.index l.fn.pieces
