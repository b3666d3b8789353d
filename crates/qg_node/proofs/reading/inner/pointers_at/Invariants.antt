use Rattle.std.proofs.Common.{◌≡◌, ◌+◌, ◌-◌, ◌*◌, ◌++◌}
use Rattle.qg_node.specs.Reading.{pointers_at}
use Rattle.qg_node.proofs.reading.inner.pointers_at.Given as goal

-- what was read and what is left to read is the whole
abbrev pub invariant-loop-i : goal.invariant-loop-i
invariant-loop-i l = l.pointers ++ pointers_at (l.count - l.i) (101 + 33 * l.i) l.bytes
    ≡ pointers_at l.count 101 l.bytes
