use Rattle.std.proofs.Common.{◌≡◌, take}
use Rattle.qg_qgroups.proofs.building.relate.Given as goal

-- the relations so far are made
abbrev pub invariant-loop-member : goal.invariant-loop-member
invariant-loop-member l = l.hierarchy ≡ record l.initial.hierarchy { pairs = take l.member-index l.pairs }
