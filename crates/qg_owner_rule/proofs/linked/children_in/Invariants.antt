use Rattle.std.proofs.Common.{◌≡◌, map, take}
use Rattle.qg_owner_rule.proofs.linked.children_in.Given as goal

abbrev pub invariant-loop-pointer : goal.invariant-loop-pointer
invariant-loop-pointer l = l.children ≡ map (λ pointer. pointer.child) (take l.pointer-index l.pointers)
