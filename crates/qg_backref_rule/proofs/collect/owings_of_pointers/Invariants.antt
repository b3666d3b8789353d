use Rattle.std.proofs.Common.{◌≡◌, ◌++◌, map, take}
use Rattle.qg_image.specs.Owed.{owed_to_child}
use Rattle.qg_backref_rule.specs.OwedLists.{owings_told}
use Rattle.qg_backref_rule.proofs.collect.owings_of_pointers.Given as goal

abbrev pub invariant-loop-pointer : goal.invariant-loop-pointer
invariant-loop-pointer l = owings_told l.owings.items ≡ owings_told l.initial.owings.items
    ++ map (λ pointer. owed_to_child l.header l.full pointer.child) (take l.pointer-index l.pointers)
