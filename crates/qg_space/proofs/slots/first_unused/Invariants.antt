use Rattle.std.proofs.Common.{◌≡◌, false}
use Rattle.std.specs.List.{AllWithin}
use Rattle.qg_space.specs.Lying.{is_unused}
use Rattle.qg_space.proofs.slots.first_unused.Given as goal

abbrev pub invariant-loop-number : goal.invariant-loop-number
invariant-loop-number l = AllWithin (λ slot. is_unused slot ≡ false) l.slots 0 l.number
