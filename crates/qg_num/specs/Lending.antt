-- What a list becomes whose item is lent to be written to (this project's own).
use Rattle.std.specs.Prelude.{ℕ, List, slice_set}
use Rattle.std.specs.Borrow.{Lends, MutBor, Fml, RattleType}
use Rattle.qg_num.specs.contracts.sequence.Sequence.{the_row}

-- the list ends with the item at an index set to the last value behind the reference
abbrev pub LendsItem : (T : RattleType) → MutBor (List T.Denot) → ℕ → MutBor T.Denot → Fml
LendsItem T list index item = Lends (the_row T) T list item (slice_set list.now index)
