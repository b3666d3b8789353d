-- What a sound image says of its groups' counters (this project's own).
use Rattle.std.specs.Prelude.{ℕ, List}
use Rattle.qg_image.specs.Counts.{StoresCounts}
use Rattle.qg_image.specs.State.{State}
use Rattle.qg_image.specs.StateOf.{StateOf}

-- each group of a state that an image stands for stores the counters that are due
abbrev pub StandsCounted : Type 0
StandsCounted = (state : State) (image : List ℕ) → StateOf image state → StoresCounts state
