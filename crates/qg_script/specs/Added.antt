-- What is added to a text (this project's own).
use Rattle.std.specs.Prelude.{◌≡◌, ℕ, List, ◌++◌, take, Result, OnOk, OnErr}
use Rattle.qg_num.specs.declared.fault.NoMemory.{NoMemory}

-- a front of the piece was added
pub record AddsFront (old new piece : List ℕ) : Type 0 where
  pub count : ℕ
  pub added : new ≡ old ++ take count piece

-- the piece was added, or a front of it where memory was refused
pub record Adds (result : Result (Unit {0}) NoMemory) (old new piece : List ℕ) : Type 0 where
  pub ok : OnOk result (new ≡ old ++ piece)
  pub no_memory : OnErr result (AddsFront old new piece)
