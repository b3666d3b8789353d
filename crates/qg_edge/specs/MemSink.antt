-- A sink in memory, as callers see it (this project's own).
use Rattle.std.specs.Prelude.{ℕ, List}
use Rattle.qg_edge.specs.Calls.{Calls}

-- the bytes that were put, and the calls of `put`
pub record SinkInMemory : Type 0 where
  pub bytes_held : List ℕ
  pub calls : Calls
