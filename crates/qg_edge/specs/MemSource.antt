-- A source in memory, as callers see it (this project's own).
use Rattle.std.specs.Prelude.{ℕ, List}
use Rattle.qg_edge.specs.Calls.{Calls}

-- the bytes that were not taken yet, and the calls of `take`
pub record SourceInMemory : Type 0 where
  pub bytes_left : List ℕ
  pub calls : Calls
