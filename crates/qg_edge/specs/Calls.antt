-- The calls of a source or a sink in memory, and which of them are to fail (this project's own).
use Rattle.std.specs.Prelude.{ℕ, ◌+◌, ◌-◌, ◌^◌, min, List, [], Contains}

-- one more, where a count of 64 bits stands still at its last value
abbrev pub raised : ℕ → ℕ
raised count = min (count + 1) (2 ^ 64 - 1)

-- how many calls were made, how many of them failed, and the numbers of those that are to fail, where the first call is
-- 1
pub record Calls : Type 0 where
  pub made : ℕ
  pub faults : ℕ
  pub failing : List ℕ

-- no call was made, and none is to fail
abbrev pub no_calls : Calls
no_calls = record { made = 0; faults = 0; failing = [] }

-- the next call is one of those that are to fail
abbrev pub FailsNext : Calls → Type 0
FailsNext calls = Contains calls.failing (raised calls.made)

-- one call more
abbrev pub with_call : Calls → Calls
with_call calls = record calls { made = raised calls.made }

-- one fault more
abbrev pub with_fault : Calls → Calls
with_fault calls = record calls { faults = raised calls.faults }
