use Rattle.std.proofs.Common.{◌≡◌, List, ℕ, ◌<◌, ◌^◌, ◌++◌, length, take, drop, All}
use Rattle.std.specs.List.{flat_map}
use Rattle.qg_grammar.specs.ScriptText.{then_number}
use Rattle.qg_script.specs.Reading.{AreNumbers}
use Rattle.qg_script.proofs.numbers.numbers.Given as goal

abbrev pub invariant-loop-place : goal.invariant-loop-place
invariant-loop-place g l = record {
  as_many : length l.numbers ≡ l.place-end;
  read : l.text ≡ flat_map then_number (take l.place l.numbers) ++ l.rest;
  fit : All (λ number. number < 2 ^ 64) (take l.place l.numbers);
  only : (numbers : List ℕ) → AreNumbers l.place-end l.text numbers
      → l.rest ≡ flat_map then_number (drop l.place numbers);
}
