use Rattle.std.proofs.Common.{◌≢◌, take, All}
use Rattle.qg_script.proofs.numbers.first_word.Given as goal

abbrev pub invariant-loop-place : goal.invariant-loop-place
invariant-loop-place l = All (λ byte. byte ≢ 32) (take l.place l.bytes)
