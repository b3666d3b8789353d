use Rattle.std.proofs.Common.{◌≡◌, ◌<◌, ◌^◌, ◌++◌, ℕ, List, length, All}
use Rattle.std.specs.List.{flat_map}
use Rattle.qg_grammar.specs.ScriptText.{then_group}
use Rattle.qg_script.specs.Reading.{AreGroupWords}
use Rattle.qg_script.proofs.groups.groups_of.Given as goal

abbrev pub invariant-words : goal.invariant-words
invariant-words l = record {
  read : l.text ≡ flat_map then_group l.groups ++ l.rest;
  fit : All (λ group. group < 2 ^ 64) l.groups;
  only : (groups : List ℕ) → AreGroupWords l.text groups → (more : List ℕ) × AreGroupWords l.rest more;
}

abbrev pub decreases-words : goal.decreases-words
decreases-words l = length l.rest
