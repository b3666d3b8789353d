use Rattle.std.proofs.Common.{◌≡◌, ◌++◌, take}
use Rattle.std.specs.List.{flat_map}
use Rattle.qg_grammar.specs.ScriptText.{then_number}
use Rattle.qg_script.proofs.reply.write_owners.Given as goal

abbrev pub invariant-loop-owner : goal.invariant-loop-owner
invariant-loop-owner l = l.text ≡ l.initial.text ++ flat_map then_number (take l.owner-index l.owners)
