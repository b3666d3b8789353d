use Rattle.tests_of_trees.proofs.calls.each_call_succeeds.Given as goal

abbrev pub ghosts-call_each : goal.ghosts-call_each
ghosts-call_each g a = record { name = a.blank.name; parts = a.blank.parts }
