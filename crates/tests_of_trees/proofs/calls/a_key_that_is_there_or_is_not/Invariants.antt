use Rattle.tests_of_trees.proofs.calls.a_key_that_is_there_or_is_not.Given as goal

abbrev pub ghosts-ask_amiss : goal.ghosts-ask_amiss
ghosts-ask_amiss g a = record { name = a.blank.name; parts = a.blank.parts }
