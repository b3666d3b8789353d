use Rattle.tests_of_trees.proofs.many.many_edits_are_those_of_a_list.Given as goal

abbrev pub ghosts-edit_many : goal.ghosts-edit_many
ghosts-edit_many g a = record { name = a.blank.name; parts = a.blank.parts }
