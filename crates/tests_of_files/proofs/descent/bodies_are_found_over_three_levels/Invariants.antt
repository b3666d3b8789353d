use Rattle.tests_of_files.proofs.descent.bodies_are_found_over_three_levels.Given as goal

abbrev pub ghosts-get_three : goal.ghosts-get_three
ghosts-get_three g a = record { name = a.blank.name; parts = a.blank.parts }
