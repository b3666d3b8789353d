use Rattle.tests_of_files.proofs.descent.the_last_one_is_found_over_three_levels.Given as goal

abbrev pub ghosts-last_of_three : goal.ghosts-last_of_three
ghosts-last_of_three g a = record { name = a.blank.name; parts = a.blank.parts }
