use Rattle.tests_of_files.proofs.descent.a_range_is_read_over_three_levels.Given as goal

abbrev pub ghosts-range_of_three : goal.ghosts-range_of_three
ghosts-range_of_three g a = record { name = a.blank.name; parts = a.blank.parts }
