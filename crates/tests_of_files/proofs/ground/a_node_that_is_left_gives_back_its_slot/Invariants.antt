use Rattle.tests_of_files.proofs.ground.a_node_that_is_left_gives_back_its_slot.Given as goal

abbrev pub ghosts-make_and_leave : goal.ghosts-make_and_leave
ghosts-make_and_leave g a = record { name = a.blank.name; parts = a.blank.parts }
