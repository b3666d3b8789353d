use Rattle.tests_of_files.proofs.ground.a_node_is_copied_once.Given as goal

abbrev pub ghosts-own_twice : goal.ghosts-own_twice
ghosts-own_twice g a = record { name = a.blank.name; parts = a.blank.parts }
