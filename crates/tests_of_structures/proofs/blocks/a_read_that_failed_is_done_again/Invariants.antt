use Rattle.tests_of_structures.proofs.blocks.a_read_that_failed_is_done_again.Given as goal

abbrev pub ghosts-read_twice : goal.ghosts-read_twice
ghosts-read_twice g a = record { name = a.blank.name; parts = a.blank.parts }
