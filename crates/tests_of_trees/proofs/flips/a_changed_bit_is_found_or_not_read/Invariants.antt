use Rattle.tests_of_trees.proofs.flips.a_changed_bit_is_found_or_not_read.Given as goal

abbrev pub ghosts-flip_each : goal.ghosts-flip_each
ghosts-flip_each g a = record { name = a.blank.name; parts = a.blank.parts }
