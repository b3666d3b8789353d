use Rattle.tests_of_structures.proofs.blocks.a_changed_byte_is_found_or_not_read.Given as goal

abbrev pub ghosts-flipped_answers : goal.ghosts-flipped_answers
ghosts-flipped_answers g a = record { name = a.blank.name; parts = a.blank.parts }
