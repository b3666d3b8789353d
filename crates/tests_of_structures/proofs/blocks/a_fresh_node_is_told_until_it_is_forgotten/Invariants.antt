use Rattle.tests_of_structures.proofs.blocks.a_fresh_node_is_told_until_it_is_forgotten.Given as goal

abbrev pub ghosts-edit_first : goal.ghosts-edit_first
ghosts-edit_first g a = record { name = a.blank.name; parts = a.blank.parts }
