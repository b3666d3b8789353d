use Rattle.tests_of_structures.proofs.blocks.addresses_without_a_node.Given as goal

abbrev pub ghosts-answer_at : goal.ghosts-answer_at
ghosts-answer_at g a = record { name = a.blank.name; parts = a.blank.parts }
