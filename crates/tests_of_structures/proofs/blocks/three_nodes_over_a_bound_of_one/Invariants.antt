use Rattle.tests_of_structures.proofs.blocks.three_nodes_over_a_bound_of_one.Given as goal

abbrev pub ghosts-visit_three : goal.ghosts-visit_three
ghosts-visit_three g a = record { name = a.blank.name; parts = a.blank.parts }
