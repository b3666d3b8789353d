use Rattle.tests_of_structures.proofs.tree_refs.a_node_of_one_subvolume_is_taken_over.Given as goal

abbrev pub ghosts-take_over : goal.ghosts-take_over
ghosts-take_over g a = record { name = a.blank.name; parts = a.blank.parts }
