use Rattle.tests_of_trees.proofs.built.a_built_tree_is_read_and_edited.Given as goal

abbrev pub ghosts-build_and_edit : goal.ghosts-build_and_edit
ghosts-build_and_edit g a = record { name = a.blank.name; parts = a.blank.parts }
