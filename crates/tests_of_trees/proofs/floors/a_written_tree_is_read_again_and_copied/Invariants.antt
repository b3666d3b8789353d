use Rattle.tests_of_trees.proofs.floors.a_written_tree_is_read_again_and_copied.Given as goal

abbrev pub ghosts-edit_written : goal.ghosts-edit_written
ghosts-edit_written g a = record { name = a.blank.name; parts = a.blank.parts }
