use Rattle.tests_of_structures.proofs.tree_refs.a_missing_reference_is_noted.Given as goal

abbrev pub ghosts-copy_of_another : goal.ghosts-copy_of_another
ghosts-copy_of_another g a = record { name = a.blank.name; parts = a.blank.parts }
