use Rattle.tests_of_structures.proofs.extents.the_last_reference_takes_the_mark.Given as goal

abbrev pub ghosts-through_the_trait : goal.ghosts-through_the_trait
ghosts-through_the_trait g a = record { name = a.blank.name; parts = a.blank.parts }
