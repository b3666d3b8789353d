use Rattle.tests_of_files.proofs.inodes.files_are_read_from_a_tree.Given as goal

abbrev pub ghosts-read_all : goal.ghosts-read_all
ghosts-read_all g a = record { name = a.blank.name; parts = a.blank.parts }
