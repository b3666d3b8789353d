use Rattle.tests_of_files.proofs.snap.a_subvolume_and_its_snapshot_begin.Given as goal

abbrev pub ghosts-begin_both : goal.ghosts-begin_both
ghosts-begin_both g a = record { name = a.blank.name; parts = a.blank.parts }
