use Rattle.tests_of_structures.proofs.tree_refs.a_shared_node_turns_full_and_goes.Given as goal

abbrev pub ghosts-share_and_leave : goal.ghosts-share_and_leave
ghosts-share_and_leave g a = record { name = a.blank.name; parts = a.blank.parts }
