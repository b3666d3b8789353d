use Rattle.qg_tree_edits.proofs.editing.+edit_under.Given as goal

abbrev pub decreases-edit_under : goal.decreases-edit_under
decreases-edit_under g l = l.level
