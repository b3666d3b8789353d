use Rattle.qg_image_commits.proofs.Owned.{AreSetsFirst}
use Rattle.qg_image_commits.proofs.ownership.sets_at.Given as goal

abbrev pub invariant-loop-i : goal.invariant-loop-i
invariant-loop-i l = AreSetsFirst l.reached l.nodes l.address l.i l.sets
