use Rattle.qg_image_commits.proofs.RootsNow.{AreRootsFirst}
use Rattle.qg_image_commits.proofs.planning.roots_now.Given as goal

abbrev pub invariant-loop-i : goal.invariant-loop-i
invariant-loop-i l = AreRootsFirst l.kept l.trees l.snapshots l.i l.roots
