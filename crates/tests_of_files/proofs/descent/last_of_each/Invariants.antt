use Rattle.qg_tree_read.specs.Way.{IsReadable}
use Rattle.tests_of_files.proofs.descent.last_of_each.Given as goal

abbrev pub invariant-loop-object : goal.invariant-loop-object
invariant-loop-object g l = record { readable : IsReadable l.blocks (g.D.Disk.history l.disk) (g.D.Disk.size l.disk) }
