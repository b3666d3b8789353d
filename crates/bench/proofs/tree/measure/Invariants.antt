use Rattle.bench.proofs.tree.measure.Given as goal

abbrev pub ghosts-measure_over : goal.ghosts-measure_over
ghosts-measure_over g a = record { name = a.blank.name; parts = a.blank.parts }

abbrev pub ghosts-measure_over-2 : goal.ghosts-measure_over-2
ghosts-measure_over-2 g a = record { name = a.blank.name; parts = a.blank.parts }
