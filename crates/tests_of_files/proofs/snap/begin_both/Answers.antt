use Rattle.tests_of_files.proofs.snap.begin_both.Goals as goal

pub make_both-requires-clause-editable : goal.make_both-requires-clause-editable
make_both-requires-clause-editable g c = record {
  backed = c.in_ok-land.ensures.backed (g.D.Disk.history c.lengthen.new.disk);
  drafted = c.in_ok-land.ensures.drafted c.new-next.result;
  room = c.in_ok-lengthen.ensures;
}
