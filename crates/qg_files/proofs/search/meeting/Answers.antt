use Rattle.qg_files.proofs.Edits.{in_order}
use Rattle.qg_files.proofs.search.meeting.Goals as goal

pub returns : goal.returns
returns c = record {
  order = in_order c.args.from c.args.to c.args.pieces.now c.first_past.result c.first_from.result c.requires.apart
      c.requires.order c.first_past.ensures c.first_from.ensures;
  begin = c.first_past.ensures;
  finish = c.first_from.ensures;
}
