use Rattle.qg_account.proofs.TraceTells.{edit-keeps, edits-change, touch-keeps, trace-begins, trace-counts, trace-tells}
use Rattle.qg_account.proofs.laws.traces_tell_changes.Goals as goal

pub returns : goal.returns
returns c = record {
  begins = trace-begins;
  touched = touch-keeps;
  edited = edit-keeps;
  tells = trace-tells;
  counts = trace-counts;
  edits = edits-change;
}
