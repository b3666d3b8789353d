use Rattle.std.proofs.lemmas.List.{take_rest}
use Rattle.std.proofs.lemmas.Result.{err_from_is_err_and}
use Rattle.qg_edge.proofs.Written.{more_written, none_more_written, front_written}
use Rattle.qg_edge.proofs.adapters.write_whole.Goals as goal
use Rattle.qg_edge.proofs.adapters.write_whole.Goals.{in-Ok, in-Err}

pub writes-preserved : goal.writes-preserved
writes-preserved g c =
    let so_far = c.writes.invariant in
    elim c.match-write.branch [
      | in-Ok w ↦ rw (w.rest-is, take_rest) (more_written w.in-Ok.count _ so_far w.in-Ok.ensures.bytes)
      | in-Err w ↦ rw w.rest-is (none_more_written _ so_far w.in-Err.ensures.bytes)
    ]

pub returns-in_err-flush-clause-err : goal.returns-in_err-flush-clause-err
returns-in_err-flush-clause-err g c =
    let same = err_from_is_err_and c.from_residual.result c.from_residual.ensures.1 in
    rw same.1 (front_written
    (none_more_written (g.W.Write.contents c.flush.new.self) c.writes.invariant c.flush.ensures.bytes))

pub returns-in-Ok-2-clause-err : goal.returns-in-Ok-2-clause-err
returns-in-Ok-2-clause-err g c =
    let after = g.W.Write.contents c.write.new.self in
    front_written (more_written c.in-Ok-2.field-0 after c.writes.invariant c.in-Ok-2.ensures.bytes)

pub returns-in-Err-2-clause-err : goal.returns-in-Err-2-clause-err
returns-in-Err-2-clause-err g c =
    let after = g.W.Write.contents c.write.new.self in
    front_written (none_more_written after c.writes.invariant c.in-Err-2.ensures.bytes)

pub returns-clause-err : goal.returns-clause-err
returns-clause-err g c = front_written c.writes.invariant
