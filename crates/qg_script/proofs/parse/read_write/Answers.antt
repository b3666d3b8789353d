use Rattle.qg_script.proofs.Rows.{reads_none, file_at, only_write, write_read}
use Rattle.qg_script.proofs.parse.read_write.Goals as goal

pub returns-in_err-sub : goal.returns-in_err-sub
returns-in_err-sub c =
    reads_none c.from_residual.result c.from_residual.ensures
    (only_write (λ command. ⊥) c.args.rest.now (λ sub ino off len file are. c.in_err-sub.ensures.none _ are))

pub returns-in_err-sub-2 : goal.returns-in_err-sub-2
returns-in_err-sub-2 c =
    reads_none c.from_residual-in_err-sub-2.result c.from_residual-in_err-sub-2.ensures
    (only_write (λ command. ⊥) c.args.rest.now
    (λ sub ino off len file are. c.in_err-sub-2.ensures (file_at 0 1 c.in_ok-sub.ensures.found are file)))

pub returns : goal.returns
returns c = record { command = write_read c.in_ok-sub.ensures.found c.in_ok-sub-2.ensures; none = tt }
