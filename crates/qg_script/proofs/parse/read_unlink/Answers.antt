use Rattle.qg_script.proofs.Rows.{reads_none, file_at, file_read, only_unlink, unlink_tells}
use Rattle.qg_script.proofs.parse.read_unlink.Goals as goal

pub returns-in_err-sub : goal.returns-in_err-sub
returns-in_err-sub c =
    reads_none c.from_residual.result c.from_residual.ensures
    (only_unlink (λ command. ⊥) c.args.rest.now (λ sub ino file are. c.in_err-sub.ensures.none _ are))

pub returns-in_err-sub-2 : goal.returns-in_err-sub-2
returns-in_err-sub-2 c =
    reads_none c.from_residual-in_err-sub-2.result c.from_residual-in_err-sub-2.ensures
    (only_unlink (λ command. ⊥) c.args.rest.now
    (λ sub ino file are. c.in_err-sub-2.ensures (file_at 0 1 c.in_ok-sub.ensures.found are file)))

pub returns : goal.returns
returns c = record { command = file_read unlink_tells c.in_ok-sub.ensures.found c.in_ok-sub-2.ensures; none = tt }
