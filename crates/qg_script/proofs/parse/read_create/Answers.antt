use Rattle.qg_script.proofs.Rows.{reads_none}
use Rattle.qg_script.proofs.Commands.{reads_some}
use Rattle.qg_script.proofs.GroupRows.{create_read, only_create}
use Rattle.qg_script.proofs.parse.read_create.Goals as goal

pub returns-in_err-group : goal.returns-in_err-group
returns-in_err-group c =
    reads_none c.from_residual.result c.from_residual.ensures
    (only_create (λ command. ⊥) c.args.rest.now (λ group are. c.in_err-group.ensures.none group are))

pub returns : goal.returns
returns c = reads_some (create_read c.in_ok-group.ensures.found)
