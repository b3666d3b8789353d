use Rattle.qg_script.proofs.Rows.{reads_none}
use Rattle.qg_script.proofs.Commands.{reads_some}
use Rattle.qg_script.proofs.GroupRows.{only_remove, remove_read}
use Rattle.qg_script.proofs.parse.read_remove.Goals as goal

pub returns-in_err-member : goal.returns-in_err-member
returns-in_err-member c =
    reads_none c.from_residual.result c.from_residual.ensures
    (only_remove (λ command. ⊥) c.args.rest.now
    (λ member parent are. c.in_err-member.ensures.none member parent are))

pub returns : goal.returns
returns c = reads_some (remove_read c.in_ok-member.ensures.found)
