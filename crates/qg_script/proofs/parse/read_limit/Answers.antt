use Rattle.qg_script.proofs.Rows.{reads_none}
use Rattle.qg_script.proofs.Commands.{reads_not, reads_some}
use Rattle.qg_script.proofs.GroupRows.{limit_read, no_group_limited, no_limit, only_limit}
use Rattle.qg_script.proofs.parse.read_limit.Goals as goal

pub returns-in_default : goal.returns-in_default
returns-in_default c = reads_not
    (only_limit (λ command. ⊥) c.args.rest.now (λ group which max behind last is next limit.
    c.in_default.ensures.none which behind is))

pub returns-in_default-next_group : goal.returns-in_default-next_group
returns-in_default-next_group c =
    reads_not (no_group_limited c.in-Some.ensures.found c.in_default-next_group.ensures.none)

pub returns-in_err-max : goal.returns-in_err-max
returns-in_err-max c =
    reads_none c.from_residual.result c.from_residual.ensures
    (no_limit c.in-Some.ensures.found c.in-Some-next_group.ensures.found c.in_err-max.ensures.none)

pub returns : goal.returns
returns c = reads_some (limit_read c.in-Some.ensures.found c.in-Some-next_group.ensures.found c.in_ok-max.ensures.found)
