use Rattle.std.specs.Prelude.{codes}
use Rattle.qg_script.proofs.Parting.{if_none}
use Rattle.qg_script.proofs.Commands.{other_word, same_word}
use Rattle.qg_script.proofs.GroupRows.{none_limited, not_limited, some_limited}
use Rattle.qg_script.proofs.groups.limit_of.Goals as goal

pub returns-then-eq-clause-found : goal.returns-then-eq-clause-found
returns-then-eq-clause-found c =
    none_limited (same_word c.args.text.now c.as_slice.result.now (codes " none") c.if-eq.ensures c.as_slice.ensures)

pub returns-in_err-max-clause-none : goal.returns-in_err-max-clause-none
returns-in_err-max-clause-none c = if_none c.from_residual.result
    (not_limited (other_word c.args.text.now c.as_slice.result.now (codes " none") c.if-eq.ensures c.as_slice.ensures)
    c.in_err-max.ensures.none)

pub returns-clause-found : goal.returns-clause-found
returns-clause-found c = some_limited c.in_ok-max.ensures.found
