use Rattle.std.specs.Prelude.{codes}
use Rattle.qg_script.proofs.Parting.{if_none}
use Rattle.qg_script.proofs.GroupRows.{no_which, not_stripped, stripped}
use Rattle.qg_script.proofs.groups.next_which.Goals as goal

pub returns-in-Some-clause-found : goal.returns-in-Some-clause-found
returns-in-Some-clause-found c =
    record { whole = stripped c.args.text.now (codes " rfer") c.in-Some.rest c.in-Some.ensures.cases }

pub returns-in_err-rest-clause-none : goal.returns-in_err-rest-clause-none
returns-in_err-rest-clause-none c = if_none c.from_residual.result
    (no_which (not_stripped c.args.text.now (codes " rfer") c.in_default.ensures.cases)
    (not_stripped c.args.text.now (codes " excl") c.in_err-rest.ensures.cases))

pub returns-clause-found : goal.returns-clause-found
returns-clause-found c =
    record { whole = stripped c.args.text.now (codes " excl") c.in_ok-rest.rest c.in_ok-rest.ensures.cases }
