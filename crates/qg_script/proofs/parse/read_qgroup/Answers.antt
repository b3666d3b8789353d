use Rattle.std.specs.Prelude.{codes}
use Rattle.qg_script.proofs.Rows.{reads_none}
use Rattle.qg_script.proofs.GroupRows.{behind_create, behind_destroy, none_of_qgroup, not_stripped, stripped}
use Rattle.qg_script.proofs.parse.read_qgroup.Goals as goal

pub returns-in-Some : goal.returns-in-Some
returns-in-Some c =
    let is = stripped c.args.rest.now (codes " create") c.in-Some.rest c.in-Some.ensures.cases in
    behind_create c.args.rest.now c.in-Some.rest.now c.read_create.result is c.read_create.ensures

pub returns-in_err-rest : goal.returns-in_err-rest
returns-in_err-rest c =
    reads_none c.from_residual.result c.from_residual.ensures
    (none_of_qgroup c.args.rest.now (not_stripped c.args.rest.now (codes " create") c.in_default.ensures.cases)
    (not_stripped c.args.rest.now (codes " destroy") c.in_err-rest.ensures.cases))

pub returns : goal.returns
returns c =
    let is = stripped c.args.rest.now (codes " destroy") c.in_ok-rest.rest c.in_ok-rest.ensures.cases in
    behind_destroy c.args.rest.now c.in_ok-rest.rest.now c.read_destroy.result is c.read_destroy.ensures
