use Rattle.std.proofs.Common.{◌++◌}
use Rattle.std.specs.Prelude.{codes}
use Rattle.qg_grammar.specs.ScriptText.{group_text}
use Rattle.qg_script.proofs.Parting.{if_none, parted_once}
use Rattle.qg_script.proofs.GroupTexts.{group_in_front, group_parted}
use Rattle.qg_script.proofs.GroupRows.{not_stripped, stripped}
use Rattle.qg_script.proofs.groups.next_group.Goals as goal

pub returns-in_err-text-clause-none : goal.returns-in_err-text-clause-none
returns-in_err-text-clause-none c = if_none c.from_residual.result (λ group rest next.
    not_stripped c.args.text.now (codes " ") c.in_err-text.ensures.cases (group_text group ++ rest) next.whole)

pub returns-in_err-group-clause-none : goal.returns-in_err-group-clause-none
returns-in_err-group-clause-none c = if_none c.from_residual-in_err-group.result (λ group rest next.
    let is = stripped c.args.text.now (codes " ") c.in_ok-text.text c.in_ok-text.ensures.cases in
    c.in_err-group.ensures.none group next.fits
    (parted_once c.first_word.ensures (group_parted c.args.text.now c.in_ok-text.text.now is next)).0)

pub returns-clause-found : goal.returns-clause-found
returns-clause-found c =
    let is = stripped c.args.text.now (codes " ") c.in_ok-text.text c.in_ok-text.ensures.cases in
    group_in_front c.args.text.now c.in_ok-text.text.now c.first_word.result.0.now c.in_ok-group.group is
    c.first_word.ensures c.in_ok-group.ensures.found c.in_ok-group.ensures.fits
