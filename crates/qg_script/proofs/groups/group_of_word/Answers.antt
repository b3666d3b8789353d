use Rattle.std.proofs.Common.{subst, sym, ◌∙◌, arith}
use Rattle.std.specs.Prelude.{IsUtf8}
use Rattle.qg_script.proofs.Parting.{if_none}
use Rattle.qg_script.proofs.GroupTexts.{found_fits, group_found, group_is_text, id_fits, level_fits, no_slash}
use Rattle.qg_script.proofs.GroupTexts.{none_found, split_at_slash, split_whole}
use Rattle.qg_script.proofs.groups.group_of_word.Goals as goal

pub returns-in_default-clause-none : goal.returns-in_default-clause-none
returns-in_default-clause-none c group small is =
    c.in_default.ensures.cases.0 (subst IsUtf8 (sym is) (group_is_text group small))

pub returns-in_err-level-clause-none : goal.returns-in_err-level-clause-none
returns-in_err-level-clause-none c = if_none c.from_residual.result (λ group small is.
    no_slash c.in-Ok.word.now group c.in_err-level.ensures.cases small (c.in-Ok.ensures.cases.0 ∙ is))

pub returns-in_err-level-2-clause-none : goal.returns-in_err-level-2-clause-none
returns-in_err-level-2-clause-none c = if_none c.from_residual-in_err-level-2.result (λ group small is.
    let parts = split_at_slash c.in-Ok.word.now group c.in_ok-level.level c.in_ok-level.id c.in_ok-level.ensures.cases
    small (c.in-Ok.ensures.cases.0 ∙ is) in
    c.in_err-level-2.ensures.none _ (level_fits group small) parts.0)

pub returns-in_err-id-clause-none : goal.returns-in_err-id-clause-none
returns-in_err-id-clause-none c = if_none c.from_residual-in_err-id.result (λ group small is.
    let parts = split_at_slash c.in-Ok.word.now group c.in_ok-level.level c.in_ok-level.id c.in_ok-level.ensures.cases
    small (c.in-Ok.ensures.cases.0 ∙ is) in
    c.in_err-id.ensures.none _ (id_fits group) parts.1)

pub returns-clause-found : goal.returns-clause-found
returns-clause-found c =
    let whole = split_whole c.in-Ok.word.now c.in_ok-level.level c.in_ok-level.id c.in_ok-level.ensures.cases in
    group_found c.in_ok-level-2.level c.in_ok-id.id c.new.result c.new.ensures (sym c.in-Ok.ensures.cases.0
    ∙ whole) c.in_ok-level-2.ensures.found c.in_ok-id.ensures.found

pub returns-clause-fits : goal.returns-clause-fits
returns-clause-fits c = found_fits c.in_ok-level-2.level c.in_ok-id.id c.new.result c.new.ensures

pub returns-clause-none : goal.returns-clause-none
returns-clause-none c =
    let whole = split_whole c.in-Ok.word.now c.in_ok-level.level c.in_ok-level.id c.in_ok-level.ensures.cases in
    none_found c.in_ok-level-2.level c.in_ok-id.id c.new.result c.new.ensures (sym c.in-Ok.ensures.cases.0
    ∙ whole) c.in_ok-level-2.ensures.found c.in_ok-id.ensures.found (omega arith) (omega arith)
