use Rattle.std.proofs.Common.{[], ◌∷◌}
use Rattle.std.specs.List.{flat_map}
use Rattle.qg_grammar.specs.ScriptText.{then_group}
use Rattle.qg_script.proofs.Parting.{if_none}
use Rattle.qg_script.proofs.GroupTexts.{begins_with_group, group_before, groups_after}
use Rattle.qg_script.proofs.groups.two_groups.Goals as goal

pub returns-in_default-clause-none : goal.returns-in_default-clause-none
returns-in_default-clause-none c first second are = c.in_default.ensures.none first (flat_map then_group (second ∷ []))
    (begins_with_group first (second ∷ []) are)

pub returns-in_err-second-clause-none : goal.returns-in_err-second-clause-none
returns-in_err-second-clause-none c = if_none c.from_residual.result (λ first second are.
    c.in_err-second.ensures.none second (groups_after first (second ∷ []) are c.in-Some.ensures.found).1)

pub returns-clause-found : goal.returns-clause-found
returns-clause-found c = group_before (c.in_ok-second.second ∷ []) c.in-Some.ensures.found c.in_ok-second.ensures.found
