use Rattle.std.proofs.Common.{ℕ, List, [], sym, subst}
use Rattle.qg_script.specs.Reading.{AreGroupWords}
use Rattle.qg_script.proofs.GroupTexts.{begins_with_group, group_before, groups_after, is_empty_text, is_some_text}
use Rattle.qg_script.proofs.GroupTexts.{no_groups}
use Rattle.qg_script.proofs.groups.one_group.Goals as goal

pub returns-in_default-clause-none : goal.returns-in_default-clause-none
returns-in_default-clause-none c group are = c.in_default.ensures.none group [] (begins_with_group group [] are)

pub returns-then-is_empty-clause-found : goal.returns-then-is_empty-clause-found
returns-then-is_empty-clause-found c =
    let empty = is_empty_text c.in-Some.next.1.now c.is_empty.result c.is_empty.ensures c.if-is_empty.true in
    group_before [] c.in-Some.ensures.found (subst (λ (text : List ℕ). AreGroupWords text []) (sym empty) no_groups)

pub returns-else-is_empty-clause-none : goal.returns-else-is_empty-clause-none
returns-else-is_empty-clause-none c group are =
    let none = (groups_after group [] are c.in-Some.ensures.found).1 in
    is_some_text c.in-Some.next.1.now c.is_empty.result c.is_empty.ensures c.if-is_empty.false none.whole
