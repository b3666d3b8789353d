use Rattle.std.proofs.Common.{sym, ◌∙◌}
use Rattle.std.specs.Prelude.{codes}
use Rattle.std.proofs.lemmas.List.{append_cancel_left}
use Rattle.qg_script.proofs.GroupTexts.{is_empty_text, is_some_text}
use Rattle.qg_script.proofs.GroupRows.{found_inherited, inherits_some, none_inherited, none_of_groups, not_stripped}
use Rattle.qg_script.proofs.GroupRows.{stripped}
use Rattle.qg_script.proofs.groups.inherited.Goals as goal

pub returns-then-is_empty-clause-found : goal.returns-then-is_empty-clause-found
returns-then-is_empty-clause-found c =
    none_inherited (is_empty_text c.args.text.now c.is_empty.result c.is_empty.ensures c.if-is_empty.true) c.new.ensures

pub returns-in_default-clause-none : goal.returns-in_default-clause-none
returns-in_default-clause-none c groups are =
    let some = inherits_some groups are
    (is_some_text c.args.text.now c.is_empty.result c.is_empty.ensures c.if-is_empty.false) in
    not_stripped c.args.text.now (codes " inherit") c.in_default.ensures.cases some.0 some.1

pub returns-then-is_empty-2-clause-none : goal.returns-then-is_empty-2-clause-none
returns-then-is_empty-2-clause-none c groups are =
    let some = inherits_some groups are
    (is_some_text c.args.text.now c.is_empty.result c.is_empty.ensures c.if-is_empty.false) in
    let is = stripped c.args.text.now (codes " inherit") c.in-Some.text c.in-Some.ensures.cases in
    let same = append_cancel_left (codes " inherit") some.0 c.in-Some.text.now (sym some.1 ∙ is) in
    some.3 (same ∙ is_empty_text c.in-Some.text.now c.is_empty-2.result c.is_empty-2.ensures c.if-is_empty-2.true)

pub returns-clause-found : goal.returns-clause-found
returns-clause-found c =
    let is = stripped c.args.text.now (codes " inherit") c.in-Some.text c.in-Some.ensures.cases in
    found_inherited c.groups_of.result is
    (is_some_text c.in-Some.text.now c.is_empty-2.result c.is_empty-2.ensures c.if-is_empty-2.false)
    c.groups_of.ensures.found

pub returns-clause-none : goal.returns-clause-none
returns-clause-none c =
    let is = stripped c.args.text.now (codes " inherit") c.in-Some.text c.in-Some.ensures.cases in
    none_of_groups c.groups_of.result is
    (is_some_text c.args.text.now c.is_empty.result c.is_empty.ensures c.if-is_empty.false) c.groups_of.ensures.none
