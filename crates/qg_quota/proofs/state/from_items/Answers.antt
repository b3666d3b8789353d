use Rattle.std.proofs.Common.{◌≡◌, List, map, None, ap, sym, subst, ◌∙◌}
use Rattle.std.specs.Prelude.{IfErr, IfOk, IsTrue, OnOk, Option, Some}
use Rattle.qg_num.specs.declared.rule.Rule.{Rule}
use Rattle.qg_node.specs.Nodes.{is_ascending}
use Rattle.qg_image.specs.declared.part.QuotaPart.{QuotaPart}
use Rattle.qg_tree_items.specs.Keys.{quota_key}
use Rattle.qg_image.specs.ImageState.{quota_told}
use Rattle.qg_quota.specs.Quota.{quota_rule, IfRule}
use Rattle.qg_quota.proofs.RuleOrder.{parts-ascend, read-parts, rule-of-none, rule-of-parts}
use Rattle.qg_quota.proofs.state.from_items.Goals as goal

pub state_of-requires : goal.state_of-requires
state_of-requires c =
    subst (λ (list : List QuotaPart). IsTrue (is_ascending (map quota_key list))) (sym c.as_slice.ensures)
    (parts-ascend c.args.generation c.args.items.now c.as_slice-seen.result.now c.as_slice-seen.ensures
    c.in_ok-read.read c.in_ok-read.ensures c.in-Some.parts c.in-Some.is c.requires)

pub returns-in-None-clause-refused : goal.returns-in-None-clause-refused
returns-in-None-clause-refused c =
    rule-of-none c.args.generation c.args.items.now c.as_slice-seen.result.now c.as_slice-seen.ensures c.in_ok-read.read
    c.in_ok-read.ensures c.args.live.now c.in-None.is

pub returns-in-Some-clause-sound : goal.returns-in-Some-clause-sound
returns-in-Some-clause-sound c =
    let rule =
    rule-of-parts c.args.generation c.args.items.now c.as_slice-seen.result.now c.as_slice-seen.ensures
    c.in_ok-read.read c.in_ok-read.ensures c.args.live.now c.in-Some.parts c.in-Some.is
    ∙ ap (quota_rule c.args.live.now) (sym c.as_slice.ensures) in
    subst (λ (broken : Option Rule). OnOk c.state_of.result (broken ≡ None)) (sym rule) c.state_of.ensures.sound

pub returns-in-Some-clause-told : goal.returns-in-Some-clause-told
returns-in-Some-clause-told c =
    let parts =
    read-parts c.args.generation c.args.items.now c.as_slice-seen.result.now c.as_slice-seen.ensures c.in_ok-read.read
    c.in_ok-read.ensures c.in-Some.parts c.in-Some.is in
    subst (λ (list : List QuotaPart). IfOk c.state_of.result (λ state. state.quota ≡ quota_told list))
    (c.as_slice.ensures ∙ sym parts.1) c.state_of.ensures.told

pub returns-in-Some-clause-refused : goal.returns-in-Some-clause-refused
returns-in-Some-clause-refused c =
    let rule =
    rule-of-parts c.args.generation c.args.items.now c.as_slice-seen.result.now c.as_slice-seen.ensures
    c.in_ok-read.read c.in_ok-read.ensures c.args.live.now c.in-Some.parts c.in-Some.is
    ∙ ap (quota_rule c.args.live.now) (sym c.as_slice.ensures) in
    subst (λ (broken : Option Rule). IfErr c.state_of.result (λ fault. IfRule fault (λ one. broken ≡ Some one)))
    (sym rule) c.state_of.ensures.refused
