use Rattle.std.proofs.Common.{rules}
use Rattle.std.proofs.lemmas.List.Sorted.{answers_always}
use Rattle.qg_image.specs.declared.element.Element.{Element}
use Rattle.qg_owner_rule.specs.Places.{StandsAt, AreOthers}
use Rattle.qg_owner_rule.proofs.Ascending.{searched_absent, there_if_some, absent_if_none}
use Rattle.qg_qgroup_counts.proofs.Noting.{searched}
use Rattle.qg_qgroup_counts.proofs.namers.place_of_extent.Goals as goal

pub returns-clause-there : goal.returns-clause-there
returns-clause-there c =
    let facts = c.binary_search_by_key.ensures in
    let by = facts.position (λ (extent : Element). extent.address)
    (answers_always _ _ _ (λ f a r g called. search rules)) in
    there_if_some (λ place. StandsAt (λ (extent : Element). extent.address) c.args.extents.now c.args.address place)
    c.binary_search_by_key.result c.ok.result c.ok.ensures.value
    (searched (λ (extent : Element). extent.address)
    c.args.extents.now c.args.address c.binary_search_by_key.result facts.bound by)

pub returns-clause-absent : goal.returns-clause-absent
returns-clause-absent c = λ up.
    let by =
    c.binary_search_by_key.ensures.position (λ (extent : Element). extent.address)
    (answers_always _ _ _ (λ f a r g called. search rules)) in
    absent_if_none (AreOthers (λ (extent : Element). extent.address) c.args.extents.now c.args.address)
    c.binary_search_by_key.result c.ok.result c.ok.ensures.value
    (searched_absent (λ (extent : Element). extent.address)
    c.args.extents.now up c.args.address c.binary_search_by_key.result by)
