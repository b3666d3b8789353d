use Rattle.std.proofs.Common.{ℕ, rules}
use Rattle.std.proofs.lemmas.List.Sorted.{answers_always}
use Rattle.qg_owner_rule.specs.Places.{StandsAt, AreOthers}
use Rattle.qg_owner_rule.proofs.Ascending.{searched_there, searched_absent, there_if_some, absent_if_none}
use Rattle.qg_owner_rule.proofs.places.place_of_root.Goals as goal

pub returns-clause-there : goal.returns-clause-there
returns-clause-there c =
    let facts = c.binary_search_by_key.ensures in
    let by = facts.position (λ (root : ℕ × ℕ). root.0) (answers_always _ _ _ (λ f a r g called. search rules)) in
    there_if_some (λ place. StandsAt (λ (root : ℕ × ℕ). root.0) c.args.roots.now c.args.subvolume place)
    c.binary_search_by_key.result c.ok.result c.ok.ensures.value
    (searched_there (λ (root : ℕ × ℕ). root.0)
    c.args.roots.now c.requires c.args.subvolume c.binary_search_by_key.result facts.bound by)

pub returns-clause-absent : goal.returns-clause-absent
returns-clause-absent c =
    let by =
    c.binary_search_by_key.ensures.position (λ (root : ℕ × ℕ). root.0)
    (answers_always _ _ _ (λ f a r g called. search rules)) in
    absent_if_none (AreOthers (λ (root : ℕ × ℕ). root.0) c.args.roots.now c.args.subvolume)
    c.binary_search_by_key.result c.ok.result c.ok.ensures.value
    (searched_absent (λ (root : ℕ × ℕ). root.0)
    c.args.roots.now c.requires c.args.subvolume c.binary_search_by_key.result by)
