use Rattle.std.proofs.Common.{◌≡◌, ◌+◌, ◌∙◌, get_or, arith, rules}
use Rattle.std.specs.Ordering.{is_lt, ordering_then, nat_cmp}
use Rattle.std.proofs.lemmas.List.Sorted.{answers_always}
use Rattle.std.proofs.lemmas.Bool.Decides.{nat_tests}
use Rattle.qg_image.specs.declared.element.Element.{Element}
use Rattle.qg_image.specs.Verdict.{is_before}
use Rattle.qg_shared_walk.proofs.extents.sort.Goals as goal

by_key : (a b : Element) → is_before a b ≡ is_lt (ordering_then (nat_cmp a.address b.address) (nat_cmp a.bytes b.bytes))
by_key a b = grind (arith, nat_tests)

pub returns-clause-sorted : goal.returns-clause-sorted
returns-clause-sorted c =
    let rise = c.sort_unstable_by_key.ensures.sorted (λ (e : Element). (e.address, e.bytes))
    (answers_always _ _ _ (λ f a r f' q. search rules)) in
    let extents = c.sort_unstable_by_key.new.self.items in
    λ k d l h. by_key (get_or extents (k + 1) d) (get_or extents k d) ∙ rise k d l h
