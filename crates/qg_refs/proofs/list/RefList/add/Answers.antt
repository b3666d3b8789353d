use Rattle.std.proofs.Common.{◌≡◌, ◌+◌, ℕ, List, get_or, ap, sym, subst, ◌∙◌, arith}
use Rattle.qg_refs.specs.declared.counted.Counted.{Counted}
use Rattle.qg_refs.specs.Counts.{count_of}
use Rattle.qg_refs.proofs.Counting.{set-written, count-read, more-seen, insert-written}
use Rattle.qg_refs.proofs.list.RefList.add.Goals as goal

pub invariant_of-self : goal.invariant_of-self
invariant_of-self c =
    (set-written c.self.inside.counts.items c.as_slice.result.now c.as_mut_slice.result.now c.in-Some.index
    c.args.reference _ c.as_slice.ensures c.as_mut_slice.ensures.value c.self.invariant
    c.in-Some.ensures.inside c.in-Some.ensures.at (omega arith)).sound

pub returns-in-Some-clause-ok : goal.returns-in-Some-clause-ok
returns-in-Some-clause-ok c =
    let xs = c.self.inside.counts.items in
    let count = count-read xs c.as_slice.result.now c.as_slice-in-Some.result.now c.in-Some.index c.args.reference
    c.index-as_slice-index.result c.as_slice.ensures c.as_slice-in-Some.ensures c.in-Some.ensures.counts in
    more-seen xs c.args.self.now _ c.args.reference _ c.self.view_is
    (set-written xs c.as_slice.result.now c.as_mut_slice.result.now c.in-Some.index c.args.reference _
    c.as_slice.ensures c.as_mut_slice.ensures.value c.self.invariant
    c.in-Some.ensures.inside c.in-Some.ensures.at (omega arith))
    (ap (λ (n : ℕ). n + 1) count)

pub invariant_of-self-2 : goal.invariant_of-self-2
invariant_of-self-2 c =
    (insert-written c.self.inside.counts.items c.as_slice.result.now c.as_slice-2.result.now c.insert.new.self.items
    c.place_of-index.result c.args.reference 1 c.as_slice.ensures c.as_slice-2.ensures
    c.self.invariant c.in_default.ensures.none c.place_of-index.ensures.bound c.place_of-index.ensures.point
    (omega arith) c.in_ok-insert.ensures.ok).sound

pub returns-clause-ok : goal.returns-clause-ok
returns-clause-ok c =
    let xs = c.self.inside.counts.items in
    let none : count_of xs c.args.reference ≡ 0 = ap (λ (ws : List Counted). count_of ws c.args.reference)
    (sym c.as_slice.ensures) ∙ c.in_default.ensures.none in
    more-seen xs c.args.self.now c.insert.new.self.items c.args.reference 1 c.self.view_is
    (insert-written xs c.as_slice.result.now c.as_slice-2.result.now c.insert.new.self.items c.place_of-index.result
    c.args.reference 1 c.as_slice.ensures c.as_slice-2.ensures
    c.self.invariant c.in_default.ensures.none c.place_of-index.ensures.bound c.place_of-index.ensures.point
    (omega arith) c.in_ok-insert.ensures.ok)
    (omega (arith, none))
