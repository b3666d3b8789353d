use Rattle.std.proofs.Common.{◌≡◌, ◌+◌, ◌-◌, ◌<◌, ℕ, List, get_or, ap, sym, subst, ◌∙◌, arith}
use Rattle.qg_refs.specs.declared.counted.Counted.{Counted}
use Rattle.qg_refs.specs.Counts.{count_of}
use Rattle.qg_refs.proofs.Counting.{set-written, count-read, less-seen, remove-written}
use Rattle.qg_refs.proofs.list.RefList.drop_one.Goals as goal

pub invariant_of-self : goal.invariant_of-self
invariant_of-self c =
    (remove-written c.self.inside.counts.items c.as_slice.result.now c.remove.new.self.items c.in-Some.index
    c.args.reference.now c.as_slice.ensures c.self.invariant c.in-Some.ensures.inside c.in-Some.ensures.at
    c.remove.ensures.items).sound

pub returns-then-count-eq1 : goal.returns-then-count-eq1
returns-then-count-eq1 c =
    let xs = c.self.inside.counts.items in
    let count = count-read xs c.as_slice.result.now c.as_slice-2.result.now c.in-Some.index c.args.reference.now
    c.index-as_slice-index.result c.as_slice.ensures c.as_slice-2.ensures c.in-Some.ensures.counts in
    less-seen xs c.args.self.now c.remove.new.self.items c.args.reference.now 0 c.self.view_is
    (remove-written xs c.as_slice.result.now c.remove.new.self.items c.in-Some.index c.args.reference.now
    c.as_slice.ensures c.self.invariant c.in-Some.ensures.inside c.in-Some.ensures.at c.remove.ensures.items)
    (omega (arith, count, c.if-count-eq1.true))

pub invariant_of-self-else-count-eq1 : goal.invariant_of-self-else-count-eq1
invariant_of-self-else-count-eq1 c =
    let xs = c.self.inside.counts.items in
    let count = count-read xs c.as_slice.result.now c.as_slice-2.result.now c.in-Some.index c.args.reference.now
    c.index-as_slice-index.result c.as_slice.ensures c.as_slice-2.ensures c.in-Some.ensures.counts in
    let some = ap (λ (now : List Counted). count_of now c.args.reference.now) c.self.view_is in
    (set-written xs c.as_slice.result.now c.as_mut_slice.result.now c.in-Some.index c.args.reference.now _
    c.as_slice.ensures c.as_mut_slice.ensures.value c.self.invariant
    c.in-Some.ensures.inside c.in-Some.ensures.at (omega (arith, count, some, c.requires, c.if-count-eq1.false))).sound

pub returns-else-count-eq1 : goal.returns-else-count-eq1
returns-else-count-eq1 c =
    let xs = c.self.inside.counts.items in
    let count = count-read xs c.as_slice.result.now c.as_slice-2.result.now c.in-Some.index c.args.reference.now
    c.index-as_slice-index.result c.as_slice.ensures c.as_slice-2.ensures c.in-Some.ensures.counts in
    let some = ap (λ (now : List Counted). count_of now c.args.reference.now) c.self.view_is in
    less-seen xs c.args.self.now _ c.args.reference.now _ c.self.view_is
    (set-written xs c.as_slice.result.now c.as_mut_slice.result.now c.in-Some.index c.args.reference.now _
    c.as_slice.ensures c.as_mut_slice.ensures.value c.self.invariant
    c.in-Some.ensures.inside c.in-Some.ensures.at (omega (arith, count, some, c.requires, c.if-count-eq1.false)))
    (omega (arith, count, some, c.requires))
