use Rattle.std.proofs.Common.{◌≡◌, ◌+◌, List, ap, sym, ◌∙◌, arith}
use Rattle.qg_refs.specs.declared.counted.Counted.{Counted}
use Rattle.qg_refs.specs.Counts.{count_of}
use Rattle.qg_refs.proofs.Counting.{IsSet, insert-written, more-by}
use Rattle.qg_refs.proofs.list.RefList.put.Goals as goal

pub invariant_of-self-2 : goal.invariant_of-self-2
invariant_of-self-2 c =
    let none = ap (λ (ws : List Counted). count_of ws c.args.reference) (c.as_slice.ensures ∙ c.self.view_is)
    ∙ c.requires.absent in
    (insert-written c.self.inside.counts.items c.as_slice.result.now c.as_slice.result.now c.insert.new.self.items
    c.place_of-index.result c.args.reference c.args.count c.as_slice.ensures c.as_slice.ensures
    c.self.invariant none c.place_of-index.ensures.bound c.place_of-index.ensures.point c.requires.some
    c.in_ok-insert.ensures.ok).sound

pub returns-clause-ok : goal.returns-clause-ok
returns-clause-ok c =
    let none = ap (λ (ws : List Counted). count_of ws c.args.reference) (c.as_slice.ensures ∙ c.self.view_is)
    ∙ c.requires.absent in
    let xs = c.self.inside.counts.items in
    let seen = ap (λ (ws : List Counted). count_of ws c.args.reference) c.self.view_is ∙ c.requires.absent in
    let set : IsSet xs c.insert.new.self.items c.args.reference c.args.count =
    insert-written xs c.as_slice.result.now c.as_slice.result.now c.insert.new.self.items c.place_of-index.result
    c.args.reference c.args.count c.as_slice.ensures c.as_slice.ensures
    c.self.invariant none c.place_of-index.ensures.bound c.place_of-index.ensures.point c.requires.some
    c.in_ok-insert.ensures.ok in
    rw (sym c.self.view_is) (more-by xs c.insert.new.self.items c.args.reference c.args.count c.args.count set
    (omega (arith, seen)))
