use Rattle.std.proofs.Common.{List, [], ap, sym, subst, ◌∙◌, arith}
use Rattle.std.proofs.lemmas.List.{take_all}
use Rattle.qg_refs.specs.declared.counted.Counted.{Counted}
use Rattle.qg_refs.specs.Counts.{count_of}
use Rattle.qg_delayed.specs.declared.change.Change.{Change}
use Rattle.qg_delayed.proofs.Joining.{HasChanges, has_more, has_none, misses_now}
use Rattle.qg_delayed.proofs.merging.changed.Goals as goal

pub loop-change-init : goal.loop-change-init
loop-change-init c = subst (λ (list : List Counted). HasChanges list []) (sym c.new-list.ensures) has_none

pub put_count-requires : goal.put_count-requires
put_count-requires c some =
    let i = c.loop-change.change-index in
    ap (λ (w : Change). count_of c.loop-change.list w.reference) c.change-item.is
    ∙ misses_now c.loop-change.list c.args.changes.now i c.change-item.result c.requires c.loop-change-test.true
    c.loop-change.invariant

pub loop-change-preserved : goal.loop-change-preserved
loop-change-preserved c =
    has_more c.loop-change.list c.put_count.new.list c.args.changes.now c.loop-change.change-index c.change-item.result
    c.requires c.loop-change-test.true c.change-item.is c.loop-change.invariant c.in_ok-put_count.ensures

pub returns : goal.returns
returns c =
    subst (λ (cs : List Change). HasChanges c.loop-change.list cs)
    (take_all c.loop-change.change-index c.args.changes.now (omega arith)) c.loop-change.invariant
