use Rattle.std.proofs.Common.{List, subst, arith, ℕ, ◌<◌}
use Rattle.std.proofs.lemmas.List.{take_all}
use Rattle.qg_refs.specs.declared.counted.Counted.{Counted}
use Rattle.qg_refs.specs.Counts.{HasSoManyMore}
use Rattle.qg_delayed.proofs.Joining.{HasOthers, absent_now, others_more, others_none}
use Rattle.qg_delayed.proofs.merging.put_unchanged.Goals as goal

pub loop-counted-init : goal.loop-counted-init
loop-counted-init c = others_none c.args.list.now c.args.changes.now c.requires.changed

pub put_count-requires : goal.put_count-requires
put_count-requires c some =
    absent_now c.loop-counted.list c.args.below.now c.args.changes.now c.loop-counted.counted-index
    c.counted-item.result c.requires.sound c.loop-counted-test.true c.counted-item.is c.loop-counted.invariant
    (subst (λ (n : ℕ). 0 < n) c.left_as-count.ensures some)

pub loop-counted-preserved : goal.loop-counted-preserved
loop-counted-preserved c =
    others_more c.loop-counted.list c.put_count.new.list c.args.below.now c.args.changes.now
    c.loop-counted.counted-index c.counted-item.result c.loop-counted-test.true c.counted-item.is
    c.loop-counted.invariant
    (subst (λ (n : ℕ). HasSoManyMore c.loop-counted.list c.put_count.new.list c.counted-item.result.reference n)
    c.left_as-count.ensures c.in_ok-put_count.ensures)

pub returns : goal.returns
returns c =
    subst (λ (xs : List Counted). HasOthers c.loop-counted.list xs c.args.changes.now)
    (take_all c.loop-counted.counted-index c.args.below.now (omega arith)) c.loop-counted.invariant
