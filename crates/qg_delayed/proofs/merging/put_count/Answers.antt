use Rattle.qg_delayed.proofs.Joining.{none_more}
use Rattle.qg_delayed.proofs.merging.put_count.Goals as goal

pub returns-then-counted-eq0 : goal.returns-then-counted-eq0
returns-then-counted-eq0 c = none_more c.args.list.now c.args.counted.reference c.args.counted.count
    c.if-counted-eq0.true
