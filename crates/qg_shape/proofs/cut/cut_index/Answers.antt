use Rattle.qg_shape.proofs.Aims.{IsCut-at}
use Rattle.qg_shape.proofs.cut.cut_index.Goals as goal

pub returns-then-newest-list-clause-cut : goal.returns-then-newest-list-clause-cut
returns-then-newest-list-clause-cut g c =
    IsCut-at 1048 0 c.args.room c.args.total c.latest.result g.T.Weighed.weight c.args.list.now c.longest_front.result
    c.latest.ensures c.requires.total c.longest_front.ensures.near

pub returns-else-newest-list-clause-cut : goal.returns-else-newest-list-clause-cut
returns-else-newest-list-clause-cut g c =
    IsCut-at 524 524 c.args.room c.args.total c.half.result g.T.Weighed.weight c.args.list.now c.nearest_front.result
    c.half.ensures c.requires.total c.nearest_front.ensures.near
