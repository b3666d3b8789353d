use Rattle.qg_inodes.proofs.PiecesByPosition.{at-cut, at-range}
use Rattle.qg_inodes.proofs.RangeBodies.{cut-bodies, range-bodies}
use Rattle.qg_inodes.proofs.laws.one_range_by_positions.Goals as goal

pub returns-clause-put : goal.returns-clause-put
returns-clause-put c from to given pieces are position = at-range from to given pieces position are

pub returns-clause-cut : goal.returns-clause-cut
returns-clause-cut c = at-cut

pub returns-clause-put_bodies : goal.returns-clause-put_bodies
returns-clause-put_bodies c = range-bodies

pub returns-clause-cut_bodies : goal.returns-clause-cut_bodies
returns-clause-cut_bodies c = cut-bodies
