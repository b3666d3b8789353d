use Rattle.qg_inodes.proofs.PiecesMet.{met-all, met-counted, met-past, past-counted}
use Rattle.qg_inodes.proofs.laws.pieces_by_range.Goals as goal

pub returns-clause-met : goal.returns-clause-met
returns-clause-met c = met-counted

pub returns-clause-past : goal.returns-clause-past
returns-clause-past c = past-counted

pub returns-clause-cut : goal.returns-clause-cut
returns-clause-cut c = met-past

pub returns-clause-all : goal.returns-clause-all
returns-clause-all c = met-all
