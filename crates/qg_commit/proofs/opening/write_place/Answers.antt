use Rattle.std.proofs.Common.{inr}
use Rattle.qg_commit.proofs.Touched.{writing-sync, writing-write}
use Rattle.qg_commit.proofs.opening.write_place.Goals as goal

-- what the two calls leave
pub returns-in_err-write_at-clause-touches : goal.returns-in_err-write_at-clause-touches
returns-in_err-write_at-clause-touches g c = λ events told.
    writing-write c.args.superblock.now c.args.place events _ _ _ c.write_at.result c.write_super.ensures told
    c.write_at.ensures.event

pub returns-in_err-sync-clause-touches : goal.returns-in_err-sync-clause-touches
returns-in_err-sync-clause-touches g c = λ events told.
    inr (writing-sync c.args.superblock.now c.args.place events _ _ _ _ c.sync.result c.write_super.ensures told
    c.in_ok-write_at.ensures.event c.sync.ensures.event)

pub returns-clause-touches : goal.returns-clause-touches
returns-clause-touches g c = λ events told.
    inr (writing-sync c.args.superblock.now c.args.place events _ _ _ _ c.sync.result c.write_super.ensures told
    c.in_ok-write_at.ensures.event c.sync.ensures.event)
