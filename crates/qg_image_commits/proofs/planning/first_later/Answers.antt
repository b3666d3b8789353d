use Rattle.std.proofs.Common.{sym, ◌∙◌}
use Rattle.std.proofs.lemmas.Map.Keys.{le_from_not_gt}
use Rattle.qg_image_commits.proofs.Later.{later-next}
use Rattle.qg_image_commits.proofs.planning.first_later.Goals as goal

pub loop-at-preserved : goal.loop-at-preserved
loop-at-preserved c =
    later-next c.args.generation c.loop-at.yielded (c.in-Some.at, c.in-Some.kept) c.loop-at.invariant
    (le_from_not_gt c.in-Some.kept.now.what.generation c.args.generation (sym c.gt.ensures ∙ c.if-gt.false))
