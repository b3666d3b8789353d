use Rattle.std.proofs.Common.{◌≡◌, map, take}
use Rattle.qg_image_commits.specs.Owning.{number_at}
use Rattle.qg_image_commits.proofs.ownership.numbers_at.Given as goal

abbrev pub invariant-loop-place : goal.invariant-loop-place
invariant-loop-place l = l.numbers ≡ map (number_at l.roots) (take l.place-index l.places)
