use Rattle.std.proofs.Common.{◌≡◌, drop}
use Rattle.std.specs.Prelude.{◌==◌}
use Rattle.std.specs.List.{list_any}
use Rattle.qg_image_commits.proofs.ownership.is_among.Given as goal

abbrev pub invariant-loop-extent : goal.invariant-loop-extent
invariant-loop-extent l =
    list_any (λ extent. extent == l.address) l.extents ≡ list_any (λ extent. extent == l.address)
    (drop l.extent-index l.extents)
