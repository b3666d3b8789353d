use Rattle.std.proofs.Common.{◌≡◌, map, take}
use Rattle.qg_image.specs.Table.{keys_of}
use Rattle.qg_open_image.specs.FsLawsKeeping.{group_after}
use Rattle.qg_image_commits.specs.Planning.{counters_by}
use Rattle.qg_image_commits.proofs.counting.groups_now.Given as goal

abbrev pub invariant-loop-i : goal.invariant-loop-i
invariant-loop-i l =
    l.now ≡ map (group_after l.next (counters_by (keys_of l.groups) l.counts)) (take l.i l.groups)
