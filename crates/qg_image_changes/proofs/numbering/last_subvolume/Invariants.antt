use Rattle.std.proofs.Common.{◌≡◌, ◌<◌, ◌≤◌, ◌^◌, take}
use Rattle.std.specs.Prelude.{max}
use Rattle.std.specs.List.{fold}
use Rattle.qg_image.specs.Table.{keys_of}
use Rattle.qg_image_changes.proofs.numbering.last_subvolume.Given as goal

abbrev pub invariant-loop-sub : goal.invariant-loop-sub
invariant-loop-sub l =
    (l.last ≡ fold max 255 (keys_of (take l.sub-index l.snapshots))) × (255 ≤ l.last) × (l.last < 2 ^ 48)
