use Rattle.std.proofs.Common.{◌≡◌, map, take}
use Rattle.std.specs.List.{filter_map}
use Rattle.std.specs.Option.{option_and_then}
use Rattle.qg_image.specs.ItemMeaning.{file_part}
use Rattle.qg_image.specs.Reach.{piece_of_part}
use Rattle.qg_qgroup_counts.proofs.surveyed.extents_in.Given as goal

abbrev pub invariant-loop-item : goal.invariant-loop-item
invariant-loop-item l =
    l.extents ≡ map (λ piece. piece.extent)
    (filter_map (λ item. option_and_then piece_of_part (file_part item)) (take l.item-index l.items))
