use Rattle.std.proofs.Common.{◌≡◌, map, take}
use Rattle.std.specs.List.{filter_map}
use Rattle.qg_image.specs.Reach.{extent_of}
use Rattle.qg_shared_walk.proofs.Naming.{item_piece}
use Rattle.qg_shared_walk.proofs.extents.extents_of_items.Given as goal

abbrev pub invariant-loop-item : goal.invariant-loop-item
invariant-loop-item l = l.extents ≡ map extent_of (filter_map item_piece (take l.item-index l.items))
