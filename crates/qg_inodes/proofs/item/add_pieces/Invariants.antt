use Rattle.std.proofs.Common.{◌≡◌, ◌++◌, take}
use Rattle.std.specs.List.{filter_map}
use Rattle.qg_inodes.specs.Items.{piece_of}
use Rattle.qg_inodes.proofs.item.add_pieces.Given as goal

abbrev pub invariant-loop-item : goal.invariant-loop-item
invariant-loop-item l = l.pieces ≡ l.fn.pieces ++ filter_map piece_of (take l.item-index l.items)
