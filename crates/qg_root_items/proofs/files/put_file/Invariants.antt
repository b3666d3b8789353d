use Rattle.std.proofs.Common.{◌≡◌, ◌++◌, ◌∷◌, map, take}
use Rattle.qg_root_items.specs.Written.{item_of_inode, item_of_piece}
use Rattle.qg_root_items.proofs.files.put_file.Given as goal

abbrev pub invariant-loop-piece : goal.invariant-loop-piece
invariant-loop-piece l = l.items ≡ l.fn.items ++ item_of_inode l.ino l.file ∷ map (item_of_piece l.ino)
    (take l.piece-index l.piece-items)
