use Rattle.std.proofs.Common.{◌≡◌, ◌∷◌, map, take}
use Rattle.std.specs.Prelude.{All}
use Rattle.qg_items.specs.Laws.{RootFits}
use Rattle.qg_root_items.specs.Written.{item_of_named, item_of_root}
use Rattle.qg_root_items.proofs.roots.items_alone.Given as goal

abbrev pub invariant-loop-subvolume : goal.invariant-loop-subvolume
invariant-loop-subvolume l = record {
  items : l.items ≡ item_of_root 2 l.extents ∷ map item_of_named (take l.subvolume-index l.subvolumes);
  fits : All (λ entry. RootFits entry.1) (take l.subvolume-index l.subvolumes);
}
