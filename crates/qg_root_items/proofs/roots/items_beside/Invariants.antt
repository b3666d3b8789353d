use Rattle.std.proofs.Common.{◌≡◌, ◌++◌, map, drop, take}
use Rattle.std.specs.Prelude.{Some, All}
use Rattle.qg_items.specs.Laws.{RootFits}
use Rattle.qg_root_items.specs.Written.{item_of_named, items_of_roots}
use Rattle.qg_root_items.proofs.RootTree.{roots_left}
use Rattle.qg_root_items.proofs.roots.items_beside.Given as goal

abbrev pub invariant-loop-subvolume : goal.invariant-loop-subvolume
invariant-loop-subvolume l = record {
  items : l.items ++ map item_of_named (roots_left l.named l.quotas (drop l.subvolume-index l.subvolumes))
      ≡ items_of_roots l.extents l.subvolumes (Some l.quotas);
  fits : All (λ entry. RootFits entry.1) (take l.subvolume-index l.subvolumes);
}
