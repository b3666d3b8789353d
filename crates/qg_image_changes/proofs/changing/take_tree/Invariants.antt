use Rattle.std.proofs.Common.{◌≡◌, ◌<◌, ℕ}
use Rattle.std.specs.Prelude.{◌≢◌, slice_index_or}
use Rattle.qg_tree_read.specs.Tree.{Root}
use Rattle.qg_image_changes.proofs.changing.take_tree.Given as goal

-- nothing changed so far, and none of those in front is of the number
abbrev pub invariant-loop-i : goal.invariant-loop-i
invariant-loop-i l =
    (l.kept ≡ l.initial.kept)
    × ((k : ℕ) (d : Root) → k < l.i → (slice_index_or l.kept.fs.others.items k d).owner ≢ l.sub)
