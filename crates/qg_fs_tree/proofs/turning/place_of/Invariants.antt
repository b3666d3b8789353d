use Rattle.std.specs.Prelude.{◌≢◌, ◌<◌, ℕ, slice_index_or}
use Rattle.qg_tree_edits.specs.Tree.{Root}
use Rattle.qg_fs_tree.proofs.turning.place_of.Given as goal

-- none of the trees in front is that of the number
abbrev pub invariant-loop-i : goal.invariant-loop-i
invariant-loop-i l = (k : ℕ) (d : Root) → k < l.i → (slice_index_or l.trees k d).owner ≢ l.number
