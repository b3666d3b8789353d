use Rattle.std.specs.Prelude.{◌≢◌, ◌<◌, ℕ, slice_index_or}
use Rattle.qg_image_changes.proofs.numbering.place_of_snapshot.Given as goal
use Rattle.qg_open_image.specs.declared.open_image.KeptSubvolume.{KeptSubvolume}

-- none of those in front is of the number
abbrev pub invariant-loop-i : goal.invariant-loop-i
invariant-loop-i l = (k : ℕ) (d : ℕ × KeptSubvolume) → k < l.i → (slice_index_or l.snapshots k d).0 ≢ l.sub
