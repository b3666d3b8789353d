-- What a crash leaves of a disk where it does the same to all that no sync had made sure of (this project's own).
use Rattle.std.specs.Prelude.{ℕ, List, [], ◌∷◌, ◌++◌, take}
use Rattle.qg_device.specs.History.{Event, Wrote, Tore, Cut, CutShort, Synced, content, overlay, torn}
use Rattle.qg_disk.specs.declared.tear.Tear.{Tear}
use Rattle.qg_disk.specs.declared.tear.Tear.TheVariants.{Old, New, Split}

-- what a write leaves of what was there before: all of that, its own bytes over it, or the first n of these
abbrev pub with_write : Tear → ℕ → List ℕ → List ℕ → List ℕ
with_write Old at bytes old = old
with_write New at bytes old = overlay at bytes old
with_write (Split n) at bytes old = torn at (take n bytes) old

-- so does one that failed, of the bytes that it left
abbrev pub with_torn : Tear → ℕ → List ℕ → List ℕ → List ℕ
with_torn Old at left old = old
with_torn New at left old = torn at left old
with_torn (Split n) at left old = torn at (take n left) old

-- what a cut leaves that left bytes behind its length: all that was there before, or what is in front of the length
-- with these bytes or the first n of them
abbrev pub with_cut : Tear → ℕ → List ℕ → List ℕ → List ℕ
with_cut Old len left old = old
with_cut New len left old = take len old ++ left
with_cut (Split n) len left old = take len old ++ take n left

-- what an event leaves of what was there before
abbrev pub with_tear : Tear → Event → List ℕ → List ℕ
with_tear tear (Wrote at bytes) old = with_write tear at bytes old
with_tear tear (Tore at asked left) old = with_torn tear at left old
with_tear tear (Cut len) old = with_cut tear len [] old
with_tear tear (CutShort len left) old = with_cut tear len left old
with_tear tear Synced old = old

-- what a crash leaves after these events, the newest first: what the disk held at the last sync, and of each event
-- since then what the tear says
abbrev pub crashed : Tear → List Event → List ℕ
crashed tear [] = []
crashed tear (Wrote at bytes ∷ older) = with_tear tear (Wrote at bytes) (crashed tear older)
crashed tear (Tore at asked left ∷ older) = with_tear tear (Tore at asked left) (crashed tear older)
crashed tear (Cut len ∷ older) = with_tear tear (Cut len) (crashed tear older)
crashed tear (CutShort len left ∷ older) = with_tear tear (CutShort len left) (crashed tear older)
crashed tear (Synced ∷ older) = content older
