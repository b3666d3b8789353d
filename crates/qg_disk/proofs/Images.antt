-- What a disk holds is one of the images that a crash now may leave.
use Rattle.std.proofs.Common.{◌∙◌, ℕ, ◌≤◌, max, List, [], ◌∷◌, ◌++◌, length, take, refl, arith, inl, inr, length-append}
use Rattle.std.proofs.lemmas.List.{length-take, get_or-take, get_or_append_left}
use Rattle.qg_device.specs.History.{Event, Wrote, Tore, Cut, CutShort, Synced, content, overlay, torn}
use Rattle.qg_device.specs.Crash.{Torn, Shortened, Leaves}
use Rattle.qg_disk.proofs.Overlay.{get_or-overlay_before, get_or-overlay_after}
use Rattle.qg_disk.proofs.Sizes.{length-overlay}

-- a write changes its range alone, whatever stood there
pub Torn-overlay : (at n : ℕ) (bytes old : List ℕ) → length bytes ≤ n → Torn at n old (overlay at bytes old)
Torn-overlay at n bytes old fits = record {
  same = λ place inside apart. elim apart [
    | inl before ↦ get_or-overlay_before at place bytes old before
    | inr past ↦ get_or-overlay_after at place bytes old (omega arith)
  ];
  no_shorter = omega (arith, length-overlay at bytes old);
  no_longer = omega (arith, length-overlay at bytes old);
}

-- so does one that failed
pub Torn-torn : (at n : ℕ) (left old : List ℕ) → length left ≤ n → Torn at n old (torn at left old)
Torn-torn at n [] old fits = record {
  same = λ place inside apart. refl;
  no_shorter = omega arith;
  no_longer = omega arith;
}
Torn-torn at n (byte ∷ bytes) old fits = Torn-overlay at n (byte ∷ bytes) old fits

-- a cut that failed keeps what is in front of its length
pub Shortened-cut : (len : ℕ) (left old : List ℕ) → Shortened len (length left) old (take len old ++ left)
Shortened-cut len left old = record {
  same = λ place before inside.
      get_or_append_left (take len old) left 0 place (omega (arith, length-take len old))
      ∙ get_or-take len old place 0 before;
  no_shorter = omega (arith, length-append (take len old) left, length-take len old);
  no_longer = omega (arith, length-append (take len old) left, length-take len old);
}

-- so does a cut
Shortened-take : (len : ℕ) (old : List ℕ) → Shortened len 0 old (take len old)
Shortened-take len old = record {
  same = λ place before inside. get_or-take len old place 0 before;
  no_shorter = omega (arith, length-take len old);
  no_longer = omega (arith, length-take len old);
}

-- nothing that was written needs to be lost
pub Leaves-content : (events : List Event) → Leaves events (content events)
Leaves-content [] = refl
Leaves-content (Wrote at bytes ∷ older) =
    (content older, Leaves-content older, Torn-overlay at (length bytes) bytes (content older) (omega arith))
Leaves-content (Tore at asked left ∷ older) = (
  content older,
  Leaves-content older,
  Torn-torn at (max (length asked) (length left)) left (content older)
      (omega arith),
)
Leaves-content (Cut len ∷ older) = (content older, Leaves-content older, Shortened-take len (content older))
Leaves-content (CutShort len left ∷ older) =
    (content older, Leaves-content older, Shortened-cut len left (content older))
Leaves-content (Synced ∷ older) = refl
