-- What every image that a crash may leave holds where no event since a sync has touched it.
use Rattle.std.proofs.Common.{◌≡◌, ◌∙◌, ℕ, suc, ◌+◌, ◌≤◌, ◌<◌, min, max, false, List, [], ◌∷◌, ◌++◌, length, refl, sym}
use Rattle.std.proofs.Common.{subst, arith}
use Rattle.std.specs.Prelude.{All}
use Rattle.std.proofs.lemmas.Bool.{ltb-false}
use Rattle.std.proofs.lemmas.Grind.{same_number_lists}
use Rattle.qg_device.specs.History.{Event, Wrote, Tore, Cut, CutShort, Synced, content, range}
use Rattle.qg_device.specs.Crash.{Torn, Shortened, Leaves}
use Rattle.qg_device.specs.LastWrite.{meets}
use Rattle.qg_disk.proofs.Images.{Leaves-content}
use Rattle.qg_crashes.specs.Unwritten.{Spares, SparedStays}
use Rattle.qg_crashes.proofs.Ranges.{length-range, get_or-range, range-torn}

-- the image has these n bytes
pub record Has (place n : ℕ) (bytes image : List ℕ) : Type 0 where
  pub long : place + n ≤ length image
  pub is : range place n image ≡ bytes

-- a cut behind a range leaves it
range-shortened : (len behind place n : ℕ) (old new : List ℕ) → Shortened len behind old new → place + n ≤ len
    → place + n ≤ length old
    → range place n new ≡ range place n old
range-shortened len behind place n old new cut spared within =
    let fits : place + n ≤ length new = omega (arith, cut.no_shorter) in
    let many : length (range place n new) ≡ n = length-range place n new fits in
    let long : length (range place n new) ≡ length (range place n old) = many ∙ sym (length-range place n old within) in
    same_number_lists (range place n new) (range place n old) long
    (λ k below.
    let inside : k < n = omega arith in
    get_or-range place n k new inside ∙ cut.same (place + k) (omega arith) (omega arith)
    ∙ sym (get_or-range place n k old inside))

Has-torn : (place n at m : ℕ) (bytes old new : List ℕ) → meets place n at m ≡ false → Torn at m old new
    → Has place n bytes old → Has place n bytes new
Has-torn place n at m bytes old new spared torn has = record {
  long = omega (arith, torn.no_shorter, has.long);
  is = range-torn at m place n old new torn has.long (ltb-false (max place at) (min (place + n) (at + m)) spared)
      ∙ has.is;
}

Has-shortened : (place n len behind : ℕ) (bytes old new : List ℕ) → place + n ≤ len → Shortened len behind old new
    → Has place n bytes old → Has place n bytes new
Has-shortened place n len behind bytes old new spared cut has = record {
  long = omega (arith, cut.no_shorter, has.long);
  is = range-shortened len behind place n old new cut spared has.long ∙ has.is;
}

-- every image that may be left has them, event by event
pub has_spared : (place n : ℕ) (bytes : List ℕ) (newer older : List Event) (image : List ℕ) → All (Spares place n) newer
    → Has place n bytes (content older)
    → Leaves (newer ++ Synced ∷ older) image → Has place n bytes image
has_spared place n bytes [] older image spared has left = subst (Has place n bytes) (sym left) has
has_spared place n bytes (Wrote at written ∷ newer) older image spared has left =
    let rest : All (Spares place n) newer = λ i d below. spared (suc i) d (omega arith) in
    Has-torn place n at (length written) bytes left.0 image (spared 0 (Wrote at written) (omega arith)) left.2
    (has_spared place n bytes newer older left.0 rest has left.1)
has_spared place n bytes (Tore at asked some ∷ newer) older image spared has left =
    let rest : All (Spares place n) newer = λ i d below. spared (suc i) d (omega arith) in
    Has-torn place n at (max (length asked) (length some)) bytes left.0 image
    (spared 0 (Tore at asked some) (omega arith)) left.2
    (has_spared place n bytes newer older left.0 rest has left.1)
has_spared place n bytes (Cut len ∷ newer) older image spared has left =
    let rest : All (Spares place n) newer = λ i d below. spared (suc i) d (omega arith) in
    Has-shortened place n len 0 bytes left.0 image (spared 0 (Cut len) (omega arith)) left.2
    (has_spared place n bytes newer older left.0 rest has left.1)
has_spared place n bytes (CutShort len some ∷ newer) older image spared has left =
    let rest : All (Spares place n) newer = λ i d below. spared (suc i) d (omega arith) in
    Has-shortened place n len (length some) bytes left.0 image (spared 0 (CutShort len some) (omega arith)) left.2
    (has_spared place n bytes newer older left.0 rest has left.1)
has_spared place n bytes (Synced ∷ newer) older image spared has left =
    let rest : All (Spares place n) newer = λ i d below. spared (suc i) d (omega arith) in
    let before = newer ++ Synced ∷ older in
    subst (Has place n bytes) (sym left) (has_spared place n bytes newer older (content before) rest has
    (Leaves-content before))

pub spared_stays : SparedStays
spared_stays place n newer older image spared long left =
    (has_spared place n (range place n (content older)) newer older image spared (record { long = long; is = refl })
    left).is
