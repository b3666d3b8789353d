-- What every image that a crash may leave holds at two places of n bytes, p and behind it q.
use Rattle.std.proofs.Common.{◌≡◌, ◌∙◌, ℕ, ◌+◌, ◌≤◌, min, max, List, ◌∷◌, length, sym, ap, subst, arith}
use Rattle.qg_device.specs.History.{Event, Wrote, Tore, Synced, content, overlay, range}
use Rattle.qg_device.specs.Crash.{Torn, Leaves}
use Rattle.qg_disk.proofs.Images.{Torn-overlay, Leaves-content}
use Rattle.qg_disk.proofs.Sizes.{length-overlay}
use Rattle.qg_crashes.proofs.Ranges.{range-overlay, range-torn}

-- the image reaches past both places, and holds these bytes there
pub record Holds (p q n : ℕ) (first second image : List ℕ) : Type 0 where
  pub order : p + n ≤ q
  pub long : q + n ≤ length image
  pub at_first : range p n image ≡ first
  pub at_second : range q n image ≡ second

-- every image that a crash after these events may leave does
pub record Settled (p q n : ℕ) (first second : List ℕ) (events : List Event) : Type 0 where
  pub each : (image : List ℕ) → Leaves events image → Holds p q n first second image

-- what the disk holds is one of them
pub Settled-content : (p q n : ℕ) (first second : List ℕ) (events : List Event) → Settled p q n first second events
    → Holds p q n first second (content events)
Settled-content p q n first second events settled = settled.each (content events) (Leaves-content events)

-- a range that meets neither place
pub record Apart (p q n at m : ℕ) : Type 0 where
  pub from_first : min (p + n) (at + m) ≤ max p at
  pub from_second : min (q + n) (at + m) ≤ max q at

-- it may be torn
Holds-torn : (p q n at m : ℕ) (first second old new : List ℕ) → Apart p q n at m → Torn at m old new
    → Holds p q n first second old → Holds p q n first second new
Holds-torn p q n at m first second old new apart torn holds = record {
  order = holds.order;
  long = omega (arith, torn.no_shorter, holds.long);
  at_first = range-torn at m p n old new torn (omega (arith, holds.order, holds.long)) apart.from_first
      ∙ holds.at_first;
  at_second = range-torn at m q n old new torn holds.long apart.from_second ∙ holds.at_second;
}

pub Settled-wrote : (p q n at : ℕ) (bytes first second : List ℕ) (events : List Event) → Apart p q n at (length bytes)
    → Settled p q n first second events → Settled p q n first second (Wrote at bytes ∷ events)
Settled-wrote p q n at bytes first second events apart settled = record {
  each = λ image left. Holds-torn p q n at (length bytes) first second left.0 image apart left.2
      (settled.each left.0 left.1);
}

pub Settled-tore : (p q n at : ℕ) (asked some first second : List ℕ) (events : List Event) → length some ≤ length asked
    → Apart p q n at (length asked)
    → Settled p q n first second events → Settled p q n first second (Tore at asked some ∷ events)
Settled-tore p q n at asked some first second events fits apart settled =
    let m = max (length asked) (length some) in
    let same : m ≡ length asked = omega arith in
    let still : Apart p q n at m = subst (λ (k : ℕ). Apart p q n at k) (sym same) apart in
    record {
      each = λ image left. Holds-torn p q n at m first second left.0 image still left.2
          (settled.each left.0 left.1);
    }

-- a sync leaves what the disk holds
pub Settled-synced : (p q n : ℕ) (first second : List ℕ) (events : List Event)
    → Holds p q n first second (content events) → Settled p q n first second (Synced ∷ events)
Settled-synced p q n first second events holds =
    record { each = λ image left. subst (Holds p q n first second) (sym left) holds }

-- ---- one of the places is written

-- of the first, whole or torn: the second place is as it was
pub second_stays : (p q n m : ℕ) (first second old new : List ℕ) → m ≡ n → Torn p m old new
    → Holds p q n first second old
    → range q n new ≡ second
second_stays p q n m first second old new long torn holds =
    range-torn p m q n old new torn holds.long (omega (arith, holds.order)) ∙ holds.at_second

-- of the second, whole or torn: the first place is as it was
pub first_stays : (p q n m : ℕ) (first second old new : List ℕ) → m ≡ n → Torn q m old new
    → Holds p q n first second old
    → range p n new ≡ first
first_stays p q n m first second old new long torn holds =
    range-torn q m p n old new torn (omega (arith, holds.order, holds.long)) (omega (arith, holds.order))
    ∙ holds.at_first

-- what the disk holds then
pub Holds-first : (p q n : ℕ) (bytes first second old : List ℕ) → length bytes ≡ n → Holds p q n first second old
    → Holds p q n bytes second (overlay p bytes old)
Holds-first p q n bytes first second old long holds = record {
  order = holds.order;
  long = omega (arith, length-overlay p bytes old, holds.long);
  at_first = sym (ap (λ (k : ℕ). range p k (overlay p bytes old)) long) ∙ range-overlay p bytes old;
  at_second = second_stays p q n (length bytes) first second old (overlay p bytes old) long
      (Torn-overlay p (length bytes) bytes old (omega arith)) holds;
}

pub Holds-second : (p q n : ℕ) (bytes first second old : List ℕ) → length bytes ≡ n → Holds p q n first second old
    → Holds p q n first bytes (overlay q bytes old)
Holds-second p q n bytes first second old long holds = record {
  order = holds.order;
  long = omega (arith, length-overlay q bytes old, holds.long);
  at_first = first_stays p q n (length bytes) first second old (overlay q bytes old) long
      (Torn-overlay q (length bytes) bytes old (omega arith)) holds;
  at_second = sym (ap (λ (k : ℕ). range q k (overlay q bytes old)) long) ∙ range-overlay q bytes old;
}
