-- What a buffer has between two places.
use Rattle.std.proofs.Common.{◌≡◌, ℕ, ◌+◌, ◌-◌, ◌≤◌, min, List, ◌++◌, length, Option, take, drop, sym, ap, ◌∙◌, inl}
use Rattle.std.proofs.Common.{inr, arith}
use Rattle.std.specs.List.{slice_range}
use Rattle.std.specs.Io.KnownBytes.{prepend_known, IsAtEnd}
use Rattle.std.proofs.Math.Seq.{take-add}
use Rattle.std.proofs.lemmas.Bool.{cases_lt}
use Rattle.std.proofs.lemmas.List.{drop-drop, drop_all, length-take, take-take}
use Rattle.std.proofs.lemmas.List.Edits.{length-between}
use Rattle.std.proofs.lemmas.Slice.{between_is}
use Rattle.qg_script.specs.Feeding.{Feeding, handed_out, TakesMore}

-- it is the same where all bytes up to the later place are
pub same_between : (xs ys : List ℕ) (start end : ℕ) → take end ys ≡ take end xs
    → slice_range ys start end ≡ slice_range xs start end
same_between xs ys start end same = between_is ys start end ∙ ap (drop start) same ∙ sym (between_is xs start end)

-- its first bytes
pub first_between : (xs : List ℕ) (start end count : ℕ) → count ≤ end - start
    → slice_range xs start (start + count) ≡ take count (slice_range xs start end)
first_between xs start end count within =
    let size : start + count - start ≡ count = omega arith in
    ap (λ (n : ℕ). take n (drop start xs)) size ∙ sym (take-take count (end - start) (drop start xs) within)

drop-min : (xs : List ℕ) (end place : ℕ) → drop (min end place) (take end xs) ≡ drop place (take end xs)
drop-min xs end place = elim (cases_lt place end) [
  | inl before ↦ let least : min end place ≡ place = omega arith in ap (λ (n : ℕ). drop n (take end xs)) least
  | inr past ↦
      let least : min end place ≡ end = omega arith in
      ap (λ (n : ℕ). drop n (take end xs)) least
      ∙ drop_all end (take end xs) (omega (arith, length-take end xs))
      ∙ sym (drop_all place (take end xs) (omega (arith, length-take end xs)))
]

-- what is behind its first bytes, if it has so many
pub rest_between : (xs : List ℕ) (start end count : ℕ)
    → slice_range xs (min end (start + count)) end ≡ drop count (slice_range xs start end)
rest_between xs start end count =
    between_is xs (min end (start + count)) end
    ∙ drop-min xs end (start + count)
    ∙ sym (drop-drop count start (take end xs))
    ∙ ap (drop count) (sym (between_is xs start end))

-- some bytes more behind it
pub more_between : (xs : List ℕ) (start end count : ℕ) → start ≤ end
    → slice_range xs start (end + count) ≡ slice_range xs start end ++ slice_range xs end (end + count)
more_between xs start end count order =
    let whole : end + count - start ≡ (end - start) + count = omega arith in
    let size : end + count - end ≡ count = omega arith in
    let place : start + (end - start) ≡ end = omega arith in
    ap (λ (n : ℕ). take n (drop start xs)) whole
    ∙ take-add (end - start) count (drop start xs)
    ∙ ap (λ (ys : List ℕ). slice_range xs start end ++ take count ys) (drop-drop (end - start) start xs
    ∙ ap (λ (n : ℕ). drop n xs) place)
    ∙ ap (λ (n : ℕ). slice_range xs start end ++ take n (drop end xs)) (sym size)

-- a feed by what its buffer has between two places
abbrev pub fed : ℕ → List ℕ → ℕ → ℕ → Feeding
fed taken xs start end = record { taken = taken; rest = slice_range xs start end }

-- what is held moved, and nothing was taken
pub fed-same : (old : Feeding) (taken : ℕ) (xs ys zs : List ℕ) (from to start end : ℕ) → fed taken xs from to ≡ old
    → slice_range ys start end ≡ slice_range xs from to
    → take end zs ≡ take end ys → fed taken zs start end ≡ old
fed-same old taken xs ys zs from to start end is moved before =
    ap (λ (rest : List ℕ). let feeding : Feeding = record { taken = taken; rest = rest } in
    feeding) (same_between ys zs start end before ∙ moved) ∙ is

-- what is held moved, and some bytes more were taken behind it
pub fed-more : (old : Feeding) (taken : ℕ) (xs ys zs : List ℕ) (from to start end count : ℕ)
    (before after : Option (List ℕ)) → fed taken xs from to ≡ old
    → slice_range ys start end ≡ slice_range xs from to → take end zs ≡ take end ys → start ≤ end
    → end + count ≤ length zs
    → before ≡ prepend_known (slice_range zs end (end + count)) after → (count ≡ 0 → IsAtEnd before)
    → TakesMore old (fed (taken + count) zs start (end + count)) before after count
fed-more old taken xs ys zs from to start end count before after is moved same order bound took none =
    let held = fed-same old taken xs ys zs from to start end is moved same in
    record {
      bytes = slice_range zs end (end + count);
      as_many = length-between zs end (end + count) bound ∙ omega arith;
      taken = ap (λ (feeding : Feeding). feeding.taken + count) held;
      rest = more_between zs start end count order
          ∙ ap (λ (feeding : Feeding). feeding.rest ++ slice_range zs end (end + count)) held;
      left = took;
      none_only_at_end = none;
    }

-- a line was handed out, and the newline behind it, if one is held
pub fed-handed_out : (old : Feeding) (taken : ℕ) (xs : List ℕ) (from to place end : ℕ) → fed taken xs from to ≡ old
    → place ≡ min to (from + end + 1)
    → fed taken xs place to ≡ handed_out old end
fed-handed_out old taken xs from to place end is least =
    let next : from + end + 1 ≡ from + (end + 1) = omega arith in
    ap (λ (n : ℕ). fed taken xs n to) (least ∙ ap (min to) next)
    ∙ ap (λ (rest : List ℕ). let feeding : Feeding = record { taken = taken; rest = rest } in
    feeding) (rest_between xs from to (end + 1))
    ∙ ap (λ (feeding : Feeding). handed_out feeding end) is

-- and this is the line
pub fed-line : (old : Feeding) (taken : ℕ) (xs : List ℕ) (from to end : ℕ) → fed taken xs from to ≡ old
    → end ≤ length old.rest → to ≤ length xs
    → slice_range xs from (from + end) ≡ take end old.rest
fed-line old taken xs from to end is within bound =
    let size = length-between xs from to bound in
    let low : end ≤ to - from = omega (arith, ap (λ (feeding : Feeding). length feeding.rest) is) in
    first_between xs from to end low ∙ ap (λ (feeding : Feeding). take end feeding.rest) is
