-- What bytes stand at a place of a disk, once bytes were written.
use Rattle.std.proofs.Common.{◌≡◌, ℕ, ◌+◌, ◌-◌, ◌≤◌, ◌⊎◌, List, length, ◌∙◌, arith}
use Rattle.std.specs.Prelude.{slice_range}
use Rattle.qg_device.specs.History.{overlay, range}
use Rattle.qg_disk.proofs.Sizes.{length-overlay}
use Rattle.qg_blocks.proofs.Ranges.{range-overlay_apart, range-overlay_same}

-- an image has these bytes at a place
pub record HasRange (image : List ℕ) (place : ℕ) (bytes : List ℕ) : Type 0 where
  pub inside : place + length bytes ≤ length image
  pub is : range place (length bytes) image ≡ bytes

-- what was written stands there
pub written-HasRange : (at : ℕ) (bytes old : List ℕ) → HasRange (overlay at bytes old) at bytes
written-HasRange at bytes old = record {
  inside = omega (arith, length-overlay at bytes old);
  is = range-overlay_same at bytes old;
}

-- what stood apart from it stands
pub kept-HasRange : (at place : ℕ) (bytes kept old : List ℕ) → (place + length kept ≤ at) ⊎ (at + length bytes ≤ place)
    → HasRange old place kept → HasRange (overlay at bytes old) place kept
kept-HasRange at place bytes kept old apart has = record {
  inside = let within : place + length kept ≤ length old = has.inside in omega (arith, length-overlay at bytes old);
  is = range-overlay_apart at place (length kept) bytes old has.inside apart ∙ has.is;
}

-- the bytes from a place on where they are known
pub range-slice_range : (image : List ℕ) (place n : ℕ) (bytes : List ℕ) → length bytes ≡ n → HasRange image place bytes
    → slice_range image place (place + n) ≡ bytes
range-slice_range image place n bytes long has =
    let behind : place + n - place ≡ length bytes = omega arith in
    rw behind has.is
