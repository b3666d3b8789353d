-- The superblock at a place of an image.
use Rattle.std.proofs.Common.{◌≡◌, ◌≢◌, ℕ, ◌+◌, ◌-◌, ◌<◌, List, length, drop, None, refl, ap, ◌∙◌, arith, length-drop}
use Rattle.std.specs.Prelude.{slice_range}
use Rattle.std.proofs.lemmas.List.{length-take}
use Rattle.qg_device.specs.History.{range}
use Rattle.qg_super.specs.SuperText.{super_read}
use Rattle.qg_super.proofs.SuperTexts.{super_read-no_length}
use Rattle.qg_image.specs.ImageState.{super_in}

-- a range of an image, said by its end or by its length
pub slice_range-range : (image : List ℕ) (place n : ℕ) → slice_range image place (place + n) ≡ range place n image
slice_range-range image place n =
    let long : place + n - place ≡ n = omega arith in
    rw long refl

not_whole : (image : List ℕ) (place : ℕ) → length image < place + 4096 → length (range place 4096 image) ≢ 4096
not_whole image place short =
    λ long. absurd (omega (arith, long, length-take 4096 (drop place image), length-drop place image))

-- an image that ends before the place does has none there
pub super_in-short : (image : List ℕ) (place : ℕ) → length image < place + 4096 → super_in image place ≡ None
super_in-short image place short =
    ap (super_read place) (slice_range-range image place 4096)
    ∙ super_read-no_length place (range place 4096 image) (not_whole image place short)

-- what is read from the range is what the image has there
pub super_in-range : (image : List ℕ) (place : ℕ) (bytes : List ℕ) → bytes ≡ range place 4096 image
    → super_read place bytes ≡ super_in image place
super_in-range image place bytes is = ap (super_read place) (is ∙ (rw (slice_range-range image place 4096) refl))
