-- What alternatives come to.
use Rattle.std.proofs.Common.{◌≡◌, Bool, true, false, Option, Some, None, refl}
use Rattle.std.specs.Prelude.{◌&&◌}
use Rattle.qg_image.specs.ItemMeaning.{◌orelse◌}

pub orelse-none : {A : Type 0} (o : Option A) → (o orelse None) ≡ o
orelse-none None = refl
orelse-none (Some x) = refl

pub and-false : (b : Bool) → (b && false) ≡ false
and-false true = refl
and-false false = refl
