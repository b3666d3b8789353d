-- The rule `space` on one extent (this project's own).
use Rattle.std.specs.Prelude.{◌+◌, Bool, true, ◌&&◌, List, [], ◌∷◌, nat_le}
use Rattle.qg_super.specs.declared.sizes.Sizes.{Sizes}
use Rattle.qg_image.specs.declared.element.Element.{Element}
use Rattle.qg_image.specs.Verdict.{is_extent}

-- the first of some extents lies where it may and ends by the next one
abbrev pub first_fits : Sizes → List Element → Bool
first_fits sizes [] = true
first_fits sizes (extent ∷ []) = is_extent sizes extent
first_fits sizes (extent ∷ next ∷ later) = is_extent sizes extent && nat_le (extent.address + extent.bytes) next.address
