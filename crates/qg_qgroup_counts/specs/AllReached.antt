-- Elements that are told once each, however many subvolumes reach them (this project's own).
use Rattle.std.specs.Prelude.{ℕ, List, Contains, ◌==◌}
use Rattle.std.specs.List.{IsDistinct}
use Rattle.qg_image.specs.declared.element.Element.{Element}
use Rattle.qg_image.specs.State.{Layout}
use Rattle.qg_image.specs.Reach.{reach}

-- these are elements that lie apart, and all that a subvolume reaches is among them
pub record AreAllReached (layout : Layout) (elements : List Element) : Type 0 where
  pub apart : IsDistinct (λ a b. a.address == b.address) elements
  pub all : (sub : ℕ) (element : Element) → Contains (reach layout sub) element → Contains elements element
