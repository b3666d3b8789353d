-- Portions that tell what begins in a layout: of each element its bytes, and the set of the subvolumes that reach it
-- (this project's own).
use Rattle.std.specs.Prelude.{◌≡◌, ⊤, ℕ, List, [], ◌∷◌, Some, slice_get}
use Rattle.qg_image.specs.declared.element.Element.{Element}
use Rattle.qg_image.specs.State.{Layout}
use Rattle.qg_image.specs.Reach.{reaches}
use Rattle.qg_qgroup_counts.specs.declared.counting.Portion.{Portion}
use Rattle.qg_qgroup_counts.specs.Portions.{is_in}

-- a portion has an element's bytes, and its set has the root at an index exactly where that subvolume reaches the
-- element
pub record IsPortionOf (layout : Layout) (rows : List (List ℕ)) (element : Element) (portion : Portion) : Type 0 where
  pub bytes : portion.bytes ≡ element.bytes
  pub reached : (index : ℕ) (root : ℕ × ℕ) → slice_get layout.roots index ≡ Some root
      → is_in rows index portion.set ≡ reaches layout root.0 element.address

-- so it is of elements, one by one
abbrev pub ArePortionsOf : Layout → List (List ℕ) → List Element → List Portion → Type 0
ArePortionsOf layout rows [] [] = ⊤
ArePortionsOf layout rows [] (portion ∷ portions) = ⊥
ArePortionsOf layout rows (element ∷ elements) [] = ⊥
ArePortionsOf layout rows (element ∷ elements) (portion ∷ portions) =
    IsPortionOf layout rows element portion × ArePortionsOf layout rows elements portions
