-- The state that a sound image stands for (this project's own).
use Rattle.std.specs.Prelude.{◌≡◌, ℕ, List, Some}
use Rattle.qg_super.specs.declared.superblock.Super.{Super}
use Rattle.qg_image.specs.State.{State}
use Rattle.qg_image.specs.ImageState.{super_of, state_in}
use Rattle.qg_image.specs.Verdict.{IsSound}

-- the image is sound, and this is the state that it stands for: that of the superblock which counts
pub record StateOf (image : List ℕ) (state : State) : Type 0 where
  pub sound : IsSound image
  pub super : Super
  pub chosen : super_of image ≡ Some super
  pub stands : state ≡ state_in super image
