-- An image stands for a state by what it has where the state's nodes lie, and by its superblocks (this project's own).
-- Addresses are in bytes.
use Rattle.std.specs.Prelude.{◌≡◌, ℕ, ◌≤◌, List, length, Some, Contains, IsTrue}
use Rattle.qg_super.specs.declared.superblock.Super.{Super}
use Rattle.qg_super.specs.Places.{first_place, second_place, total_bytes}
use Rattle.qg_super.specs.SuperText.{sizes_of}
use Rattle.qg_image.specs.State.{State}
use Rattle.qg_image.specs.ImageState.{super_in, super_of}
use Rattle.qg_image.specs.StateOf.{StateOf}
use Rattle.qg_image.specs.Verdict.{are_mirrored}
use Rattle.qg_image.specs.Walk.{node_found}

-- The same superblock counts in another image, which is as long as it says and holds no other superblock of that
-- generation. And at each address at which the state holds a node, what stands there is what stood there
pub record HasWhatIsHeld (super : Super) (state : State) (image other : List ℕ) : Type 0 where
  pub counts : super_of other ≡ Some super
  pub long : total_bytes (sizes_of super) ≤ length other
  pub mirrored : IsTrue (are_mirrored (super_in other first_place) (super_in other second_place))
  pub found : (address : ℕ) → Contains state.held.nodes address
      → node_found super other address ≡ node_found super image address

-- such an image stands for the state that the first one stands for: nothing else is read of it
abbrev pub ReadsWhatIsHeld : Type 0
ReadsWhatIsHeld = (state : State) (image other : List ℕ) (stands : StateOf image state)
    → HasWhatIsHeld stands.super state image other → StateOf other state
