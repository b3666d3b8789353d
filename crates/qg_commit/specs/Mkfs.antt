-- What `mkfs` leaves (this project's own).
use Rattle.std.specs.Prelude.{◌≡◌, ℕ, List}
use Rattle.qg_device.specs.History.{Event, History, Recorded, content}
use Rattle.qg_super.specs.declared.sizes.Sizes.{Sizes}
use Rattle.qg_super.specs.Places.{slot_at}
use Rattle.qg_image.specs.State.{State}
use Rattle.qg_image.specs.StateOf.{StateOf}
use Rattle.qg_image.specs.IsFresh.{IsFresh}
use Rattle.qg_commit.specs.Calls.{MadeFront, unsure_image_calls}
use Rattle.qg_commit.specs.Fresh.{fresh_nodes, fresh_super}

-- the image is sound, and its state is fresh for the sizes
pub record IsFreshImage (sizes : Sizes) (image : List ℕ) : Type 0 where
  pub state : State
  pub stands : StateOf image state
  pub fresh : IsFresh sizes state

-- a disk with this history holds such an image
pub record HoldsFreshImage (sizes : Sizes) (history : History) : Type 0 where
  pub events : List Event
  pub told : history ≡ Recorded events
  pub image : IsFreshImage sizes (content events)

-- An image of these sizes was not made: over a disk that tells what was done to it, some of its calls were made, from
-- the first on, or none. The last of those may have failed; the last sync is not among them.
abbrev pub StopsMaking : Sizes → History → History → Type 0
StopsMaking sizes before after = (events : List Event) → before ≡ Recorded events
    → MadeFront (unsure_image_calls (fresh_super sizes (slot_at sizes 0)) (fresh_nodes sizes)) events after
