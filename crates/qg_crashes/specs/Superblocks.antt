-- Which superblock of an image counts that a crash left in the midst of a commit (this project's own).
use Rattle.std.specs.Prelude.{◌≡◌, ◌⊎◌, ℕ, ◌+◌, ◌<◌, ◌≤◌, List, Some, IsSome}
use Rattle.qg_device.specs.History.{Event, content}
use Rattle.qg_super.specs.declared.superblock.Super.{Super}
use Rattle.qg_super.specs.Places.{first_place, second_place}
use Rattle.qg_image.specs.ImageState.{super_in, super_of}
use Rattle.qg_crashes.specs.Committing.{Committing, Crashing, nodes_synced}

-- one of the two places of the image is valid, where the second one was as the commit began
abbrev pub LeavesAValidOne : Type 0
LeavesAValidOne = (before nodes after : List Event) (super : Super) (image : List ℕ) (moment : ℕ)
    → Committing before nodes super after → Crashing before after image moment
    → IsSome (super_in (content before) second_place)
    → IsSome (super_in image first_place) ⊎ IsSome (super_in image second_place)

-- as a commit begins, both places hold one superblock, and that of the commit has a greater generation
pub record Replaces (old super : Super) (content : List ℕ) : Type 0 where
  pub first : super_in content first_place ≡ Some old
  pub second : super_in content second_place ≡ Some old
  pub later : old.generation < super.generation

-- the superblock that counts is the one from before the commit, or the commit's
abbrev pub LeavesOldOrNew : Type 0
LeavesOldOrNew = (before nodes after : List Event) (old super : Super) (image : List ℕ) (moment : ℕ)
    → Committing before nodes super after → Crashing before after image moment → Replaces old super (content before)
    → (super_of image ≡ Some old) ⊎ (super_of image ≡ Some super)

-- until the write of the first place begins, it is the one from before
abbrev pub LeavesTheOld : Type 0
LeavesTheOld = (before nodes after : List Event) (old super : Super) (image : List ℕ) (moment : ℕ)
    → Committing before nodes super after → Crashing before after image moment → Replaces old super (content before)
    → moment ≤ nodes_synced before nodes → super_of image ≡ Some old

-- from the sync of the first place on, it is the commit's
abbrev pub LeavesTheNew : Type 0
LeavesTheNew = (before nodes after : List Event) (old super : Super) (image : List ℕ) (moment : ℕ)
    → Committing before nodes super after → Crashing before after image moment → Replaces old super (content before)
    → nodes_synced before nodes + 2 ≤ moment → super_of image ≡ Some super
