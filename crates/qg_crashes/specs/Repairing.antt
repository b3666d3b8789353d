-- How far the repair of a superblock place came as an image was opened, and what a crash in its midst leaves (this
-- project's own).
use Rattle.std.specs.Prelude.{◌≡◌, ◌⊎◌, ℕ, ◌+◌, ◌≤◌, List, [], ◌∷◌, length, Some}
use Rattle.qg_device.specs.History.{Event, Wrote, Synced, content}
use Rattle.qg_super.specs.declared.superblock.Super.{Super}
use Rattle.qg_super.specs.Places.{first_place, second_place}
use Rattle.qg_super.specs.SuperText.{super_text}
use Rattle.qg_super.specs.NoChance.{super_bytes}
use Rattle.qg_image.specs.ImageState.{super_in, super_of}
use Rattle.qg_crashes.specs.Committing.{IsFrontOfEvents, Crashing}

-- The superblock that counts stands at one place and is written at the other, and made sure of. That came so far, on a
-- disk that reaches past both places and had made sure of all that it held.
pub record Repairing (before : List Event) (place other : ℕ) (super : Super) (after : List Event) : Type 0 where
  pub long : second_place + super_bytes ≤ length (content before)
  pub counts : super_of (content before) ≡ Some super
  pub stands : super_in (content before) other ≡ Some super
  pub so_far : IsFrontOfEvents (Wrote place (super_text place super) ∷ Synced ∷ []) (Synced ∷ before) after

-- at any moment the same superblock counts, whichever place is written
abbrev pub KeepsWhatCounts : Type 0
KeepsWhatCounts = (before after : List Event) (super : Super) (image : List ℕ) (moment : ℕ)
    → Repairing before first_place second_place super after ⊎ Repairing before second_place first_place super after
    → Crashing before after image moment → super_of image ≡ Some super
