-- That the device calls of a commit, and those of opening, are the writes and syncs of which the laws of qg_crashes
-- speak (this project's own).
use Rattle.std.specs.Prelude.{◌≡◌, ◌⊎◌, ◌≤◌, ℕ, All, IsTrue, List, ◌∷◌, length, None}
use Rattle.qg_device.specs.History.{Event, Recorded, Synced, content}
use Rattle.qg_node.specs.declared.node.Node.{Node}
use Rattle.qg_super.specs.declared.superblock.Super.{Super}
use Rattle.qg_super.specs.Places.{first_place, second_place, total_bytes}
use Rattle.qg_super.specs.SuperText.{is_super, sizes_of}
use Rattle.qg_image.specs.State.{State}
use Rattle.qg_image.specs.StateOf.{StateOf}
use Rattle.qg_crashes.specs.Repairing.{Repairing}
use Rattle.qg_crashes.specs.Slots.{IsInSlot, Writing, with_whole}
use Rattle.qg_crashes.specs.States.{IsMirrored}
use Rattle.qg_commit.specs.Calls.{commit_calls, with_commit, IsFrontOfCalls}
use Rattle.qg_commit.specs.Opened.{IsRepairing, stale_of}

-- ---- a commit

-- The calls of a commit of these nodes and this superblock came so far, on a disk that is as long as the image and had
-- made sure of all that it held.
pub record MakingCalls (before : List Event) (nodes : List Node) (super : Super) (after : List Event) : Type 0 where
  pub long : total_bytes (sizes_of super) ≤ length (content before)
  pub may_be_written : IsTrue (is_super super)
  pub in_slots : All (IsInSlot super) nodes
  pub so_far : IsFrontOfCalls (commit_calls super nodes) (Synced ∷ before) after

-- so a commit of nodes in slots came so far
abbrev pub CallsWrite : Type 0
CallsWrite = (before : List Event) (nodes : List Node) (super : Super) (after : List Event)
    → MakingCalls before nodes super after
    → Writing before nodes super after

-- all its calls do what the whole commit does
abbrev pub CallsAreWhole : Type 0
CallsAreWhole = (before : List Event) (nodes : List Node) (super : Super)
    → with_commit super nodes (Synced ∷ before) ≡ with_whole nodes super before

-- ---- opening

-- where opening writes a stale place of a disk that is as long as the image, the superblock that counts stands at the
-- other one
abbrev pub OpeningRepairs : Type 0
OpeningRepairs = (events after : List Event) (opening : IsRepairing events (Recorded after))
    → total_bytes (sizes_of opening.super) ≤ length (content events)
    → Repairing events first_place second_place opening.super after
    ⊎ Repairing events second_place first_place opening.super after

-- where no place of an image is stale, both hold the superblock that counts
abbrev pub NoneStaleMirrors : Type 0
NoneStaleMirrors = (image : List ℕ) (state : State) → StateOf image state → stale_of image ≡ None
    → IsMirrored state image
