-- How far a commit came that writes both superblocks (this project's own). Places are in bytes.
use Rattle.std.specs.Prelude.{◌≡◌, ◌⊎◌, ℕ, ◌+◌, ◌≤◌, false, All, IsTrue, List, [], ◌∷◌, ◌++◌, length}
use Rattle.qg_device.specs.History.{Event, Wrote, Tore, Cut, CutShort, Synced, content}
use Rattle.qg_device.specs.CrashSince.{LeavesSince}
use Rattle.qg_device.specs.LastWrite.{meets}
use Rattle.qg_super.specs.declared.superblock.Super.{Super}
use Rattle.qg_super.specs.Places.{first_place, second_place}
use Rattle.qg_super.specs.SuperText.{super_text, is_super}
use Rattle.qg_super.specs.NoChance.{super_bytes, NoChanceSince}

-- the event is a write that is to no byte of either superblock place
abbrev pub IsApart : Event → Type 0
IsApart (Wrote at bytes) = (meets first_place super_bytes at (length bytes) ≡ false)
    × (meets second_place super_bytes at (length bytes) ≡ false)
IsApart (Tore at asked left) = ⊥
IsApart (Cut len) = ⊥
IsApart (CutShort len left) = ⊥
IsApart Synced = ⊥

-- both superblocks are written, the oldest event first: a sync, the first place, a sync, the second place, a sync
abbrev pub superblock_events : Super → List Event
superblock_events super =
    Synced ∷ Wrote first_place (super_text first_place super) ∷ Synced ∷ Wrote second_place
    (super_text second_place super) ∷ Synced ∷ []

-- what a commit does: its nodes are written, and then both superblocks
abbrev pub commit_events : List Event → Super → List Event
commit_events nodes super = nodes ++ superblock_events super

-- a write or a sync failed: a write left some bytes at its place, no more than were asked; a sync did nothing
abbrev pub FailsAfter : Event → List Event → List Event → Type 0
FailsAfter (Wrote at bytes) events after = (left : List ℕ) × (length left ≤ length bytes)
    × (after ≡ Tore at bytes left ∷ events)
FailsAfter (Tore at asked left) events after = ⊥
FailsAfter (Cut len) events after = ⊥
FailsAfter (CutShort len left) events after = ⊥
FailsAfter Synced events after = after ≡ events

-- some of these writes and syncs were done, or all, from the first on in their order; behind them one more may have
-- failed
abbrev pub IsFrontOfEvents : List Event → List Event → List Event → Type 0
IsFrontOfEvents [] events after = after ≡ events
IsFrontOfEvents (event ∷ more) events after = (after ≡ events)
    ⊎ (FailsAfter event events after ⊎ IsFrontOfEvents more (event ∷ events) after)

-- A commit of this superblock came so far, on a disk that reaches past both places and had made sure of all that it
-- held: its history was then a sync behind the events before.
pub record Committing (before nodes : List Event) (super : Super) (after : List Event) : Type 0 where
  pub long : second_place + super_bytes ≤ length (content before)
  pub apart : All IsApart nodes
  pub may_be_written : IsTrue (is_super super)
  pub so_far : IsFrontOfEvents (commit_events nodes super) (Synced ∷ before) after

-- the moment at which a commit began
abbrev pub begin_of : List Event → ℕ
begin_of before = length before + 1

-- the moment at which all nodes of a commit were made sure of
abbrev pub nodes_synced : List Event → List Event → ℕ
nodes_synced before nodes = begin_of before + length nodes + 1

-- A crash at this moment, no earlier than the commit began, may have left this image, and no torn superblock of it
-- matches its checksum by chance.
pub record Crashing (before after : List Event) (image : List ℕ) (moment : ℕ) : Type 0 where
  pub leaves : LeavesSince (begin_of before) after image moment
  pub no_chance : NoChanceSince (begin_of before) after image moment
