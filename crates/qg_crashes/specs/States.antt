-- Which state an image stands for that a crash left, in the midst of a commit or of opening (this project's own).
use Rattle.std.specs.Prelude.{◌≡◌, ◌⊎◌, ℕ, ◌+◌, ◌<◌, ◌≤◌, not, All, IsTrue, List, ◌∷◌, Some, ◌==◌}
use Rattle.std.specs.List.{list_any}
use Rattle.qg_device.specs.History.{Event, Wrote, Synced, content}
use Rattle.qg_node.specs.declared.node.Node.{Node}
use Rattle.qg_node.specs.Nodes.{header_of}
use Rattle.qg_super.specs.declared.superblock.Super.{Super}
use Rattle.qg_super.specs.Places.{first_place, second_place}
use Rattle.qg_super.specs.SuperText.{super_text}
use Rattle.qg_image.specs.State.{Committed, State}
use Rattle.qg_image.specs.ImageState.{super_in}
use Rattle.qg_image.specs.StateOf.{StateOf}
use Rattle.qg_crashes.specs.Committing.{Crashing, nodes_synced}
use Rattle.qg_crashes.specs.Repairing.{Repairing}
use Rattle.qg_crashes.specs.Slots.{Writing, node_events, with_whole}

-- ---- a commit

-- an image stands for this state, and both its places hold the superblock that counts: so it is behind a commit, and
-- behind opening
pub record IsMirrored (state : State) (image : List ℕ) : Type 0 where
  pub stands : StateOf image state
  pub first : super_in image first_place ≡ Some stands.super
  pub second : super_in image second_place ≡ Some stands.super

-- the node lies where the last commit holds none
abbrev pub IsApartFrom : Committed → Node → Type 0
IsApartFrom held node = IsTrue (not (list_any (λ address. address == (header_of node).address) held.nodes))

-- A commit came so far that leads from one state to the next: the disk stood for the old one, no node is written where
-- that holds one, and once the whole commit is done the disk stands for the new one, which is later and of the same
-- sizes
pub record Replacing (old new : State) (before : List Event) (nodes : List Node) (super : Super)
    (after : List Event) : Type 0 where
  pub writes : Writing before nodes super after
  pub was : IsMirrored old (content before)
  pub apart : All (IsApartFrom old.held) nodes
  pub becomes : StateOf (content (with_whole nodes super before)) new
  pub later : old.generation < new.generation
  pub same_sizes : new.sizes ≡ old.sizes

-- the moment at which the first place of a commit was made sure of
abbrev pub first_synced : List Event → List Node → Super → ℕ
first_synced before nodes super = nodes_synced before (node_events super.nodesize nodes) + 2

-- any image that a crash in its midst leaves stands for the old state or for the new one
abbrev pub LeavesEitherState : Type 0
LeavesEitherState = (old new : State) (before : List Event) (nodes : List Node) (super : Super) (after : List Event)
    (image : List ℕ) (moment : ℕ)
    → Replacing old new before nodes super after → Crashing before after image moment
    → StateOf image old ⊎ StateOf image new

-- for the old one, until the write of the first place begins
abbrev pub LeavesTheOldState : Type 0
LeavesTheOldState = (old new : State) (before : List Event) (nodes : List Node) (super : Super) (after : List Event)
    (image : List ℕ) (moment : ℕ)
    → Replacing old new before nodes super after → Crashing before after image moment
    → moment ≤ nodes_synced before (node_events super.nodesize nodes) → StateOf image old

-- for the new one, from the sync of the first place on
abbrev pub LeavesTheNewState : Type 0
LeavesTheNewState = (old new : State) (before : List Event) (nodes : List Node) (super : Super) (after : List Event)
    (image : List ℕ) (moment : ℕ)
    → Replacing old new before nodes super after → Crashing before after image moment
    → first_synced before nodes super ≤ moment → StateOf image new

-- once the whole commit is done, both places hold its superblock
abbrev pub MirrorsTheNewState : Type 0
MirrorsTheNewState = (old new : State) (before : List Event) (nodes : List Node) (super : Super)
    → Replacing old new before nodes super (with_whole nodes super before)
    → IsMirrored new (content (with_whole nodes super before))

-- ---- opening

-- while opening repairs a stale place, any image that a crash leaves stands for the state that the disk stood for
abbrev pub RepairLeavesTheState : Type 0
RepairLeavesTheState = (state : State) (before after : List Event) (super : Super) (image : List ℕ) (moment : ℕ)
    → StateOf (content before) state
    → Repairing before first_place second_place super after ⊎ Repairing before second_place first_place super after
    → Crashing before after image moment → StateOf image state

-- what was done once a place was written and made sure of, as an image was opened
abbrev pub with_place : ℕ → Super → List Event → List Event
with_place place super before = Synced ∷ Wrote place (super_text place super) ∷ Synced ∷ before

-- then both places hold the superblock that counts
abbrev pub RepairMirrors : Type 0
RepairMirrors = (state : State) (before : List Event) (super : Super) → StateOf (content before) state
    → (Repairing before first_place second_place super (with_place first_place super before)
    → IsMirrored state (content (with_place first_place super before)))
    × (Repairing before second_place first_place super (with_place second_place super before)
    → IsMirrored state (content (with_place second_place super before)))
